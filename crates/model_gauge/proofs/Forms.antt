-- A frame that is as long as its count says, or has its PEC besides, is read by that count, and no other frame is read at all.
-- Assumes nothing.
use Prim.Native.Nat.{ℕ, suc, ◌+◌, ◌-◌, ◌*◌, ◌≤◌}
use mathlib.Core.Path.{◌≡◌, refl, sym, ap, ◌∙◌}
use mathlib.Core.Bool.{Bool, true, false}
use mathlib.Core.List.{List, [], ◌∷◌, ◌++◌}
use native.Mathlib.Omega.{arith}
use lib.ListN.{length, take, drop, get_or, length-append, length-take, drop_of_length-le}
use lib.Dec.{ltb, eqb}
use lib.Seq.{take-length, take_at, get_or_at, split_at}
use borrow.Author.Tests.{le-ltb, eq-eqb, ne_eqb, eqb-true, ltb-false}
use Rattle.smbus_pec.specs.Pec.{pec_of}
use Rattle.protocol.specs.Pick.{when◌then◌else◌}
use Rattle.protocol.specs.Frame.{sealed}
use Rattle.model_gauge.specs.Frame.{whole_of, form_of, read_frame}
use Rattle.model_gauge.specs.Forms.{Forms, counted}
use Rattle.model_gauge.specs.declared.frame.Form.{Form}
use Rattle.model_gauge.specs.declared.frame.Form.TheVariants as form

-- ---- a frame with its count

sealed_whole : (pec : Bool) (f : List ℕ) (n : ℕ) → length f ≡ n + 2 → whole_of (sealed pec f) n ≡ true
unfolding sealed whole_of when◌then◌else◌
sealed_whole false f n h = rw (eq-eqb (length f) (n + 2) h)
sealed_whole true f n h =
    let p = pec_of 0 (0x16 ∷ f) in
    let long : length (f ++ (p ∷ [])) ≡ n + 2 + 1 = simp length-append (omega arith) in
    rw (ne_eqb (length (f ++ (p ∷ []))) (n + 2) (λ e. omega arith), eq-eqb (length (f ++ (p ∷ []))) (n + 2 + 1) long, take_at f (p ∷ []) (n + 2) h, get_or_at f p [] 0 (n + 2) h) (eq-eqb p p refl)

read_whole : (n low high : ℕ) (rest : List ℕ) → whole_of (0x44 ∷ n ∷ low ∷ high ∷ rest) n ≡ true
    → read_frame (0x44 ∷ n ∷ low ∷ high ∷ rest) ≡ form_of n (high * 256 + low)
unfolding read_frame when◌then◌else◌
read_whole n low high rest h = rw (le-ltb (length (0x44 ∷ n ∷ low ∷ high ∷ rest)) 4 (omega arith), h)

read_counted : (pec : Bool) (low high : ℕ) (bytes : List ℕ) → read_frame (counted pec low high bytes) ≡ form_of (length bytes + 2) (high * 256 + low)
unfolding sealed when◌then◌else◌
read_counted false low high bytes = read_whole (length bytes + 2) low high bytes (sealed_whole false (0x44 ∷ (length bytes + 2) ∷ low ∷ high ∷ bytes) (length bytes + 2) (omega arith))
read_counted true low high bytes =
    read_whole (length bytes + 2) low high (bytes ++ (pec_of 0 (0x16 ∷ 0x44 ∷ (length bytes + 2) ∷ low ∷ high ∷ bytes) ∷ [])) (sealed_whole true (0x44 ∷ (length bytes + 2) ∷ low ∷ high ∷ bytes) (length bytes + 2) (omega arith))

block_form : (n address : ℕ) → 1 ≤ n → n ≤ 32 → form_of (n + 2) address ≡ form.BlockWrite address n
unfolding form_of when◌then◌else◌
block_form n address h k =
    let less : n + 2 - 2 ≡ n = omega arith in
    rw (ne_eqb (n + 2) 2 (λ e. omega arith), le-ltb (n + 2) 3 (omega arith), le-ltb 34 (n + 2) (omega arith), less)

-- ---- and no other

-- a form that was read is that of the count
block_count : (n address at count : ℕ) → form_of n address ≡ form.BlockWrite at count → (at ≡ address) × (n ≡ count + 2) × (1 ≤ count) × (count ≤ 32)
unfolding form_of when◌then◌else◌
block_count n address at count e = by (eqb n 2) refl (ltb n 3) refl (ltb 34 n) refl
  where
    by : (a : Bool) → eqb n 2 ≡ a → (b : Bool) → ltb n 3 ≡ b → (c : Bool) → ltb 34 n ≡ c → (at ≡ address) × (n ≡ count + 2) × (1 ≤ count) × (count ≤ 32)
    by true a b p c q = let z : ◌≡◌ {A = ℕ} 0 1 = cc (rw a at e) in absurd (omega arith)
    by false a true p c q = let z : ◌≡◌ {A = ℕ} 0 1 = cc (rw (a, p) at e) in absurd (omega arith)
    by false a false p true q = let z : ◌≡◌ {A = ℕ} 0 1 = cc (rw (a, p, q) at e) in absurd (omega arith)
    by false a false p false q =
        let here : at ≡ address = cc (rw (a, p, q) at e) in
        let less : n - 2 ≡ count = cc (rw (a, p, q) at e) in
        let many : 3 ≤ n = ltb-false _ _ p in
        let few : n ≤ 34 = ltb-false _ _ q in
        (here, omega arith, omega arith, omega arith)

address_count : (n address at : ℕ) → form_of n address ≡ form.Address at → (at ≡ address) × (n ≡ 2)
unfolding form_of when◌then◌else◌
address_count n address at e = by (eqb n 2) refl (ltb n 3) refl (ltb 34 n) refl
  where
    by : (a : Bool) → eqb n 2 ≡ a → (b : Bool) → ltb n 3 ≡ b → (c : Bool) → ltb 34 n ≡ c → (at ≡ address) × (n ≡ 2)
    by true a b p c q = (cc (rw a at e), eqb-true _ _ a)
    by false a true p c q = let z : ◌≡◌ {A = ℕ} 0 1 = cc (rw (a, p) at e) in absurd (omega arith)
    by false a false p true q = let z : ◌≡◌ {A = ℕ} 0 1 = cc (rw (a, p, q) at e) in absurd (omega arith)
    by false a false p false q = let z : ◌≡◌ {A = ℕ} 0 1 = cc (rw (a, p, q) at e) in absurd (omega arith)

-- a whole frame is what its count says, with nothing after it or its PEC
whole_sealed : (f : List ℕ) (n : ℕ) → whole_of f n ≡ true → (pec : Bool) × (f ≡ sealed pec (take (n + 2) f)) × (n + 2 ≤ length f)
unfolding whole_of sealed when◌then◌else◌
whole_sealed f n e = by (eqb (length f) (n + 2)) refl (eqb (length f) (n + 2 + 1)) refl
  where
    by : (a : Bool) → eqb (length f) (n + 2) ≡ a → (b : Bool) → eqb (length f) (n + 2 + 1) ≡ b → (pec : Bool) × (f ≡ sealed pec (take (n + 2) f)) × (n + 2 ≤ length f)
    by true a b p = let long : length f ≡ n + 2 = eqb-true _ _ a in (false, rw (← long, take-length), omega arith)
    by false a true p =
        let long : length f ≡ n + 2 + 1 = eqb-true _ _ p in
        let last : pec_of 0 (0x16 ∷ take (n + 2) f) ≡ get_or f (n + 2) 0 = eqb-true _ _ (rw (a, p) at e) in
        let end : length f ≤ suc (n + 2) = omega arith in
        let done : drop (suc (n + 2)) f ≡ [] = drop_of_length-le f end in
        (true, split_at f (n + 2) 0 (omega arith) ∙ rw (done, last), omega arith)
    by false a false p = let z : ◌≡◌ {A = ℕ} 0 1 = cc (rw (a, p) at e) in absurd (omega arith)

-- what was read begins with 44, a count and an address, is whole, and has the form of that count
abbrev Read : List ℕ → Form → Type 0
Read frame x =
    (n : ℕ) × (low : ℕ) × (high : ℕ) × (rest : List ℕ) × (frame ≡ 0x44 ∷ n ∷ low ∷ high ∷ rest) × (whole_of (0x44 ∷ n ∷ low ∷ high ∷ rest) n ≡ true) × (form_of n (high * 256 + low) ≡ x)

was_read : (frame : List ℕ) (x : Form) → (form.Other ≡ x → ⊥) → read_frame frame ≡ x → Read frame x
unfolding read_frame when◌then◌else◌
was_read [] x some e = absurd (some e)
was_read (a ∷ []) x some e = absurd (some e)
was_read (a ∷ b ∷ []) x some e = absurd (some e)
was_read (a ∷ b ∷ c ∷ []) x some e = absurd (some e)
was_read (command ∷ n ∷ low ∷ high ∷ rest) x some e = by (eqb command 0x44) refl (whole_of (command ∷ n ∷ low ∷ high ∷ rest) n) refl
  where
    long : ltb (length (command ∷ n ∷ low ∷ high ∷ rest)) 4 ≡ false
    long = le-ltb (length (command ∷ n ∷ low ∷ high ∷ rest)) 4 (omega arith)

    by : (a : Bool) → eqb command 0x44 ≡ a → (b : Bool) → whole_of (command ∷ n ∷ low ∷ high ∷ rest) n ≡ b → Read (command ∷ n ∷ low ∷ high ∷ rest) x
    by false a b p = absurd (some (rw (long, a) at e))
    by true a false p = absurd (some (rw (long, a, p) at e))
    by true a true p =
        let mac : command ≡ 0x44 = eqb-true command 0x44 a in
        (n, low, high, rest, ap (λ (x : ℕ). x ∷ n ∷ low ∷ high ∷ rest) mac, sym (ap (λ (x : ℕ). whole_of (x ∷ n ∷ low ∷ high ∷ rest) n) mac) ∙ p, rw (long, a, p) at e)

-- its bytes are those that the count speaks of
was_counted : (n low high k : ℕ) (rest : List ℕ) → whole_of (0x44 ∷ n ∷ low ∷ high ∷ rest) n ≡ true → n ≡ k + 2
    → (pec : Bool) × (bytes : List ℕ) × (0x44 ∷ n ∷ low ∷ high ∷ rest ≡ counted pec low high bytes) × (k ≡ length bytes)
was_counted n low high k rest w e =
    let whole = whole_sealed (0x44 ∷ n ∷ low ∷ high ∷ rest) n w in
    let more : n + 2 ≡ suc (suc (suc (suc k))) = omega arith in
    let room : n + 2 ≤ length (0x44 ∷ n ∷ low ∷ high ∷ rest) = whole.2 in
    let many : length (take k rest) ≡ k = simp length-take (omega arith) in
    let count : n ≡ length (take k rest) + 2 = omega (arith, many) in
    let same : 0x44 ∷ n ∷ low ∷ high ∷ rest ≡ sealed whole.0 (0x44 ∷ n ∷ low ∷ high ∷ take k rest) = rw more at whole.1 in
    (whole.0, take k rest, same ∙ ap (λ (m : ℕ). sealed whole.0 (0x44 ∷ m ∷ low ∷ high ∷ take k rest)) count, sym many)

nothing : (l : List ℕ) → 0 ≡ length l → l ≡ []
nothing [] e = refl
nothing (x ∷ l) e = absurd (omega arith)

block_is : (frame : List ℕ) (address count : ℕ) → read_frame frame ≡ form.BlockWrite address count
    → (pec : Bool) × (low : ℕ) × (high : ℕ) × (bytes : List ℕ) × (frame ≡ counted pec low high bytes)
    × (address ≡ high * 256 + low) × (count ≡ length bytes) × (1 ≤ count) × (count ≤ 32)
block_is frame address count e =
    let (n, low, high, rest, here, w, f) = was_read frame (form.BlockWrite address count) (λ o. let z : ◌≡◌ {A = ℕ} 0 1 = cc o in absurd (omega arith)) e in
    let (at, more, some, few) = block_count n (high * 256 + low) address count f in
    let (pec, bytes, same, many) = was_counted n low high count rest w more in
    (pec, low, high, bytes, here ∙ same, at, many, some, few)

address_is : (frame : List ℕ) (address : ℕ) → read_frame frame ≡ form.Address address
    → (pec : Bool) × (low : ℕ) × (high : ℕ) × (frame ≡ counted pec low high []) × (address ≡ high * 256 + low)
address_is frame address e =
    let (n, low, high, rest, here, w, f) = was_read frame (form.Address address) (λ o. let z : ◌≡◌ {A = ℕ} 0 1 = cc o in absurd (omega arith)) e in
    let (at, more) = address_count n (high * 256 + low) address f in
    let (pec, bytes, same, many) = was_counted n low high 0 rest w more in
    let none : bytes ≡ [] = nothing bytes many in
    (pec, low, high, here ∙ same ∙ ap (λ (b : List ℕ). counted pec low high b) none, at)

-- which frames are read as what
pub forms : Forms
unfolding form_of when◌then◌else◌
forms = record {
  block = λ pec low high bytes h k. read_counted pec low high bytes ∙ block_form (length bytes) (high * 256 + low) h k;
  block_only = block_is;
  address = λ pec low high. read_counted pec low high [];
  address_only = address_is;
}
