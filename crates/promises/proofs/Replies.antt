-- The gauge's reply, as the reading call hears it: of the number asked, believed with a PEC or without, and its data is the flash's.
-- Assumes nothing.
use Rattle.std.specs.Prelude.{Err, Ok}
use Prim.Native.Nat.{ℕ, suc, ◌+◌, ◌-◌, ◌≤◌, min}
use mathlib.Core.Path.{◌≡◌, refl, sym, ap, subst, ◌∙◌}
use mathlib.Core.Bool.{Bool, true, false}
use mathlib.Core.List.{List, [], ◌∷◌, ◌++◌}
use native.Mathlib.Omega.{arith}
use lib.ListN.{length, take, drop, get_or, replicate, length-append, length-take, length-drop}
use lib.Seq.{take_all, take-take, take-append-le, take-append_seam, get_or-append_seam, length-take-le, take_at}
use borrow.Author.Tests.{eq-eqb, ne_eqb}
use Rattle.smbus_pec.specs.Pec.{pec_of}
use Rattle.protocol.specs.Pick.{when◌then◌else◌}
use Rattle.protocol.specs.Reply.{mac_ask, lead_of, around_of, bytes_asked, checked_of, heard_of, data_of}
use Rattle.protocol.specs.declared.reply.Unheard.TheVariants as unheard
use Rattle.protocol.proofs.Cases.{not_eq}
use Rattle.protocol.proofs.Shared.{laws}
use Rattle.reading.specs.Parts.{block_ask}
use Rattle.model_gauge.specs.Gauge.{offset_of, reply_of}
use Rattle.model_gauge.specs.Replies.{said}
use Rattle.model_gauge.specs.declared.gauge.Gauge.{Gauge}
use Rattle.model_gauge.proofs.Replies.{replied}
use Rattle.original.proofs.Replies.{checked_last}

module _ (gauge : Gauge) (flash : List ℕ) where
  reply_long : length (reply_of gauge flash) ≡ 36
  reply_long = replied.whole gauge flash

  -- its last byte is its PEC
  reply_checked : checked_of 0x44 (reply_of gauge flash) ≡ true
  unfolding checked_of
  reply_checked = sym (by (reply_of gauge flash) (replied.reply gauge flash) reply_long)
    where
      by : (r : List ℕ) → r ≡ said gauge.pointer flash ++ (pec_of 0 (0x16 ∷ 0x44 ∷ 0x17 ∷ said gauge.pointer flash) ∷ []) → length r ≡ 36 → true ≡ checked_of 0x44 r
      by r is long =
          let more : length r ≡ length (said gauge.pointer flash) + 1 = ap length is ∙ length-append (said gauge.pointer flash) _ in
          let at : length r - 1 ≡ length (said gauge.pointer flash) = omega arith in
          let front : take (length r - 1) r ≡ said gauge.pointer flash = rw (at, is) (take-append_seam (said gauge.pointer flash) _) in
          let last : get_or r (length r - 1) 0 ≡ pec_of 0 (0x16 ∷ 0x44 ∷ 0x17 ∷ said gauge.pointer flash) = rw (at, is) (get_or-append_seam (said gauge.pointer flash) _ [] 0) in
          not_eq (length r) 0 _ _ _ (λ z. omega arith)
          (sym (eq-eqb _ _ (ap (λ (l : List ℕ). pec_of 0 (0x16 ∷ 0x44 ∷ 0x17 ∷ l)) front ∙ sym last)))

-- the number of bytes that a block's read asks for
pub count_of : (pec : Bool) (left : ℕ) → bytes_asked (block_ask left pec) ≡ (when pec then 36 else min 32 left + 3)
unfolding block_ask mac_ask bytes_asked around_of lead_of when◌then◌else◌
count_of true left = refl
count_of false left = omega arith

module _ (gauge : Gauge) (flash : List ℕ) (pec : Bool) (left : ℕ) where
  -- what is heard of a read
  abbrev pub cut_reply : List ℕ
  cut_reply = take (bytes_asked (block_ask left pec)) (reply_of gauge flash)

-- a reply that the gauge gives is believed
pub reply_good : (gauge : Gauge) (flash : List ℕ) (pec : Bool) (left : ℕ) → heard_of (block_ask left pec) (cut_reply gauge flash pec left) ≡ (Ok tt)
unfolding heard_of block_ask mac_ask bytes_asked around_of lead_of when◌then◌else◌
reply_good gauge flash true left =
    let whole : take 36 (reply_of gauge flash) ≡ reply_of gauge flash = take_all 36 (reply_of gauge flash) (omega (arith, reply_long gauge flash)) in
    rw (whole, eq-eqb 36 (length (reply_of gauge flash)) (sym (reply_long gauge flash)), reply_checked gauge flash)
reply_good gauge flash false left =
    let n : min (min 32 left + 3) 18446744073709551615 ≤ length (reply_of gauge flash) = omega (arith, reply_long gauge flash) in
    rw (eq-eqb (min (min 32 left + 3) 18446744073709551615) _ (sym (length-take-le _ (reply_of gauge flash) n)))

-- a reply of the number asked whose last byte is not its PEC is not
pub reply_damaged : (left : ℕ) (front : List ℕ) (last : ℕ) → length front ≡ 35 → (pec_of 0 (0x16 ∷ 0x44 ∷ 0x17 ∷ front) ≡ last → ⊥)
    → heard_of (block_ask left true) (front ++ (last ∷ [])) ≡ (Err unheard.WrongPec)
unfolding block_ask mac_ask when◌then◌else◌
reply_damaged left front last full other =
    let long : length (front ++ (last ∷ [])) ≡ 36 = length-append front (last ∷ []) ∙ rw full refl in
    laws.wrong_pec (block_ask left true) (front ++ (last ∷ [])) (count_of true left ∙ sym long) refl
    (checked_last 0x44 35 (front ++ (last ∷ [])) long
    ∙ rw (take_at front (last ∷ []) 35 full, ends) (ne_eqb last (pec_of 0 (0x16 ∷ 0x44 ∷ 0x17 ∷ front)) (λ e. other (sym e))))
  where
    ends : get_or (front ++ (last ∷ [])) 35 0 ≡ last
    ends = subst (λ (n : ℕ). get_or (front ++ (last ∷ [])) n 0 ≡ last) full (get_or-append_seam front last [] 0)

-- a part of the 32 bytes that a reply brings, all of it inside the flash, is the flash's
brought : (c d at : ℕ) (flash end : List ℕ) → c ≤ d → c ≤ 32 → at + c ≤ length flash
    → take c (take d (take 32 (drop at flash ++ replicate 32 0xFF) ++ end)) ≡ take c (drop at flash)
brought c d at flash end small few fits =
    let n : c ≤ length (take 32 (drop at flash ++ replicate 32 0xFF)) = simp (length-take, length-append, length-drop) (omega arith) in
    take-take c d _ small ∙ take-append-le c _ end n ∙ take-take c 32 _ few ∙ take-append-le c (drop at flash) _ (rw length-drop (omega arith))

-- the part of its data that is handed over is the flash's
pub reply_data : (gauge : Gauge) (flash : List ℕ) (pec : Bool) (left : ℕ) → offset_of gauge.pointer + min 32 left ≤ length flash
    → take (min 32 left) (data_of (block_ask left pec) (cut_reply gauge flash pec left)) ≡ take (min 32 left) (drop (offset_of gauge.pointer) flash)
unfolding data_of block_ask mac_ask bytes_asked around_of lead_of when◌then◌else◌
reply_data gauge flash true left fits =
    rw (replied.reply gauge flash) (take-take (min 32 left) 32 _ (omega arith) ∙ brought (min 32 left) 33 (offset_of gauge.pointer) flash _ (omega arith) (omega arith) fits)
reply_data gauge flash false left fits =
    let e : min (min 32 left + 3) 18446744073709551615 ≡ suc (suc (suc (min 32 left))) = omega arith in
    rw (e, replied.reply gauge flash)
    (take-take (min 32 left) (min 32 left) _ (omega arith) ∙ brought (min 32 left) (min 32 left) (offset_of gauge.pointer) flash _ (omega arith) (omega arith) fits)
