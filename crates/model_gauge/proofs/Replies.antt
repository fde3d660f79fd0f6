-- The gauge replies to a read of 44 of up to 36 bytes; the rest is what it does not take. A reply's 32 bytes are the flash's, and FF where that has no more.
-- Assumes nothing.
use Prim.Native.Nat.{ℕ, zero, suc, ◌+◌, ◌-◌, ◌/◌, ◌%◌, ◌≤◌, ◌<◌, min}
use mathlib.Core.Path.{◌≡◌, refl, ap}
use mathlib.Core.Bool.{true, false}
use mathlib.Core.List.{List, [], ◌∷◌, ◌++◌}
use native.Mathlib.Omega.{arith}
use lib.ListN.{take, drop, replicate}
use lib.Seq.{take-nil}
use borrow.Author.Tests.{le-leb, lt-leb, ne_eqb}
use Rattle.smbus_pec.specs.Pec.{pec_of}
use Rattle.protocol.specs.Pick.{when◌then◌else◌}
use Rattle.protocol.specs.Bytes.{over}
use Rattle.engine.specs.Made.{read}
use Rattle.model_gauge.specs.Gauge.{block_at, reply_front, reply_of, moved_of, replies_to, taken, effect_of}
use Rattle.model_gauge.specs.Replies.{Replies, said, Unreplied}
use Rattle.model_gauge.specs.declared.gauge.Fate.{Fate}
use Rattle.model_gauge.specs.declared.gauge.Fate.TheVariants as fate
use Rattle.model_gauge.specs.declared.gauge.Gauge.{Gauge}
use Rattle.model_gauge.proofs.Laws.{reply_long, read_taken, read_untaken, read_stores}

replies : (count : ℕ) → count ≤ 36 → replies_to 0x44 count ≡ true
unfolding replies_to when◌then◌else◌
replies count h = le-leb count 36 h

no_more : (count : ℕ) → 36 < count → replies_to 0x44 count ≡ false
unfolding replies_to when◌then◌else◌
no_more count h = lt-leb count 36 h

no_other : (command count : ℕ) → (command ≡ 0x44 → ⊥) → replies_to command count ≡ false
unfolding replies_to when◌then◌else◌
no_other command count h = rw (ne_eqb command 0x44 h)

-- a read that the gauge does not reply to is a bus error and leaves the pointer
unreplied : (command count : ℕ) → replies_to command count ≡ false → Unreplied command count
unfolding effect_of
unreplied command count t fate.Heard gauge flash = (read_untaken command count gauge flash t, rw (read_untaken command count gauge flash t))
unreplied command count t fate.LostBefore gauge flash = (read_untaken command count gauge flash t, refl)
unreplied command count t fate.LostAfter gauge flash = (read_untaken command count gauge flash t, rw (read_untaken command count gauge flash t))

flash_still : (f : Fate) (command count : ℕ) (gauge : Gauge) (flash : List ℕ) → (effect_of f (read command count) gauge flash).flash ≡ flash
unfolding effect_of
flash_still fate.Heard command count gauge flash = read_stores command count gauge flash
flash_still fate.LostBefore command count gauge flash = refl
flash_still fate.LostAfter command count gauge flash = read_stores command count gauge flash

asks : (count : ℕ) (gauge : Gauge) (flash : List ℕ) → count ≤ 36
    → effect_of fate.Heard (read 0x44 count) gauge flash ≡ taken (take count (reply_of gauge flash)) (record { pointer = min (gauge.pointer + 32) 0x6000 }) flash
unfolding effect_of moved_of
asks count gauge flash h = read_taken 0x44 count gauge flash (replies count h)

-- n bytes of a list, and v for each that it lacks
filled : (n m v : ℕ) (bytes : List ℕ) → n ≤ m → over (take n bytes) (replicate n v) ≡ take n (bytes ++ replicate m v)
unfolding over
filled zero m v bytes h = refl
filled (suc n) zero v bytes h = absurd (omega arith)
filled (suc n) (suc m) v [] h = ap (λ (l : List ℕ). v ∷ l) (rw take-nil at (filled n m v [] (omega arith)))
filled (suc n) (suc m) v (x ∷ bytes) h = ap (λ (l : List ℕ). x ∷ l) (filled n (suc m) v bytes (omega arith))

front_said : (gauge : Gauge) (flash : List ℕ) → reply_front gauge flash ≡ said gauge.pointer flash
unfolding reply_front block_at
front_said gauge flash = ap (λ (l : List ℕ). 0x22 ∷ gauge.pointer % 256 ∷ gauge.pointer / 256 ∷ l) (filled 32 32 0xFF (drop (gauge.pointer - 0x4000) flash) (omega arith))

reply_said : (gauge : Gauge) (flash : List ℕ) → reply_of gauge flash ≡ said gauge.pointer flash ++ (pec_of 0 (0x16 ∷ 0x44 ∷ 0x17 ∷ said gauge.pointer flash) ∷ [])
unfolding reply_of
reply_said gauge flash = ap (λ (l : List ℕ). l ++ (pec_of 0 (0x16 ∷ 0x44 ∷ 0x17 ∷ l) ∷ [])) (front_said gauge flash)

-- which reads the gauge replies to, and what it replies
pub replied : Replies
replied = record {
  asked = asks;
  too_many = λ count h. unreplied 0x44 count (no_more count h);
  other_command = λ command count h. unreplied command count (no_other command count h);
  flash = flash_still;
  reply = reply_said;
  whole = reply_long;
  handed = λ e. refl;
}
