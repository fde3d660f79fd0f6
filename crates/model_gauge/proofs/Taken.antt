-- The frame reader finds a frame's address and its bytes; whether they lie in the window decides the rest.
-- Assumes nothing.
use Prim.Native.Nat.{ℕ, ◌+◌, ◌-◌, ◌*◌, ◌≤◌, ◌<◌, min}
use mathlib.Core.Path.{◌≡◌, refl, sym, ap, ◌∙◌}
use mathlib.Core.Bool.{Bool, true, false}
use mathlib.Core.Logic.{⊎_map}
use mathlib.Core.List.{List, [], ◌∷◌, ◌++◌, append_assoc, append-nil}
use native.Mathlib.Omega.{arith}
use lib.ListN.{length, take, drop, length-drop, drop_of_length-le}
use lib.Dec.{leb}
use lib.Seq.{take_all, take-length, take-append_seam, drop-drop}
use borrow.Author.Tests.{leb-true, leb-false}
use Rattle.smbus_pec.specs.Pec.{pec_of}
use Rattle.protocol.specs.Pick.{when◌then◌else◌}
use Rattle.protocol.specs.Bytes.{stored_at}
use Rattle.protocol.specs.Frame.{sealed}
use Rattle.protocol.specs.Window.{in_window}
use Rattle.protocol.proofs.Shared.{laws}
use Rattle.protocol.proofs.WindowLaws.{inside, outside}
use Rattle.model_gauge.specs.Frame.{read_frame}
use Rattle.model_gauge.specs.Gauge.{taken as taking, untaken, heard_frame, acts, effect_of}
use Rattle.model_gauge.specs.Forms.{counted}
use Rattle.model_gauge.specs.Taken.{Taken, sent}
use Rattle.model_gauge.specs.declared.frame.Form.TheVariants as form
use Rattle.model_gauge.specs.declared.gauge.Gauge.{Gauge}
use Rattle.model_gauge.proofs.Laws.{stores}
use Rattle.model_gauge.proofs.Forms.{forms}

-- ---- what is stored from a place on

laid : (o room : ℕ) (bytes flash : List ℕ) → room ≡ min (length bytes) (length flash - o)
    → stored_at o (length bytes) bytes flash ≡ take o flash ++ take room bytes ++ drop (o + room) flash
laid o room bytes flash r = by (leb o (length flash)) refl
  where
    by : (t : Bool) → leb o (length flash) ≡ t → stored_at o (length bytes) bytes flash ≡ take o flash ++ take room bytes ++ drop (o + room) flash
    by true t =
        let starts : o ≤ length flash = leb-true o (length flash) t in
        let left : length (drop o flash) ≡ length flash - o = length-drop o flash in
        laws.stores o (length bytes) bytes flash starts
        ∙ ap (λ (l : List ℕ). take o flash ++ l) (laws.copies (length bytes) room bytes (drop o flash) (omega arith) ∙ rw drop-drop)
        ∙ sym (append_assoc (take o flash) (take room bytes) (drop (o + room) flash))
    by false t =
        let past : length flash < o = leb-false o (length flash) t in
        let none : room ≡ 0 = omega arith in
        let all : take o flash ≡ flash = take_all o flash (omega arith) in
        let rest : drop (o + room) flash ≡ [] = drop_of_length-le flash {i = o + room} (omega arith) in
        laws.stores_none o (length bytes) bytes flash past ∙ sym (rw (all, rest, none) (append-nil (flash ++ []) ∙ append-nil flash))

-- ---- by what was read

module _ (frame : List ℕ) (at : ℕ) (gauge : Gauge) (flash : List ℕ) where
  block_in : (bytes : List ℕ) → read_frame frame ≡ form.BlockWrite at (length bytes) → in_window at (length bytes) ≡ true → take (length bytes) (drop 4 frame) ≡ bytes
      → sent frame gauge flash ≡ taking [] gauge (stored_at (at - 0x4000) (length bytes) bytes flash)
  unfolding effect_of acts heard_frame when◌then◌else◌
  block_in bytes read w back = rw (read, w, back)

  block_out : (n : ℕ) → read_frame frame ≡ form.BlockWrite at n → in_window at n ≡ false → sent frame gauge flash ≡ untaken gauge flash
  unfolding effect_of acts heard_frame when◌then◌else◌
  block_out n read w = rw (read, w)

  address_in : read_frame frame ≡ form.Address at → in_window at 1 ≡ true → sent frame gauge flash ≡ taking [] (record { pointer = at }) flash
  unfolding effect_of acts heard_frame when◌then◌else◌
  address_in read w = rw (read, w)

  address_out : read_frame frame ≡ form.Address at → in_window at 1 ≡ false → sent frame gauge flash ≡ untaken gauge flash
  unfolding effect_of acts heard_frame when◌then◌else◌
  address_out read w = rw (read, w)

-- ---- of the frames themselves

-- a block's bytes are the frame's fifth and on
data_back : (pec : Bool) (low high : ℕ) (bytes : List ℕ) → take (length bytes) (drop 4 (counted pec low high bytes)) ≡ bytes
unfolding sealed when◌then◌else◌
data_back false low high bytes = take-length bytes
data_back true low high bytes = take-append_seam bytes (pec_of 0 (0x16 ∷ 0x44 ∷ (length bytes + 2) ∷ low ∷ high ∷ bytes) ∷ [])

block_read : (pec : Bool) (low high at : ℕ) (bytes : List ℕ) → at ≡ high * 256 + low → 1 ≤ length bytes → length bytes ≤ 32
    → read_frame (counted pec low high bytes) ≡ form.BlockWrite at (length bytes)
block_read pec low high at bytes here some few = rw here (forms.block pec low high bytes some few)

address_read : (pec : Bool) (low high at : ℕ) → at ≡ high * 256 + low → read_frame (counted pec low high []) ≡ form.Address at
address_read pec low high at here = rw here (forms.address pec low high)

-- what the gauge makes of a block write and of an address
pub taken : Taken
unfolding effect_of
taken = record {
  block = λ pec low high at room bytes flash gauge here fits some few from to.
      block_in (counted pec low high bytes) at gauge flash bytes (block_read pec low high at bytes here some few) (inside at (length bytes) from to) (data_back pec low high bytes)
      ∙ ap (λ (l : List ℕ). taking [] gauge l) (laid (at - 0x4000) room bytes flash fits);
  block_outside = λ pec low high at bytes flash gauge here some few off.
      block_out (counted pec low high bytes) at gauge flash (length bytes) (block_read pec low high at bytes here some few) (outside at (length bytes) some off);
  address = λ pec low high at flash gauge here from to.
      address_in (counted pec low high []) at gauge flash (address_read pec low high at here) (inside at 1 from (omega arith));
  address_outside = λ pec low high at flash gauge here off.
      address_out (counted pec low high []) at gauge flash (address_read pec low high at here) (outside at 1 (omega arith) (⊎_map (λ h. h) (λ h. omega arith) off));
  wherever = λ frame flash gauge. stores frame gauge flash;
}
