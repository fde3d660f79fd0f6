-- The frame reader. (01, The model gauge)
-- Assumes nothing.
use Rattle.std.specs.Prelude.{ℕ, ◌+◌, ◌-◌, ◌*◌, Bool, true, false, List, ◌∷◌, length, take, get_or, ltb, eqb}
use Rattle.smbus_pec.specs.Pec.{pec_of}
use Rattle.protocol.specs.Pick.{when◌then◌else◌}
use Rattle.model_gauge.specs.declared.frame.Form.{Form}
use Rattle.model_gauge.specs.declared.frame.Form.TheVariants as form

-- the count speaks of the bytes after it; one byte beyond the counted length is a PEC, of 16 and the frame before it
unfoldable pub whole_of : List ℕ → ℕ → Bool
whole_of frame count =
    when eqb (length frame) (count + 2) then true else
    when eqb (length frame) (count + 2 + 1) then eqb (pec_of 0 (0x16 ∷ take (count + 2) frame)) (get_or frame (count + 2) 0)
    else false

-- two bytes after the count are an address; 3 to 34 are an address and 1 to 32 bytes to store there
unfoldable pub form_of : ℕ → ℕ → Form
form_of count address =
    when eqb count 2 then form.Address address else
    when ltb count 3 then form.Other else
    when ltb 34 count then form.Other else form.BlockWrite address (count - 2)

-- 44, the count, the address low byte first, the data
unfoldable pub read_frame : List ℕ → Form
read_frame frame =
    when ltb (length frame) 4 then form.Other else
    when eqb (get_or frame 0 0) 0x44 then
    (when whole_of frame (get_or frame 1 0) then form_of (get_or frame 1 0) (get_or frame 3 0 * 256 + get_or frame 2 0) else form.Other)
    else form.Other
