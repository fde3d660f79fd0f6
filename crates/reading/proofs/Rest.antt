-- What the heads come to that have no row of their own, for the functions that give the rest of them one answer.
-- Assumes nothing.
use Prim.Native.Nat.{ℕ}
use mathlib.Core.Path.{◌≡◌, refl}
use mathlib.Core.Bool.{true}
use Rattle.reading.specs.Parts.{has_head, first_address}
use Rattle.reading.specs.declared.parts.Head.{Head}
use Rattle.reading.specs.declared.parts.Head.TheVariants as head

-- any but none
pub some : (h : Head) → (h ≡ head.Bare → ⊥) → true ≡ has_head h
unfolding has_head
some head.Bare i = absurd (i refl)
some (head.Command address) i = refl
some (head.Mac command) i = refl
some (head.DataFlash start) i = refl

-- any but that of data flash
pub elsewhere : (h : Head) → ((start : ℕ) → h ≡ head.DataFlash start → ⊥) → 0 ≡ first_address h
unfolding first_address
elsewhere head.Bare i = refl
elsewhere (head.Command address) i = refl
elsewhere (head.Mac command) i = refl
elsewhere (head.DataFlash start) i = absurd (i start refl)
