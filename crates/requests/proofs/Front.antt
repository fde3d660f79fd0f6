-- Whether a kind is retired is said by the first two characters of its line.
-- Assumes nothing.
use Prim.Native.Nat.{ℕ, zero, suc, ◌≤◌}
use mathlib.Core.Path.{◌≡◌, refl}
use mathlib.Core.List.{List, [], ◌∷◌}
use native.Mathlib.Omega.{arith}
use lib.ListN.{take}
use Rattle.requests.specs.Retired.{retired_kind}

pub retired_front : (line : List ℕ) (n : ℕ) → 2 ≤ n → retired_kind (take n line) ≡ retired_kind line
unfolding retired_kind
retired_front line zero h = absurd (omega arith)
retired_front line (suc zero) h = absurd (omega arith)
retired_front [] (suc (suc n)) h = refl
retired_front (a ∷ []) (suc (suc n)) h = refl
retired_front (a ∷ b ∷ line) (suc (suc n)) h = refl
