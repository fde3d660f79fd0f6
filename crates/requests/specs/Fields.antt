-- Numbers in a line. (01, The bench program: every number is low byte first)
-- Assumes nothing.
use Rattle.std.specs.Prelude.{ℕ, ◌+◌, ◌*◌, List, get_or}

unfoldable pub pair_at : ℕ → List ℕ → ℕ
pair_at at line = get_or line at 0 + get_or line (at + 1) 0 * 256

unfoldable pub quad_at : ℕ → List ℕ → ℕ
quad_at at line = pair_at at line + pair_at (at + 2) line * 65536
