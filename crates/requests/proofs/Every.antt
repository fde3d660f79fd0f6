-- What holds of a bad line and of every call holds of what any request line asks for.
-- Assumes nothing.
use Prim.Native.Nat.{ℕ, ◌≤◌}
use mathlib.Core.Bool.{Bool, true, false}
use mathlib.Core.List.{List}
use native.Mathlib.Omega.{arith}
use lib.ListN.{length, drop, get_or}
use Rattle.protocol.specs.Pick.{when◌then◌else◌}
use Rattle.calls.specs.declared.kind.Kind.{Kind}
use Rattle.requests.specs.Request.{Request, header_of, bad, called_of, exact_of, asked_of, request_line}
use Rattle.requests.specs.declared.request.Header.{Header}

module _ (P : Request → Type 0) (none : P bad) where
  -- whatever the test says
  either : (t : Bool) (x y : Request) → P x → P y → P (when t then x else y)
  unfolding when◌then◌else◌
  either true x y p q = p
  either false x y p q = q

  -- a payload of exactly so many bytes, or not
  exact : (h : Header) (n : ℕ) (k : Kind) (at payload size : ℕ) → P (called_of k h at size n) → P (exact_of k h at payload size n)
  unfolding exact_of
  exact h n k at payload size p = either _ _ _ p none

  -- at most six bytes of arguments stand before a payload
  every_kind : (h : Header) (args : List ℕ) → ((k : Kind) (at size : ℕ) → at ≤ 6 → P (called_of k h at size (length args))) → (n : ℕ) → P (asked_of n h args)
  unfolding asked_of
  every_kind h args call n =
      either _ _ _ (call _ _ _ (omega arith))
      (either _ _ _ (exact _ _ _ _ _ _ (call _ _ _ (omega arith)))
      (either _ _ _ (call _ _ _ (omega arith))
      (either _ _ _ (exact _ _ _ _ _ _ (call _ _ _ (omega arith)))
      (either _ _ _ (call _ _ _ (omega arith))
      (either _ _ _ (exact _ _ _ _ _ _ (call _ _ _ (omega arith)))
      (either _ _ _ (call _ _ _ (omega arith))
      (either _ _ _ (exact _ _ _ _ _ _ (call _ _ _ (omega arith)))
      (either _ _ _ (call _ _ _ (omega arith))
      (either _ _ _ (exact _ _ _ _ _ _ (call _ _ _ (omega arith)))
      (either _ _ _ (call _ _ _ (omega arith))
      (either _ _ _ (exact _ _ _ _ _ _ (call _ _ _ (omega arith)))
      (either _ _ _ (exact _ _ _ _ _ _ (call _ _ _ (omega arith)))
      (either _ _ _ (call _ _ _ (omega arith))
      (either _ _ _ (exact _ _ _ _ _ _ (call _ _ _ (omega arith)))
      (either _ _ _ (call _ _ _ (omega arith))
      (either _ _ _ (exact _ _ _ _ _ _ (call _ _ _ (omega arith)))
      (either _ _ _ (exact _ _ _ _ _ _ (call _ _ _ (omega arith)))
      (either _ _ _ (call _ _ _ (omega arith))
      none))))))))))))))))))

  pub every_request : (line : List ℕ) → ((k : Kind) (at size : ℕ) → at ≤ 6 → P (called_of k (header_of line) at size (length (drop (header_of line).bytes line)))) → P (request_line line)
  unfolding request_line
  every_request line call = either _ _ _ none (either _ _ _ none (every_kind (header_of line) (drop (header_of line).bytes line) call (get_or line 0 0)))
