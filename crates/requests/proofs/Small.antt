-- The buffer that a request line asks for has at most 8,192 bytes, and so has the payload that it brings.
-- Assumes nothing.
use Prim.Native.Nat.{ℕ, ◌-◌, ◌≤◌}
use mathlib.Core.Path.{◌≡◌, refl}
use mathlib.Core.Bool.{Bool, true, false}
use mathlib.Core.List.{List}
use native.Mathlib.Omega.{arith}
use lib.ListN.{length, drop, length-drop}
use lib.Dec.{ltb}
use borrow.Author.Tests.{ltb-false}
use Rattle.std.specs.Prelude.{Ok, Err}
use Rattle.protocol.specs.Pick.{when◌then◌else◌}
use Rattle.calls.specs.declared.kind.Kind.{Kind}
use Rattle.requests.specs.Request.{Request, header_of, bad, called_of, request_line}
use Rattle.requests.proofs.Every.{every_request}

-- of a line of n bytes; what is no request counts as small
abbrev pub Small : ℕ → Request → Type 0
Small n (Ok asked) = (n - asked.at ≤ 8192) × (asked.len ≤ 8192)
Small n (Err a) = Unit {0}

-- where the test is false, the other one
otherwise : (n : ℕ) (t : Bool) (y : Request) → (t ≡ false → Small n y) → Small n (when t then bad else y)
unfolding when◌then◌else◌
otherwise n true y q = tt
otherwise n false y q = q refl

pub small_request : (line : List ℕ) → Small (length line) (request_line line)
unfolding called_of
small_request line = every_request (Small (length line)) tt line (λ k at size few. small k at size)
  where
    arguments : List ℕ
    arguments = drop (header_of line).bytes line

    small : (k : Kind) (at size : ℕ) → Small (length line) (called_of k (header_of line) at size (length arguments))
    small k at size =
        otherwise (length line) (ltb 8192 size) _ (λ s. otherwise (length line) (ltb (length arguments) at) _ (λ e. otherwise (length line) (ltb 8192 (length arguments - at)) _
        (λ p. (omega (arith, ltb-false 8192 (length arguments - at) p, length-drop (header_of line).bytes line), ltb-false 8192 size s))))
