-- `hexadecimal::value` meets its contract: each arm is a case of `value_of`.
-- Assumes nothing.
use Prim.Native.Nat.{◌-◌, ◌+◌}
use mathlib.Core.Path.{◌≡◌}
use native.Mathlib.Omega.{arith}
use Rattle.hexadecimal.proofs.Cases.{cases}
use Rattle.hexadecimal.proofs.Laws.{some_below, none_below}
use Rattle.hexadecimal.specs.Hex.{value_of}
use Rattle.hexadecimal.proofs.value.Goals as goal

pub returns-in-48-to-57 : goal.returns-in-48-to-57
unfolding value_of
returns-in-48-to-57 c =
    let d = c.args.digit in
    let value : d - 48 ≡ value_of d = search cases in
    some_below 16 (value_of d) (d - 48) value (omega arith)

pub returns-in-65-to-70 : goal.returns-in-65-to-70
unfolding value_of
returns-in-65-to-70 c =
    let d = c.args.digit in
    let same : d - 65 + 10 ≡ d - 55 = omega arith in
    let value : d - 65 + 10 ≡ value_of d = search cases in
    some_below 16 (value_of d) (d - 65 + 10) value (omega arith)

pub returns-in_default : goal.returns-in_default
unfolding value_of
returns-in_default c =
    let d = c.args.digit in
    let value : 16 ≡ value_of d = search cases in
    none_below 16 (value_of d) (omega arith)

pub returns-in_default-2 : goal.returns-in_default-2
unfolding value_of
returns-in_default-2 c =
    let d = c.args.digit in
    let value : 16 ≡ value_of d = search cases in
    none_below 16 (value_of d) (omega arith)

pub returns-in_default-3 : goal.returns-in_default-3
unfolding value_of
returns-in_default-3 c =
    let d = c.args.digit in
    let value : 16 ≡ value_of d = search cases in
    none_below 16 (value_of d) (omega arith)
