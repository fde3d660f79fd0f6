-- `requests::request::Arguments::asked` meets its contract: each arm is the case of `asked_of` at its number.
-- Assumes nothing.
use mathlib.Core.Path.{◌≡◌}
use native.Mathlib.Omega.{arith}
use Rattle.protocol.specs.Pick.{when◌then◌else◌}
use Rattle.protocol.proofs.Cases.{not_eq}
use Rattle.requests.specs.Request.{asked_of}
use Rattle.requests.proofs.request.Arguments.asked.Goals as goal

pub returns-in-1 : goal.returns-in-1
unfolding asked_of when◌then◌else◌
returns-in-1 c = rw (c.in-1.is, c.call.ensures, c.pair.ensures)

pub returns-in-2 : goal.returns-in-2
unfolding asked_of when◌then◌else◌
returns-in-2 c = rw (c.in-2.is, c.exact.ensures, c.pair-in-2-2.ensures, c.pair-in-2.ensures)

pub returns-in-3 : goal.returns-in-3
unfolding asked_of when◌then◌else◌
returns-in-3 c = rw (c.in-3.is, c.call-in-3.ensures, c.byte.ensures)

pub returns-in-4 : goal.returns-in-4
unfolding asked_of when◌then◌else◌
returns-in-4 c = rw (c.in-4.is, c.exact-in-4.ensures, c.pair-in-4.ensures, c.byte-in-4.ensures)

pub returns-in-5 : goal.returns-in-5
unfolding asked_of when◌then◌else◌
returns-in-5 c = rw (c.in-5.is, c.call-in-5.ensures, c.pair-in-5.ensures, c.quad.ensures)

pub returns-in-6 : goal.returns-in-6
unfolding asked_of when◌then◌else◌
returns-in-6 c = rw (c.in-6.is, c.exact-in-6.ensures, c.pair-in-6.ensures, c.byte-in-6.ensures)

pub returns-in-7 : goal.returns-in-7
unfolding asked_of when◌then◌else◌
returns-in-7 c = rw (c.in-7.is, c.call-in-7.ensures, c.byte-in-7.ensures)

pub returns-in-8 : goal.returns-in-8
unfolding asked_of when◌then◌else◌
returns-in-8 c = rw (c.in-8.is, c.exact-in-8.ensures)

pub returns-in-9 : goal.returns-in-9
unfolding asked_of when◌then◌else◌
returns-in-9 c = rw (c.in-9.is, c.call-in-9.ensures)

pub returns-in-10 : goal.returns-in-10
unfolding asked_of when◌then◌else◌
returns-in-10 c = rw (c.in-10.is, c.exact-in-10.ensures)

pub returns-in-11 : goal.returns-in-11
unfolding asked_of when◌then◌else◌
returns-in-11 c = rw (c.in-11.is, c.call-in-11.ensures)

pub returns-in-14 : goal.returns-in-14
unfolding asked_of when◌then◌else◌
returns-in-14 c = rw (c.in-14.is, c.exact-in-14.ensures, c.pair-in-14-2.ensures, c.pair-in-14.ensures)

pub returns-in-15 : goal.returns-in-15
unfolding asked_of when◌then◌else◌
returns-in-15 c = rw (c.in-15.is, c.exact-in-15.ensures, c.pair-in-15.ensures)

pub returns-in-16 : goal.returns-in-16
unfolding asked_of when◌then◌else◌
returns-in-16 c = rw (c.in-16.is, c.call-in-16.ensures, c.pair-in-16-2.ensures, c.pair-in-16.ensures)

pub returns-in-17 : goal.returns-in-17
unfolding asked_of when◌then◌else◌
returns-in-17 c = rw (c.in-17.is, c.exact-in-17.ensures, c.pair-in-17.ensures)

pub returns-in-18 : goal.returns-in-18
unfolding asked_of when◌then◌else◌
returns-in-18 c = rw (c.in-18.is, c.call-in-18.ensures)

pub returns-in-19 : goal.returns-in-19
unfolding asked_of when◌then◌else◌
returns-in-19 c = rw (c.in-19.is, c.exact-in-19.ensures)

pub returns-in-20 : goal.returns-in-20
unfolding asked_of when◌then◌else◌
returns-in-20 c = rw (c.in-20.is, c.exact-in-20.ensures)

pub returns-in-21 : goal.returns-in-21
unfolding asked_of when◌then◌else◌
returns-in-21 c = rw (c.in-21.is, c.call-in-21.ensures)

pub returns-in_default : goal.returns-in_default
unfolding asked_of
returns-in_default c =
    let n₀ : c.args.kind ≡ 1 → ⊥ = λ e. omega arith in
    let n₁ : c.args.kind ≡ 2 → ⊥ = λ e. omega arith in
    let n₂ : c.args.kind ≡ 3 → ⊥ = λ e. omega arith in
    let n₃ : c.args.kind ≡ 4 → ⊥ = λ e. omega arith in
    let n₄ : c.args.kind ≡ 5 → ⊥ = λ e. omega arith in
    let n₅ : c.args.kind ≡ 6 → ⊥ = λ e. omega arith in
    let n₆ : c.args.kind ≡ 7 → ⊥ = λ e. omega arith in
    let n₇ : c.args.kind ≡ 8 → ⊥ = λ e. omega arith in
    let n₈ : c.args.kind ≡ 9 → ⊥ = λ e. omega arith in
    let n₉ : c.args.kind ≡ 10 → ⊥ = λ e. omega arith in
    let n₁₀ : c.args.kind ≡ 11 → ⊥ = λ e. omega arith in
    let n₁₁ : c.args.kind ≡ 14 → ⊥ = λ e. omega arith in
    let n₁₂ : c.args.kind ≡ 15 → ⊥ = λ e. omega arith in
    let n₁₃ : c.args.kind ≡ 16 → ⊥ = λ e. omega arith in
    let n₁₄ : c.args.kind ≡ 17 → ⊥ = λ e. omega arith in
    let n₁₅ : c.args.kind ≡ 18 → ⊥ = λ e. omega arith in
    let n₁₆ : c.args.kind ≡ 19 → ⊥ = λ e. omega arith in
    let n₁₇ : c.args.kind ≡ 20 → ⊥ = λ e. omega arith in
    let n₁₈ : c.args.kind ≡ 21 → ⊥ = λ e. omega arith in
    search not_eq depth 22
