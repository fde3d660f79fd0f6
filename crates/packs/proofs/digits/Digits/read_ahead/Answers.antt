-- `packs::digits::Digits::read_ahead` meets its contract: each arm is a case of `read_ahead`.
-- Assumes nothing.
use Rattle.packs.proofs.Cases.{cases}
use Rattle.packs.proofs.Laws.{same_cycles, options}
use Rattle.packs.specs.Ahead.{read_ahead}
use Rattle.packs.proofs.digits.Digits.read_ahead.Goals as goal

pub returns-then-chunk-at-ne10 : goal.returns-then-chunk-at-ne10
unfolding read_ahead
returns-then-chunk-at-ne10 c = search cases

pub returns-in_err-low : goal.returns-in_err-low
unfolding read_ahead
returns-in_err-low c = let low = c.in_err-low.was in search (cases, options)

pub returns-in_err-high : goal.returns-in_err-high
unfolding read_ahead
returns-in_err-high c = let low = c.in_ok-low.was in let high = c.in_err-high.was in search (cases, options)

pub returns : goal.returns
unfolding read_ahead
returns c = let low = c.in_ok-low.was in let high = c.in_ok-high.was in search (cases, options, same_cycles)
