-- `lines::run` meets its contract: the place of the first line feed is how many bytes come before it.
-- Assumes nothing.
use mathlib.Core.Path.{◌≡◌, ap, ◌∙◌}
use mathlib.Core.List.{List}
use lib.ListN.{length, drop}
use Rattle.std.proofs.Common.{rules}
use Rattle.std.proofs.lemmas.Iterator.{YieldsList-from_slice}
use Rattle.std.proofs.lemmas.Iterator.Search.{position_from_yields_List}
use borrow.Author.Tests.{tests}
use Rattle.std.specs.Prelude.{ℕ, ◌==◌, position, unwrap_or}
use Rattle.lines.specs.Lines.{before_feed}
use Rattle.lines.proofs.Laws.{run_lem, take_length_drop}
use Rattle.lines.proofs.run.Goals as goal

pub returns : goal.returns
returns c =
    let rest : List ℕ = c.block-rest.result.now in
    let all : rest ≡ drop c.args.from c.args.chunk.now = c.block-rest.ensures ∙ take_length_drop c.args.from c.args.chunk.now in
    let found : c.position.result ≡ position (λ b. b == 10) rest =
    position_from_yields_List (λ b. b == 10) _ _ c.position.result c.position.ensures.ran (YieldsList-from_slice _ c.iter.ensures.rest) (λ x b q k. search (rules, tests)) in
    c.unwrap_or.ensures ∙ ap (λ o. unwrap_or o (length rest)) found ∙ run_lem rest ∙ ap (λ s. length (before_feed s)) all
