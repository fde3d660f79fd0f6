-- `pec_vectors::line` is safe: both forms have one contract, so `forms_agree` gives what `expect` requires.
-- Assumes nothing.
use borrow.Author.Tests.{eq-eqb}
use Rattle.smbus_pec.proofs.Laws.{forms_agree}
use Rattle.pec_vectors.proofs.line.Goals as goal

pub expect-requires : goal.expect-requires
expect-requires g c = eq-eqb _ _ (forms_agree 0 _ c.pec-code.ensures c.pec_table-by_table.ensures)
