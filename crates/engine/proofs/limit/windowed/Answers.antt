-- `engine::limit::windowed` meets its contract: each return is a case of `windowed`.
-- Assumes nothing.
use Rattle.engine.proofs.Cases.{cases}
use Rattle.engine.specs.Limit.{windowed}
use Rattle.engine.proofs.limit.windowed.Goals as goal

pub returns-then-length-eq0 : goal.returns-then-length-eq0
unfolding windowed
returns-then-length-eq0 c = search cases

pub returns-else-length-eq0 : goal.returns-else-length-eq0
unfolding windowed
returns-else-length-eq0 c = search cases

pub returns-else-check_df_range : goal.returns-else-check_df_range
unfolding windowed
returns-else-check_df_range c = search cases
