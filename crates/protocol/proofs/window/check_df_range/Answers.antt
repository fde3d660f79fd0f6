-- `protocol::window::check_df_range` meets its contract: each return is a case of `in_window`, and the room is that of a start before the end.
-- Assumes nothing.
use Rattle.protocol.proofs.Cases.{tests}
use Rattle.protocol.specs.Window.{in_window}
use Rattle.protocol.proofs.window.check_df_range.Goals as goal

pub returns-then-len-eq0 : goal.returns-then-len-eq0
unfolding in_window
returns-then-len-eq0 c = search tests

pub returns-then-starting_address-lt-DF_FIRST_ADDRESS : goal.returns-then-starting_address-lt-DF_FIRST_ADDRESS
unfolding in_window
returns-then-starting_address-lt-DF_FIRST_ADDRESS c = search tests

pub returns-then-starting_address-gt-DF_LAST_ADDRESS : goal.returns-then-starting_address-gt-DF_LAST_ADDRESS
unfolding in_window
returns-then-starting_address-gt-DF_LAST_ADDRESS c = search tests

pub returns : goal.returns
unfolding in_window
returns c = search tests
