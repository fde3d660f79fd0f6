-- `engine::bus::Lent::fits` meets its contract.
-- Assumes nothing.
use Rattle.protocol.proofs.Cases.{tests}
use Rattle.engine.specs.Bus.{fits_of}
use Rattle.engine.proofs.bus.Lent.fits.Goals as goal

pub returns-then-length-self : goal.returns-then-length-self
unfolding fits_of
returns-then-length-self c = search tests

pub returns-else-length-self : goal.returns-else-length-self
unfolding fits_of
returns-else-length-self c = search tests
