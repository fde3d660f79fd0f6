-- `calls::call::Call::fits` meets its contract: each engine's own.
-- Assumes nothing.
use Rattle.calls.specs.Call.{fits_of}
use Rattle.calls.proofs.call.Call.fits.Goals as goal

pub returns-in-Write : goal.returns-in-Write
unfolding fits_of
returns-in-Write c = rw c.in-Write.is c.fits.ensures

pub returns-in-Read : goal.returns-in-Read
unfolding fits_of
returns-in-Read c = rw c.in-Read.is c.fits-in-Read.ensures
