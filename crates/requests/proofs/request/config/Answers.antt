-- `requests::request::config` meets its contract: its fields are those of `config_of`.
-- Assumes nothing.
use Prim.Native.Nat.{ℕ, ◌/◌, ◌%◌}
use mathlib.Core.Path.{◌≡◌}
use mathlib.Core.Bool.{not}
use native.Mathlib.Omega.{arith}
use lib.ListN.{get_or}
use lib.Dec.{eqb}
use Rattle.std.specs.Prelude.{bit_and}
use Rattle.requests.specs.Request.{config_of}
use Rattle.requests.proofs.Laws.{first_bit, later_bit}
use Rattle.requests.proofs.request.config.Goals as goal

pub returns : goal.returns
unfolding config_of
returns c =
    let flags : ℕ = get_or c.args.line.now 1 0 in
    let write : not (eqb (bit_and flags 1) 0) ≡ eqb (flags % 2) 1 = first_bit flags in
    let read : not (eqb (bit_and flags 2) 0) ≡ eqb (flags / 2 % 2) 1 = later_bit flags 1 (omega arith) in
    let growing : not (eqb (bit_and flags 8) 0) ≡ eqb (flags / 8 % 2) 1 = later_bit flags 3 (omega arith) in
    rw (c.read_retries.ensures, c.pair.ensures, c.byte-flags.ensures, write, read, growing)
