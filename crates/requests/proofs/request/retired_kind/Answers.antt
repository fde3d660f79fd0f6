-- `requests::request::retired_kind` meets its contract: each arm is a case of `retired_kind`.
-- Assumes nothing.
use mathlib.Core.Path.{◌≡◌}
use native.Mathlib.Omega.{arith}
use lib.ListN.{get_or, get_or-eq_default}
use Rattle.requests.proofs.Said.{retired_yes, retired_no}
use Rattle.requests.proofs.request.retired_kind.Goals as goal

pub returns-in-48 : goal.returns-in-48
returns-in-48 c = retired_yes c.args.line.now (omega arith) (grind arith)

pub returns-in_default : goal.returns-in_default
returns-in_default c =
    let short : get_or c.args.line.now 1 0 ≡ 0 = get_or-eq_default c.args.line.now 0 {n = 1} (omega arith) in
    retired_no c.args.line.now (λ e q. omega arith)

pub returns-in_default-2 : goal.returns-in_default-2
returns-in_default-2 c = retired_no c.args.line.now (λ e q. omega arith)

pub returns-in_default-3 : goal.returns-in_default-3
returns-in_default-3 c = retired_no c.args.line.now (λ e q. omega arith)

pub returns-in_default-4 : goal.returns-in_default-4
returns-in_default-4 c = retired_no c.args.line.now (λ e q. omega arith)
