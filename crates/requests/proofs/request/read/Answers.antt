-- `requests::request::read` meets its contract: each test is a case of `request_line`.
-- Assumes nothing.
use Prim.Native.Nat.{◌≤◌, ◌<◌}
use mathlib.Core.Path.{◌≡◌, ◌∙◌}
use lib.ListN.{length, drop, get_or}
use Rattle.protocol.proofs.Cases.{cases}
use Rattle.requests.specs.Request.{header_of, asked_of, request_line}
use Rattle.requests.proofs.Laws.{same_flags}
use Rattle.requests.proofs.request.read.Goals as goal

pub returns-then-unknown_flags : goal.returns-then-unknown_flags
unfolding request_line
returns-then-unknown_flags c = search (cases, same_flags)

pub returns-then-line-header : goal.returns-then-line-header
unfolding request_line
returns-then-line-header c =
    let line = c.args.line.now in
    let same : c.header_of-header.result ≡ header_of line = c.header_of-header.ensures in
    let short : length line < (header_of line).bytes = rw same at c.if-line-header.true in
    search (cases, same_flags)

pub returns : goal.returns
unfolding request_line
returns c =
    let line = c.args.line.now in
    let same : c.header_of-header.result ≡ header_of line = c.header_of-header.ensures in
    let enough : (header_of line).bytes ≤ length line = rw same at c.if-line-header.false in
    let asked : c.asked.result ≡ asked_of (get_or line 0 0) (header_of line) (drop (header_of line).bytes line) = c.asked.ensures ∙ rw (c.rest-bytes.ensures, c.byte-2.ensures, same) in
    search (cases, same_flags)
