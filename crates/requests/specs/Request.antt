-- What a request line asks for: the kinds of docs/BENCH.md, one to a line. (01, The bench program)
-- Assumes nothing.
use Rattle.std.specs.Prelude.{ℕ, ◌+◌, ◌-◌, ◌/◌, ◌%◌, Bool, List, length, drop, get_or, ltb, eqb, Result, Ok, Err}
use Rattle.protocol.specs.Pick.{when◌then◌else◌}
use Rattle.protocol.specs.declared.common.Config.{Config}
use Rattle.protocol.specs.declared.error.Answer.{Answer}
use Rattle.protocol.specs.declared.error.Answer.TheVariants as answer
use Rattle.calls.specs.declared.kind.Kind.{Kind}
use Rattle.calls.specs.declared.kind.Kind.TheVariants as kind
use Rattle.requests.specs.Fields.{pair_at, quad_at}
use Rattle.requests.specs.declared.request.Header.{Header}
use Rattle.requests.specs.declared.request.Asked.{Asked}

-- bit 2 of the flags: two budgets follow them (02, W-211)
unfoldable pub two_budgets : ℕ → Bool
two_budgets flags = eqb (flags / 4 % 2) 1

-- the header with two budgets
abbrev pub longest_header : ℕ
longest_header = 6

-- kind, flags, and one number of retries or two
unfoldable pub header_bytes : ℕ → ℕ
header_bytes flags = when two_budgets flags then longest_header else 4

-- the retries of what reads: after those of what writes, or the same number
unfoldable pub read_retries : List ℕ → ℕ
read_retries line = when two_budgets (get_or line 1 0) then pair_at 4 line else pair_at 2 line

-- flags: bit 0 pec_write, bit 1 pec_read, bit 3 growing_waits (02, W-203); then the retries
unfoldable pub config_of : List ℕ → Config
config_of line = record {
  max_write_retries = pair_at 2 line;
  max_read_retries = read_retries line;
  pec_write = eqb (get_or line 1 0 % 2) 1;
  pec_read = eqb (get_or line 1 0 / 2 % 2) 1;
  growing_waits = eqb (get_or line 1 0 / 8 % 2) 1;
}

-- the settings, and how many bytes stand before the arguments
unfoldable pub header_of : List ℕ → Header
header_of line = record { config = config_of line; bytes = header_bytes (get_or line 1 0) }

-- whether a flag is set that means nothing: one of bits 4 to 7
unfoldable pub unknown_flags : ℕ → Bool
unknown_flags flags = ltb 15 flags

-- what a request line asks for: a call, or nothing, and the answer is why
abbrev pub Request : Type 0
Request = Result Asked Answer

-- a call with its settings, its payload from a byte of the line on, and a buffer of so many bytes
abbrev pub call_for : Kind → Config → ℕ → ℕ → Request
call_for k config at size = Ok (record { kind = k; config = config; at = at; len = size })

-- what asks for nothing
abbrev pub bad : Request
bad = Err answer.BadLine

-- a buffer of so many bytes, and a payload that is what follows `at` of n bytes of arguments: each at most 8,192
unfoldable pub called_of : Kind → Header → ℕ → ℕ → ℕ → Request
called_of k h at size n = when ltb 8192 size then bad else when ltb n at then bad else when ltb 8192 (n - at) then bad else call_for k h.config (h.bytes + at) size

-- the same with a payload of exactly so many bytes
unfoldable pub exact_of : Kind → Header → ℕ → ℕ → ℕ → ℕ → Request
exact_of k h at payload size n = when eqb n (at + payload) then called_of k h at size n else bad

-- the longest request line, a command's: a header with two budgets, the arguments before its input, and its input
abbrev pub longest_request : ℕ
longest_request = longest_header + 6 + 8192

-- the kinds by their numbers: the arguments before the payload, the payload where its length is fixed, and the buffer. 0C and 0D are retired and never given
-- out again
unfoldable pub asked_of : ℕ → Header → List ℕ → Request
asked_of k h args =
    when eqb k 0x01 then called_of (kind.WriteDataflash (pair_at 0 args)) h 2 0 (length args) else
    when eqb k 0x02 then exact_of (kind.ReadDataflash (pair_at 0 args)) h 4 0 (pair_at 2 args) (length args) else
    when eqb k 0x03 then called_of (kind.WriteRegister (get_or args 0 0)) h 1 0 (length args) else
    when eqb k 0x04 then exact_of (kind.ReadRegister (get_or args 0 0)) h 3 0 (pair_at 1 args) (length args) else
    when eqb k 0x05 then called_of (kind.DispatchCommand (quad_at 0 args)) h 6 (pair_at 4 args) (length args) else
    when eqb k 0x06 then exact_of (kind.ReadBuffer (get_or args 0 0)) h 3 0 (pair_at 1 args) (length args) else
    when eqb k 0x07 then called_of (kind.WriteBuffer (get_or args 0 0)) h 1 0 (length args) else
    when eqb k 0x08 then exact_of kind.ReadSecurityKeys h 0 0 28 (length args) else
    when eqb k 0x09 then called_of kind.WriteSecurityKeys h 0 0 (length args) else
    when eqb k 0x0A then exact_of kind.ReadAuthenticationKey h 0 0 16 (length args) else
    when eqb k 0x0B then called_of kind.WriteAuthenticationKey h 0 0 (length args) else
    when eqb k 0x0E then exact_of (kind.SendAccessKey (pair_at 0 args) (pair_at 2 args)) h 4 0 0 (length args) else
    when eqb k 0x0F then exact_of kind.ReadMfgInfoC h 2 0 (pair_at 0 args) (length args) else
    when eqb k 0x10 then called_of (kind.WriteMfgInfoC (pair_at 0 args) (pair_at 2 args)) h 4 0 (length args) else
    when eqb k 0x11 then exact_of kind.ReadMfgInfo h 2 0 (pair_at 0 args) (length args) else
    when eqb k 0x12 then called_of kind.WriteMfgInfo h 0 0 (length args) else
    when eqb k 0x13 then exact_of kind.ReadChargingVoltageOverride h 0 0 10 (length args) else
    when eqb k 0x14 then exact_of kind.WriteChargingVoltageOverride h 0 10 0 (length args) else
    when eqb k 0x15 then called_of kind.WriteWithRetries h 0 0 (length args) else bad

-- kind, flags of bits 0 to 3 only, one budget or two, arguments: what the kind asks for under those settings
unfoldable pub request_line : List ℕ → Request
request_line line =
    when unknown_flags (get_or line 1 0) then bad else
    when ltb (length line) (header_of line).bytes then bad else asked_of (get_or line 0 0) (header_of line) (drop (header_of line).bytes line)
