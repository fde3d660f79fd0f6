-- The kinds of docs/BENCH.md, one to a row: its arguments, and the Rust's function that they are for. (01, The bench program; 02, W-203, W-211)
-- Assumes nothing.
use Rattle.std.specs.Prelude.{ℕ, zero, suc, ◌-◌, ◌*◌, ◌/◌, ◌%◌, Bool, true, false, not, ◌&&◌, ◌||◌, List, [], ◌∷◌, map, length, drop, get_or, replicate, ltb, eqb}
use Rattle.hexadecimal.specs.Digits.{in_digits}
use Rattle.hexadecimal.specs.Line.{line_bytes}
use Rattle.protocol.specs.Pick.{when◌then◌else◌}
use Rattle.protocol.specs.declared.common.Side.{Side}
use Rattle.protocol.specs.declared.common.Side.TheVariants as side
use Rattle.protocol.specs.declared.common.Config as driver
use Rattle.protocol.specs.declared.error.Answer.{Answer}
use Rattle.protocol.specs.declared.error.Answer.TheVariants as answer
use Rattle.original.specs.OriginalCommon.{Config, set_for}
use Rattle.original.specs.Bus.{BusOutcome, told, Log, begun, Came, Err, Read, ◌leaving◌, waits_in}
use Rattle.original.specs.OriginalInterface as rust
use Rattle.original.specs.OriginalR5 as rust-r5
use Rattle.waits.specs.Costs.{budget_cost, frames_cost}
use Rattle.bench_promises.specs.Numbers.{field}

-- what a line of a kind asks for
pub record Row : Type 0 where
  pub kind : ℕ
  -- the bytes of its arguments before the payload
  pub fixed : ℕ
  -- the fewest and the most bytes of payload
  pub least : ℕ
  pub most : ℕ
  -- the length of its buffer, by the arguments
  pub size : List ℕ → ℕ
  -- the side that it goes by, by the length of its buffer
  pub side : ℕ → Side
  -- whether each frame has a budget of its own, and not the whole call one
  pub per_frame : Bool
  -- the Rust's function of its name
  pub call : Config → (arguments payload buffer : List ℕ) → List BusOutcome → Read

-- a call that writes the rest of the line, with no buffer
abbrev writes : ℕ → ℕ → (Config → (arguments payload : List ℕ) → Log → List BusOutcome → Came) → Row
writes kind fixed call = record {
  kind = kind;
  fixed = fixed;
  least = 0;
  most = 8192;
  size = λ arguments. 0;
  side = λ n. side.Write;
  per_frame = true;
  call = λ config arguments payload buffer os. call config arguments payload begun os leaving buffer;
}

-- a call that reads, with no payload: the two bytes that end its arguments are the length of its buffer
abbrev reads : ℕ → ℕ → (Config → (arguments buffer : List ℕ) → Log → List BusOutcome → Read) → Row
reads kind fixed call = record {
  kind = kind;
  fixed = fixed;
  least = 0;
  most = 0;
  size = λ arguments. field (fixed - 2) 2 arguments;
  side = λ n. side.Read;
  per_frame = false;
  call = λ config arguments payload buffer os. call config arguments buffer begun os;
}

-- one that has no arguments, and a buffer of its own length
abbrev fills : ℕ → ℕ → (Config → (buffer : List ℕ) → Log → List BusOutcome → Read) → Row
fills kind size call = record {
  kind = kind;
  fixed = 0;
  least = 0;
  most = 0;
  size = λ arguments. size;
  side = λ n. side.Read;
  per_frame = false;
  call = λ config arguments payload buffer os. call config buffer begun os;
}

-- the Rust's function, or the added refusal where it panics or has no such length: with no transfer
abbrev refused_if : Bool → Answer → Log → List BusOutcome → Came → Came
refused_if refused a log os came = when refused then Err a log os else came

-- another length than n
abbrev pub unlike : ℕ → List ℕ → Bool
unlike n s = not (eqb (length s) n)

-- the table of docs/BENCH.md; 0C and 0D are retired: they have no row, and no other call is given them
abbrev pub rows : List Row
rows =
    writes 0x01 2 (λ config arguments payload. rust-r5.write_dataflash config (field 0 2 arguments) payload)
    ∷ reads 0x02 4 (λ config arguments buffer. rust-r5.read_dataflash config (field 0 2 arguments) buffer)
    ∷ writes 0x03 1 (λ config arguments payload. rust.write_register config (field 0 1 arguments) payload)
    ∷ reads 0x04 3 (λ config arguments buffer. rust.read_register config (field 0 1 arguments) buffer)
    ∷ record {
      kind = 0x05;
      fixed = 6;
      least = 0;
      most = 8192;
      size = λ arguments. field 4 2 arguments;
      side = λ n. when eqb n 0 then side.Write else side.Read;
      per_frame = false;
      call = λ config arguments input output os.
          when rust.dispatch_panics input output then Err answer.NotACommand begun os leaving output
          else rust.dispatch_command config (field 0 4 arguments) input output begun os;
    }
    ∷ reads 0x06 3 (λ config arguments buffer. rust.buffer_read config (field 0 1 arguments) buffer)
    ∷ writes 0x07 1 (λ config arguments payload. rust.buffer_write config (field 0 1 arguments) payload)
    ∷ fills 0x08 28 (λ config buffer. rust-r5.read_security_keys config buffer)
    ∷ writes 0x09 0 (λ config arguments keys log os. refused_if (unlike 28 keys) answer.WrongBuffer log os (rust-r5.write_security_keys config keys log os))
    ∷ fills 0x0A 16 (λ config buffer. rust-r5.read_authentication_key config buffer)
    ∷ writes 0x0B 0 (λ config arguments key log os. refused_if (unlike 16 key) answer.WrongBuffer log os (rust-r5.write_authentication_key config key log os))
    ∷ record {
      kind = 0x0E;
      fixed = 4;
      least = 0;
      most = 0;
      size = λ arguments. 0;
      side = λ n. side.Write;
      per_frame = true;
      call = λ config arguments payload buffer os. rust-r5.send_access_key config (field 0 2 arguments) (field 2 2 arguments) begun os leaving buffer;
    }
    ∷ reads 0x0F 2 (λ config arguments buffer. rust-r5.read_mfg_info_c config buffer)
    ∷ writes 0x10 4 (λ config arguments payload. rust-r5.write_mfg_info_c config (field 0 2 arguments) (field 2 2 arguments) payload)
    ∷ reads 0x11 2 (λ config arguments buffer. rust-r5.read_mfg_info config buffer)
    ∷ writes 0x12 0 (λ config arguments payload. rust-r5.write_mfg_info config payload)
    ∷ fills 0x13 10 (λ config buffer. rust-r5.read_charging_voltage_override config buffer)
    ∷ record {
      kind = 0x14;
      fixed = 0;
      least = 10;
      most = 10;
      size = λ arguments. 0;
      side = λ n. side.Write;
      per_frame = true;
      call = λ config arguments payload buffer os. rust-r5.write_charging_voltage_override config (rust-r5.override_figures payload) begun os leaving buffer;
    }
    ∷ writes 0x15 0 (λ config arguments frame log os.
    refused_if (rust.write_panics config.pec_write frame) answer.DataTooLarge log os (rust.write_with_retries config frame config.pec_write log os))
    ∷ []

-- how long the waits of a function of the Rust are, by the outcomes so far: 10 ms for each of its delays. Where waits grow, which the Rust's do not, what they come to
-- is in closed words (`waits`), with a budget of so many retries for each frame or for the whole call
unfoldable pub waited_by : (per_frame growing : Bool) (retries : ℕ) → (List BusOutcome → Read) → List BusOutcome → ℕ
waited_by per_frame growing retries rust os =
    when growing then (when per_frame then frames_cost true retries 0 (map told os) else budget_cost true (waits_in (rust os)))
    else waits_in (rust os) * 10

-- what a request line asks for: a function of the Rust and how long its waits are, or nothing, since it is bad or its kind is retired
pub data Asked : Type 0 where
  bad : Asked
  retired : Asked
  call : (rust : List BusOutcome → Read) (ms : List BusOutcome → ℕ) → Asked

-- by a row: bad where arguments are missing, the payload is shorter or longer than the kind has it, or the buffer is over 8,192 bytes. A buffer starts as A5. The Rust
-- is set for the side of the row, with that side's budget as `max_bus_retries`
unfoldable pub asked_by : Row → driver.Config → List ℕ → Asked
asked_by row config arguments =
    when ltb (length arguments) row.fixed then bad else
    when ltb (length arguments - row.fixed) row.least then bad else
    when ltb row.most (length arguments - row.fixed) then bad else
    when ltb 8192 (row.size arguments) then bad else
    let its : Config = set_for (row.side (row.size arguments)) config in
    let rust : List BusOutcome → Read = row.call its arguments (drop row.fixed arguments) (replicate (row.size arguments) 0xA5) in
    call rust (waited_by row.per_frame config.growing_waits its.max_bus_retries rust)

-- by the first row of the kind; bad where there is none
unfoldable pub asked_among : List Row → ℕ → driver.Config → List ℕ → Asked
asked_among [] kind config arguments = bad
asked_among (row ∷ more) kind config arguments = when eqb kind row.kind then asked_by row config arguments else asked_among more kind config arguments

-- bit k of a number
unfoldable pub bit : ℕ → ℕ → Bool
bit zero n = eqb (n % 2) 1
bit (suc k) n = bit k (n / 2)

-- flags: bit 0 is `pec_write`, bit 1 `pec_read`, bit 3 `growing_waits`; bit 2 says that there are two budgets, and no other means anything
abbrev pub unknown_flag : ℕ → Bool
unknown_flag flags = bit 4 flags || bit 5 flags || bit 6 flags || bit 7 flags

abbrev pub settings : (flags writes reads : ℕ) → driver.Config
settings flags writes reads = record {
  max_write_retries = writes;
  max_read_retries = reads;
  pec_write = bit 0 flags;
  pec_read = bit 1 flags;
  growing_waits = bit 3 flags;
}

-- the bytes of a request line: kind, flags, retries, arguments. Two budgets follow the flags, that of writes first, or one number that is both. It is bad where the header
-- is short, a flag is not known, the kind is not known, or its lengths fail
unfoldable pub asked_in : List ℕ → Asked
asked_in line =
    let flags : ℕ = get_or line 1 0 in
    when unknown_flag flags then bad else
    when bit 2 flags then
    (when ltb (length line) 6 then bad else asked_among rows (get_or line 0 0) (settings flags (field 2 2 line) (field 4 2 line)) (drop 6 line))
    else
    (when ltb (length line) 4 then bad else asked_among rows (get_or line 0 0) (settings flags (field 2 2 line) (field 2 2 line)) (drop 4 line))

-- ---- a request line as characters

-- a line begins with these characters
unfoldable pub begins : List ℕ → List ℕ → Bool
begins [] line = true
begins (d ∷ ds) [] = false
begins (d ∷ ds) (b ∷ line) = eqb b d && begins ds line

-- it begins with the digits of 0C or of 0D
unfoldable pub is_retired : List ℕ → Bool
is_retired line = begins (in_digits (0x0C ∷ [])) line || begins (in_digits (0x0D ∷ [])) line

-- a retired kind comes before anything else on the line (02, W-210)
unfoldable pub asked_line : List ℕ → Asked
asked_line line = when is_retired line then retired else asked_in (line_bytes line)

-- the same of a line that lacks its line feed, which is bad otherwise
unfoldable pub asked_cut : List ℕ → Asked
asked_cut line = when is_retired line then retired else bad
