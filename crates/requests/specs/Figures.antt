-- The kinds of docs/BENCH.md, and lines on each side of a limit, as one table under one statement.
-- Assumes nothing.
use Rattle.std.specs.Prelude.{ℕ, ◌≡◌, refl, Bool, true, false, List, [], ◌∷◌, replicate, Option, Some, None}
use Rattle.protocol.specs.Pick.{when◌then◌else◌}
use Rattle.protocol.specs.declared.common.Config.{Config}
use Rattle.engine.specs.declared.bus.Outcome.{Outcome}
use Rattle.engine.specs.declared.bus.Outcome.TheVariants as outcome
use Rattle.calls.specs.declared.kind.Kind.TheVariants as kind
use Rattle.requests.specs.Fields.{pair_at, quad_at}
use Rattle.requests.specs.Request.{two_budgets, header_bytes, read_retries, config_of, header_of, unknown_flags, Request, call_for, bad, called_of, exact_of, asked_of, request_line}
use Rattle.requests.specs.Retired.{retired_kind}
use Rattle.requests.specs.Outcome.{acknowledged_line, error_line, timeout_line, outcome_line}

pub data Figure : Type 0 where
  -- a request line's bytes, and what it asks for
  asks : List ℕ → Request → Figure
  -- an outcome line's bytes, and what it says
  says : List ℕ → Option Outcome → Figure
  -- a request line in ASCII, and whether its kind is retired
  begins : List ℕ → Bool → Figure

-- the retries of writes and of reads, the PEC of writes and that of reads, and whether waits grow
abbrev settings : ℕ → ℕ → Bool → Bool → Bool → Config
settings writes reads w r g = record { max_write_retries = writes; max_read_retries = reads; pec_write = w; pec_read = r; growing_waits = g }

-- no PEC, no retries and waits of one length
abbrev plain : Config
plain = settings 0 0 false false false

-- a kind, no flags, no retries, and its arguments
abbrev line : ℕ → List ℕ → List ℕ
line kind arguments = kind ∷ 0x00 ∷ 0x00 ∷ 0x00 ∷ arguments

abbrev pub figures : List Figure
figures =
    asks (line 0x01 (0x34 ∷ 0x12 ∷ 0xAA ∷ 0xBB ∷ [])) (call_for (kind.WriteDataflash 0x1234) plain 6 0)
    ∷ asks (line 0x02 (0x34 ∷ 0x12 ∷ 0x02 ∷ 0x01 ∷ [])) (call_for (kind.ReadDataflash 0x1234) plain 8 0x0102)
    ∷ asks (line 0x03 (0x12 ∷ 0xAA ∷ [])) (call_for (kind.WriteRegister 0x12) plain 5 0)
    ∷ asks (line 0x04 (0x12 ∷ 0x02 ∷ 0x01 ∷ [])) (call_for (kind.ReadRegister 0x12) plain 7 0x0102)
    ∷ asks (line 0x05 (0x78 ∷ 0x56 ∷ 0x34 ∷ 0x12 ∷ 0x02 ∷ 0x01 ∷ 0xAA ∷ [])) (call_for (kind.DispatchCommand 0x12345678) plain 10 0x0102)
    ∷ asks (line 0x06 (0x12 ∷ 0x02 ∷ 0x01 ∷ [])) (call_for (kind.ReadBuffer 0x12) plain 7 0x0102)
    ∷ asks (line 0x07 (0x12 ∷ 0xAA ∷ [])) (call_for (kind.WriteBuffer 0x12) plain 5 0)
    ∷ asks (line 0x08 []) (call_for kind.ReadSecurityKeys plain 4 28)
    ∷ asks (line 0x09 (0xAA ∷ [])) (call_for kind.WriteSecurityKeys plain 4 0)
    ∷ asks (line 0x0A []) (call_for kind.ReadAuthenticationKey plain 4 16)
    ∷ asks (line 0x0B (0xAA ∷ [])) (call_for kind.WriteAuthenticationKey plain 4 0)
    ∷ asks (line 0x0E (0x34 ∷ 0x12 ∷ 0x78 ∷ 0x56 ∷ [])) (call_for (kind.SendAccessKey 0x1234 0x5678) plain 8 0)
    ∷ asks (line 0x0F (0x02 ∷ 0x01 ∷ [])) (call_for kind.ReadMfgInfoC plain 6 0x0102)
    ∷ asks (line 0x10 (0x34 ∷ 0x12 ∷ 0x78 ∷ 0x56 ∷ 0xAA ∷ [])) (call_for (kind.WriteMfgInfoC 0x1234 0x5678) plain 8 0)
    ∷ asks (line 0x11 (0x02 ∷ 0x01 ∷ [])) (call_for kind.ReadMfgInfo plain 6 0x0102)
    ∷ asks (line 0x12 (0xAA ∷ [])) (call_for kind.WriteMfgInfo plain 4 0)
    ∷ asks (line 0x13 []) (call_for kind.ReadChargingVoltageOverride plain 4 10)
    ∷ asks (line 0x14 (replicate 10 0xAA)) (call_for kind.WriteChargingVoltageOverride plain 4 0)
    ∷ asks (line 0x15 (0xAA ∷ [])) (call_for kind.WriteWithRetries plain 4 0)
    -- no such kind (the bytes of a retired one do not come here: its line is refused as characters, below); a flag that means nothing, a header cut short
    ∷ asks (line 0x00 []) bad
    ∷ asks (line 0x0C (0x12 ∷ 0x02 ∷ 0x01 ∷ [])) bad
    ∷ asks (line 0x0D (0x12 ∷ 0xAA ∷ [])) bad
    ∷ asks (line 0x16 []) bad
    ∷ asks (0x08 ∷ 0x10 ∷ 0x00 ∷ 0x00 ∷ []) bad
    ∷ asks (0x08 ∷ 0x28 ∷ 0x00 ∷ 0x00 ∷ []) bad
    ∷ asks (0x08 ∷ 0x40 ∷ 0x00 ∷ 0x00 ∷ []) bad
    ∷ asks (0x08 ∷ 0x88 ∷ 0x00 ∷ 0x00 ∷ []) bad
    ∷ asks (0x08 ∷ 0x00 ∷ 0x00 ∷ []) bad
    -- arguments that are missing, or too many
    ∷ asks (line 0x01 (0x34 ∷ [])) bad
    ∷ asks (line 0x01 (0x34 ∷ 0x12 ∷ [])) (call_for (kind.WriteDataflash 0x1234) plain 6 0)
    ∷ asks (line 0x02 (0x34 ∷ 0x12 ∷ 0x02 ∷ [])) bad
    ∷ asks (line 0x02 (0x34 ∷ 0x12 ∷ 0x02 ∷ 0x01 ∷ 0x00 ∷ [])) bad
    ∷ asks (line 0x08 (0x00 ∷ [])) bad
    ∷ asks (line 0x14 (replicate 9 0xAA)) bad
    ∷ asks (line 0x14 (replicate 11 0xAA)) bad
    ∷ asks (line 0x04 (0x12 ∷ 0x02 ∷ [])) bad
    ∷ asks (line 0x04 (0x12 ∷ 0x02 ∷ 0x01 ∷ 0x00 ∷ [])) bad
    ∷ asks (line 0x05 (0x78 ∷ 0x56 ∷ 0x34 ∷ 0x12 ∷ 0x02 ∷ [])) bad
    ∷ asks (line 0x06 (0x12 ∷ 0x02 ∷ [])) bad
    ∷ asks (line 0x0E (0x34 ∷ 0x12 ∷ 0x78 ∷ [])) bad
    ∷ asks (line 0x0E (0x34 ∷ 0x12 ∷ 0x78 ∷ 0x56 ∷ 0x00 ∷ [])) bad
    ∷ asks (line 0x0F (0x02 ∷ [])) bad
    ∷ asks (line 0x10 (0x34 ∷ 0x12 ∷ 0x78 ∷ [])) bad
    ∷ asks (line 0x11 (0x02 ∷ 0x01 ∷ 0x00 ∷ [])) bad
    -- a payload, an input or a read length of 8,192 bytes, and of one more
    ∷ asks (line 0x01 (0x34 ∷ 0x12 ∷ replicate 8192 0xAA)) (call_for (kind.WriteDataflash 0x1234) plain 6 0)
    ∷ asks (line 0x01 (0x34 ∷ 0x12 ∷ replicate 8193 0xAA)) bad
    ∷ asks (line 0x02 (0x34 ∷ 0x12 ∷ 0x00 ∷ 0x20 ∷ [])) (call_for (kind.ReadDataflash 0x1234) plain 8 8192)
    ∷ asks (line 0x02 (0x34 ∷ 0x12 ∷ 0x01 ∷ 0x20 ∷ [])) bad
    ∷ asks (line 0x05 (0x78 ∷ 0x56 ∷ 0x34 ∷ 0x12 ∷ 0x00 ∷ 0x20 ∷ [])) (call_for (kind.DispatchCommand 0x12345678) plain 10 8192)
    ∷ asks (line 0x05 (0x78 ∷ 0x56 ∷ 0x34 ∷ 0x12 ∷ 0x01 ∷ 0x20 ∷ [])) bad
    ∷ asks (line 0x15 (replicate 8192 0xAA)) (call_for kind.WriteWithRetries plain 4 0)
    ∷ asks (line 0x15 (replicate 8193 0xAA)) bad
    ∷ asks (line 0x05 (0x78 ∷ 0x56 ∷ 0x34 ∷ 0x12 ∷ 0x00 ∷ 0x00 ∷ replicate 8192 0xAA)) (call_for (kind.DispatchCommand 0x12345678) plain 10 0)
    ∷ asks (line 0x05 (0x78 ∷ 0x56 ∷ 0x34 ∷ 0x12 ∷ 0x00 ∷ 0x00 ∷ replicate 8193 0xAA)) bad
    ∷ asks (line 0x06 (0x12 ∷ 0x00 ∷ 0x20 ∷ [])) (call_for (kind.ReadBuffer 0x12) plain 7 8192)
    ∷ asks (line 0x06 (0x12 ∷ 0x01 ∷ 0x20 ∷ [])) bad
    -- outcomes
    ∷ says (0x00 ∷ []) (Some outcome.Acknowledged)
    ∷ says (0x00 ∷ replicate 8192 0xAA) (Some outcome.Acknowledged)
    ∷ says (0x00 ∷ replicate 8193 0xAA) None
    ∷ says (0x01 ∷ 0x05 ∷ []) (Some (outcome.BusError 0x05))
    ∷ says (0x01 ∷ []) None
    ∷ says (0x01 ∷ 0x05 ∷ 0x00 ∷ []) None
    ∷ says (0x02 ∷ []) (Some outcome.Timeout)
    ∷ says (0x02 ∷ 0x00 ∷ []) None
    ∷ says (0x03 ∷ []) None
    ∷ says [] None
    -- settings: the retries low byte first, for writes and for reads; bit 0 the PEC of writes, bit 1 that of reads, bit 3 waits that grow
    ∷ asks (0x08 ∷ 0x01 ∷ 0x02 ∷ 0x01 ∷ []) (call_for kind.ReadSecurityKeys (settings 0x0102 0x0102 true false false) 4 28)
    ∷ asks (0x08 ∷ 0x02 ∷ 0xFF ∷ 0xFF ∷ []) (call_for kind.ReadSecurityKeys (settings 65535 65535 false true false) 4 28)
    ∷ asks (0x08 ∷ 0x03 ∷ 0x00 ∷ 0x00 ∷ []) (call_for kind.ReadSecurityKeys (settings 0 0 true true false) 4 28)
    ∷ asks (0x08 ∷ 0x08 ∷ 0x06 ∷ 0x00 ∷ []) (call_for kind.ReadSecurityKeys (settings 6 6 false false true) 4 28)
    ∷ asks (0x08 ∷ 0x09 ∷ 0x00 ∷ 0x00 ∷ []) (call_for kind.ReadSecurityKeys (settings 0 0 true false true) 4 28)
    ∷ asks (0x08 ∷ 0x0A ∷ 0x00 ∷ 0x00 ∷ []) (call_for kind.ReadSecurityKeys (settings 0 0 false true true) 4 28)
    ∷ asks (0x08 ∷ 0x0B ∷ 0x00 ∷ 0x00 ∷ []) (call_for kind.ReadSecurityKeys (settings 0 0 true true true) 4 28)
    -- bit 2: two budgets, that of writes first, and the arguments after them
    ∷ asks (0x08 ∷ 0x04 ∷ 0x02 ∷ 0x01 ∷ 0x04 ∷ 0x03 ∷ []) (call_for kind.ReadSecurityKeys (settings 0x0102 0x0304 false false false) 6 28)
    ∷ asks (0x08 ∷ 0x05 ∷ 0x00 ∷ 0x00 ∷ 0x00 ∷ 0x00 ∷ []) (call_for kind.ReadSecurityKeys (settings 0 0 true false false) 6 28)
    ∷ asks (0x08 ∷ 0x06 ∷ 0x00 ∷ 0x00 ∷ 0x00 ∷ 0x00 ∷ []) (call_for kind.ReadSecurityKeys (settings 0 0 false true false) 6 28)
    ∷ asks (0x08 ∷ 0x0C ∷ 0x00 ∷ 0x00 ∷ 0x00 ∷ 0x00 ∷ []) (call_for kind.ReadSecurityKeys (settings 0 0 false false true) 6 28)
    ∷ asks (0x08 ∷ 0x0F ∷ 0xFF ∷ 0xFF ∷ 0x00 ∷ 0x00 ∷ []) (call_for kind.ReadSecurityKeys (settings 65535 0 true true true) 6 28)
    ∷ asks (0x01 ∷ 0x04 ∷ 0x00 ∷ 0x00 ∷ 0x02 ∷ 0x00 ∷ 0x34 ∷ 0x12 ∷ 0xAA ∷ []) (call_for (kind.WriteDataflash 0x1234) (settings 0 2 false false false) 8 0)
    -- too short for both; then an argument too many and too few, the longest line and one byte more, and a flag beside bit 2 that means nothing
    ∷ asks (0x08 ∷ 0x04 ∷ 0x02 ∷ 0x01 ∷ []) bad
    ∷ asks (0x08 ∷ 0x0C ∷ 0x00 ∷ 0x00 ∷ []) bad
    ∷ asks (0x08 ∷ 0x04 ∷ 0x02 ∷ 0x01 ∷ 0x04 ∷ []) bad
    ∷ asks (0x08 ∷ 0x04 ∷ 0x02 ∷ 0x01 ∷ 0x04 ∷ 0x03 ∷ 0x00 ∷ []) bad
    ∷ asks (0x02 ∷ 0x04 ∷ 0x34 ∷ 0x12 ∷ 0x02 ∷ 0x01 ∷ []) bad
    ∷ asks (0x05 ∷ 0x04 ∷ 0x00 ∷ 0x00 ∷ 0x02 ∷ 0x00 ∷ 0x78 ∷ 0x56 ∷ 0x34 ∷ 0x12 ∷ 0x00 ∷ 0x00 ∷ replicate 8192 0xAA) (call_for (kind.DispatchCommand 0x12345678) (settings 0 2 false false false) 12 0)
    ∷ asks (0x05 ∷ 0x04 ∷ 0x00 ∷ 0x00 ∷ 0x02 ∷ 0x00 ∷ 0x78 ∷ 0x56 ∷ 0x34 ∷ 0x12 ∷ 0x00 ∷ 0x00 ∷ replicate 8193 0xAA) bad
    ∷ asks (0x08 ∷ 0x14 ∷ 0x00 ∷ 0x00 ∷ 0x00 ∷ 0x00 ∷ []) bad
    -- retired by the first two characters, 0C or 0D, whatever follows; 0c, 0B, 0E, 1C and C0 are others, and one character is too few
    ∷ begins (0x30 ∷ 0x43 ∷ []) true
    ∷ begins (0x30 ∷ 0x44 ∷ []) true
    ∷ begins (0x30 ∷ 0x43 ∷ 0x5A ∷ []) true
    ∷ begins (0x30 ∷ 0x44 ∷ replicate 20000 0x30) true
    ∷ begins (0x30 ∷ 0x63 ∷ []) false
    ∷ begins (0x30 ∷ 0x42 ∷ []) false
    ∷ begins (0x30 ∷ 0x45 ∷ []) false
    ∷ begins (0x31 ∷ 0x43 ∷ []) false
    ∷ begins (0x43 ∷ 0x30 ∷ []) false
    ∷ begins (0x30 ∷ []) false
    ∷ begins [] false
    ∷ []

-- the definitions give each figure
abbrev pub Hold : List Figure → Type 0
Hold [] = Unit {0}
Hold (asks s r ∷ more) = (request_line s ≡ r) × Hold more
Hold (says s t ∷ more) = (outcome_line s ≡ t) × Hold more
Hold (begins s t ∷ more) = (retired_kind s ≡ t) × Hold more

pub figures_hold : Hold figures
unfolding pair_at quad_at two_budgets header_bytes read_retries config_of header_of unknown_flags called_of exact_of asked_of request_line retired_kind acknowledged_line error_line timeout_line outcome_line when◌then◌else◌
figures_hold = (refl, (refl, (refl, (refl, (refl, (refl, (refl, (refl, (refl, (refl, (refl, (refl, (refl, (refl, (refl, (refl, (refl, (refl, (refl, (refl, (refl, (refl, (refl, (refl, (refl, (refl, (refl, (refl, (refl, (refl, (refl, (refl, (refl, (refl, (refl, (refl, (refl, (refl, (refl, (refl, (refl, (refl, (refl, (refl, (refl, (refl, (refl, (refl, (refl, (refl, (refl, (refl, (refl, (refl, (refl, (refl, (refl, (refl, (refl, (refl, (refl, (refl, (refl, (refl, (refl, (refl, (refl, (refl, (refl, (refl, (refl, (refl, (refl, (refl, (refl, (refl, (refl, (refl, (refl, (refl, (refl, (refl, (refl, (refl, (refl, (refl, (refl, (refl, (refl, (refl, (refl, (refl, (refl, (refl, (refl, (refl, (refl, (refl, tt))))))))))))))))))))))))))))))))))))))))))))))))))))))))))))))))))))))))))))))))))))))))))))))))))
