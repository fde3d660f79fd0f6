-- Each call of interface.rs as a plan: its retries, its limit, its PEC, its frames. (01, The step machine, length limits; Frames and retries)
-- Assumes nothing.
use Rattle.std.specs.Prelude.{ℕ, ◌/◌, ◌%◌, Bool, false, eqb}
use Rattle.protocol.specs.Pick.{when◌then◌else◌}
use Rattle.protocol.specs.Reply.{plain_ask, mac_ask}
use Rattle.protocol.specs.declared.common.Config.{Config}
use Rattle.engine.specs.declared.limit.Limit.{Limit}
use Rattle.engine.specs.declared.limit.Limit.TheVariants as limit
use Rattle.writing.specs.Writing.{plan_of}
use Rattle.writing.specs.declared.frames.Frames.TheVariants as frames
use Rattle.writing.specs.declared.call.WritePlan.{WritePlan}
use Rattle.reading.specs.Reading as reading
use Rattle.reading.specs.declared.parts.Head.TheVariants as head
use Rattle.reading.specs.declared.parts.Reads.{Reads}
use Rattle.reading.specs.declared.parts.Reads.TheVariants as reads
use Rattle.reading.specs.declared.call.ReadPlan.{ReadPlan}

-- a plain write has at most 38 bytes with PEC, and no limit without
unfoldable pub plain_limit : Bool → Limit
plain_limit pec = when pec then limit.AtMost 38 else limit.Free

-- the caller's own frame
unfoldable pub write_with_retries : Config → WritePlan
write_with_retries config = plan_of config (plain_limit config.pec_write) frames.Plain

-- at most 32 bytes after the register's address
unfoldable pub write_register : Config → ℕ → WritePlan
write_register config address = plan_of config (limit.AtMost 32) (frames.Register address)

-- at most 32 bytes, into a buffer of n
unfoldable pub read_register : Config → ℕ → ℕ → ReadPlan
read_register config address n = reading.plain_plan config (limit.AtMost 32) (plain_ask address n config.pec_read)

-- a command with no output reads nothing, and is a write; the read that follows one with an output sends bits 23..16 as its command
unfoldable pub command_reads : Config → ℕ → ℕ → Reads
command_reads config address n =
    when eqb n 0 then reads.Nothing else reads.Once (mac_ask (address / 65536 % 256) n config.pec_read)

-- a command beside an input of so many bytes, with an output of n
unfoldable pub dispatch_command : Config → ℕ → ℕ → ℕ → ReadPlan
dispatch_command config address input n =
    reading.plan_of config (limit.Command input) (head.Command address) (command_reads config address n)

-- any length, never with PEC
unfoldable pub read_buffer : Config → ℕ → ℕ → ReadPlan
read_buffer config address n = reading.plain_plan config limit.Free (plain_ask address n false)

-- at most 33 bytes after the buffer's address
unfoldable pub write_buffer : Config → ℕ → WritePlan
write_buffer config address = plan_of config (limit.AtMost 33) (frames.Register address)
