-- A call is what the engine makes of it that carries it out, for every state and whatever is lent; the one of payload and buffer that it does not look at
-- may be anything. With these, what demand 1 says of the two engines is said of every call. (01, The step machine)
-- Assumes nothing.
use Rattle.std.specs.Prelude.{ℕ, ◌≡◌, List, length, take, Err, Ok}
use Rattle.protocol.specs.declared.common.Config.{Config}
use Rattle.protocol.specs.declared.error.Answer.{Answer}
use Rattle.engine.specs.Bus as bus
use Rattle.engine.specs.declared.bus.Outcome.{Outcome}
use Rattle.writing.specs.Writing as writing
use Rattle.writing.specs.declared.call.WritePlan.{WritePlan}
use Rattle.writing.specs.declared.call.WriteCall.{WriteCall}
use Rattle.reading.specs.Reading as reading
use Rattle.reading.specs.declared.call.ReadPlan.{ReadPlan}
use Rattle.reading.specs.declared.call.ReadCall.{ReadCall}
use Rattle.calls.specs.Kind.{plan_of}
use Rattle.calls.specs.Call.{start_of, next_of, work_after, part_of, report_of, buffer_after, phase_of, tally_of, fits_of}
use Rattle.calls.specs.declared.kind.Kind.{Kind}
use Rattle.calls.specs.declared.kind.Plan.TheVariants as plan
use Rattle.calls.specs.declared.call.Call.TheVariants as call

pub record WritesAs (c : WriteCall) : Type 0 where
  -- what it shows, what that leaves in the work buffer, and the part to send
  pub shows : (payload work : List ℕ) (n : ℕ)
      → (next_of (call.Write c) payload n (length work) ≡ writing.next_of c payload (length work)) × (work_after (call.Write c) payload n work ≡ writing.work_after c payload work)
  pub sends : (payload work : List ℕ) (n : ℕ) → part_of (call.Write c) payload work n ≡ writing.part_of c payload work n
  -- what comes of a report; the buffer is as it was
  pub takes : (o : Outcome) (reply : List ℕ) (p n w : ℕ) (next : WriteCall) → writing.report_of c o (length reply) p w ≡ Ok next
      → report_of (call.Write c) o reply p n w ≡ Ok (call.Write next)
  pub refuses : (o : Outcome) (reply : List ℕ) (p n w : ℕ) (a : Answer) (same : WriteCall) → writing.report_of c o (length reply) p w ≡ Err (a, same)
      → report_of (call.Write c) o reply p n w ≡ Err (a, call.Write same)
  pub keeps : (o : Outcome) (reply buffer : List ℕ) (w : ℕ) → buffer_after (call.Write c) o reply buffer w ≡ buffer
  -- where it stands, what it counts, and the lengths of its start
  pub stands : (phase_of (call.Write c) ≡ c.phase) × (tally_of (call.Write c) ≡ c.tally)
  pub fits : (p n w : ℕ) → fits_of (call.Write c) p n w ≡ bus.fits_of c.task.lent p w

pub record ReadsAs (c : ReadCall) : Type 0 where
  -- what it shows, what that leaves in the work buffer; its head goes out from the front of it
  pub shows : (payload work : List ℕ) (n : ℕ)
      → (next_of (call.Read c) payload n (length work) ≡ reading.next_of c n (length work)) × (work_after (call.Read c) payload n work ≡ reading.work_after c n work)
  pub sends : (payload work : List ℕ) (n : ℕ) → part_of (call.Read c) payload work n ≡ take n work
  -- what comes of a report, and what it leaves in the buffer
  pub takes : (o : Outcome) (reply : List ℕ) (p n w : ℕ) (next : ReadCall) → reading.report_of c o reply n w ≡ Ok next
      → report_of (call.Read c) o reply p n w ≡ Ok (call.Read next)
  pub refuses : (o : Outcome) (reply : List ℕ) (p n w : ℕ) (a : Answer) (same : ReadCall) → reading.report_of c o reply n w ≡ Err (a, same)
      → report_of (call.Read c) o reply p n w ≡ Err (a, call.Read same)
  pub fills : (o : Outcome) (reply buffer : List ℕ) (w : ℕ) → buffer_after (call.Read c) o reply buffer w ≡ reading.buffer_after c o reply buffer w
  -- where it stands, what it counts, and the lengths of its start
  pub stands : (phase_of (call.Read c) ≡ c.phase) × (tally_of (call.Read c) ≡ c.tally)
  pub fits : (p n w : ℕ) → fits_of (call.Read c) p n w ≡ bus.fits_of c.task.lent n w

pub record Laws : Type 0 where
  -- a kind starts its plan, with the payload where that writes and the buffer where it reads
  pub starts_w : (kind : Kind) (config : Config) (p n w : ℕ) (its : WritePlan) → plan_of kind config p n ≡ plan.Write its
      → start_of kind config p n w ≡ call.Write (writing.start_of its p w)
  pub starts_r : (kind : Kind) (config : Config) (p n w : ℕ) (its : ReadPlan) → plan_of kind config p n ≡ plan.Read its
      → start_of kind config p n w ≡ call.Read (reading.start_of its n w)
  pub writing : (c : WriteCall) → WritesAs c
  pub reading : (c : ReadCall) → ReadsAs c
