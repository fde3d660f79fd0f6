-- Each kind: its call is that of one engine, fed the same, and that is the Rust's.
-- Assumes nothing.
use Rattle.engine.specs.Bus.{Reported}
use Rattle.std.specs.Prelude.{Err, Ok}
use Prim.Native.Nat.{ℕ, ◌≤◌}
use mathlib.Core.Path.{◌≡◌, refl, sym, ap, ◌∙◌}
use mathlib.Core.List.{List, [], ◌∷◌, ◌++◌}
use native.Mathlib.Omega.{arith}
use lib.ListN.{length, take}
use borrow.Author.Tests.{le-ltb, ne_eqb}
use Rattle.protocol.specs.Pick.{when◌then◌else◌}
use Rattle.protocol.specs.Common.{TwoByteBudgets}
use Rattle.protocol.specs.declared.common.Config.{Config}
use Rattle.protocol.specs.declared.error.Answer.{Answer}
use Rattle.protocol.specs.declared.error.Answer.TheVariants as answer
use Rattle.engine.specs.Limit.{measured, admitted}
use Rattle.engine.specs.declared.bus.Transfer.{Transfer}
use Rattle.engine.specs.declared.bus.Transfer.TheVariants as transfer
use Rattle.engine.specs.declared.limit.Limit.TheVariants as limit
use Rattle.writing.specs.Frames as frames
use Rattle.writing.specs.Writing as writing
use Rattle.writing.specs.declared.call.WritePlan.{WritePlan}
use Rattle.writing.specs.declared.call.WriteCall.{WriteCall}
use Rattle.reading.specs.Parts as parts
use Rattle.reading.specs.Reading as reading
use Rattle.reading.specs.declared.call.ReadPlan.{ReadPlan}
use Rattle.reading.specs.declared.call.ReadCall.{ReadCall}
use Rattle.r5.specs.Plans.{mac_read, mac_write, send_access_key, write_charging_voltage_override}
use Rattle.r5.specs.Voltage.{override_of}
use Rattle.r5.proofs.Back.{both_ways}
use Rattle.calls.specs.Kind.{plan_of}
use Rattle.calls.specs.Call.{start_with, start_of, next_of, work_after, part_of, wrote_of, got_of, report_of, buffer_after, tally_of}
use Rattle.calls.specs.declared.kind.Kind.{Kind}
use Rattle.calls.specs.declared.kind.Kind.TheVariants as kind
use Rattle.calls.specs.declared.call.Call.TheVariants as call
use Rattle.original.specs.Bus.{BusOutcome, Made, write, read, begun, Came, Err, Read, ◌leaving◌}
use Rattle.original.specs.Fed.{told, Lending, Lends, reply, answered, shows◌sending◌transfer◌answer◌, wrote◌taken◌refused◌, heard◌taken◌refused◌, fed_write, fed_read, writes, reads, came◌taken◌refused◌, fed}
use Rattle.original.specs.Equal.{Equal}
use Rattle.original.specs.ByKind.{rust_of, Defined, Added, long_frame, input_given, keys_written, keys_read, key_written, key_read, override_written, override_read, key_sent, unsealed, EqualByKind}
use Rattle.original.proofs.WriteTurns.{no_frame}
use Rattle.original.proofs.ReadTurns.{no_transfer}
use Rattle.original.proofs.Equal.{equal}

-- a writing call is fed as its engine is, and leaves the buffer as it was
module _ (payload buffer : List ℕ) (lent : ℕ → Lending) where
  fed_writing : (c : WriteCall) (done : List Made) (os : List BusOutcome) → fed (call.Write c) payload buffer lent done os ≡ (fed_write c payload lent done os leaving buffer)
  unfolding fed fed_write next_of work_after part_of tally_of report_of buffer_after wrote_of shows◌sending◌transfer◌answer◌ came◌taken◌refused◌ wrote◌taken◌refused◌
  fed_writing c done [] = by (writing.next_of c payload (length (lent (length done)).work)) refl
    where
      by : (t : Transfer) → writing.next_of c payload (length (lent (length done)).work) ≡ t → fed (call.Write c) payload buffer lent done [] ≡ (fed_write c payload lent done [] leaving buffer)
      by (transfer.Write n) e = rw e
      by (transfer.Read command n) e = rw e
      by (transfer.Refused a) e = rw e
      by (transfer.Ended a) e = rw e
  fed_writing c done (o ∷ os) = by (λ next done. fed_writing next done os) (writing.next_of c payload (length (lent (length done)).work)) refl
    where
      shown : List ℕ
      shown = writing.work_after c payload (lent (length done)).work

      after : ((next : WriteCall) (done : List Made) → fed (call.Write next) payload buffer lent done os ≡ (fed_write next payload lent done os leaving buffer)) → (t : Made) (r : Reported WriteCall) → writing.report_of c (told o) (length (reply t (lent (length done)).beside o)) (length payload) (length shown) ≡ r
          → (came report_of (call.Write c) (told o) (reply t (lent (length done)).beside o) (length payload) (length buffer) (length shown)
          taken (λ next. fed next payload buffer lent (done ++ (t ∷ [])) os)
          refused (λ a. answered a (record { transfers = done ++ (t ∷ []); waits = c.tally.waits }) os leaving buffer))
          ≡ ((wrote writing.report_of c (told o) (length (reply t (lent (length done)).beside o)) (length payload) (length shown)
          taken (λ next. fed_write next payload lent (done ++ (t ∷ [])) os)
          refused (λ a. answered a (record { transfers = done ++ (t ∷ []); waits = c.tally.waits }) os)) leaving buffer)
      after on t (Ok next) e = rw e (on next (done ++ (t ∷ [])))
      after on t (Err (a, same)) e = rw e

      by : ((next : WriteCall) (done : List Made) → fed (call.Write next) payload buffer lent done os ≡ (fed_write next payload lent done os leaving buffer)) → (t : Transfer) → writing.next_of c payload (length (lent (length done)).work) ≡ t → fed (call.Write c) payload buffer lent done (o ∷ os) ≡ (fed_write c payload lent done (o ∷ os) leaving buffer)
      by on (transfer.Write n) e = rw e (after on (write (writing.part_of c payload shown n)) _ refl)
      by on (transfer.Read command n) e = rw e (after on (read command n) _ refl)
      by on (transfer.Refused a) e = rw e
      by on (transfer.Ended a) e = rw e

-- and a reading call as its own
module _ (payload : List ℕ) (lent : ℕ → Lending) where
  fed_reading : (c : ReadCall) (buffer : List ℕ) (done : List Made) (os : List BusOutcome) → fed (call.Read c) payload buffer lent done os ≡ fed_read c buffer lent done os
  unfolding fed fed_read next_of work_after part_of tally_of report_of buffer_after got_of shows◌sending◌transfer◌answer◌ came◌taken◌refused◌ heard◌taken◌refused◌
  fed_reading c buffer done [] = by (reading.next_of c (length buffer) (length (lent (length done)).work)) refl
    where
      by : (t : Transfer) → reading.next_of c (length buffer) (length (lent (length done)).work) ≡ t → fed (call.Read c) payload buffer lent done [] ≡ fed_read c buffer lent done []
      by (transfer.Write n) e = rw e
      by (transfer.Read command n) e = rw e
      by (transfer.Refused a) e = rw e
      by (transfer.Ended a) e = rw e
  fed_reading c buffer done (o ∷ os) = by (λ next buffer done. fed_reading next buffer done os) (reading.next_of c (length buffer) (length (lent (length done)).work)) refl
    where
      shown : List ℕ
      shown = reading.work_after c (length buffer) (lent (length done)).work

      after : ((next : ReadCall) (buffer : List ℕ) (done : List Made) → fed (call.Read next) payload buffer lent done os ≡ fed_read next buffer lent done os) → (t : Made) (r : Reported ReadCall) → reading.report_of c (told o) (reply t (lent (length done)).beside o) (length buffer) (length shown) ≡ r
          → (came report_of (call.Read c) (told o) (reply t (lent (length done)).beside o) (length payload) (length buffer) (length shown)
          taken (λ next. fed next payload (reading.buffer_after c (told o) (reply t (lent (length done)).beside o) buffer (length shown)) lent (done ++ (t ∷ [])) os)
          refused (λ a. answered a (record { transfers = done ++ (t ∷ []); waits = c.tally.waits }) os leaving buffer))
          ≡ (heard reading.report_of c (told o) (reply t (lent (length done)).beside o) (length buffer) (length shown)
          taken (λ next. fed_read next (reading.buffer_after c (told o) (reply t (lent (length done)).beside o) buffer (length shown)) lent (done ++ (t ∷ [])) os)
          refused (λ a. answered a (record { transfers = done ++ (t ∷ []); waits = c.tally.waits }) os leaving buffer))
      after on t (Ok next) e = rw e (on next _ (done ++ (t ∷ [])))
      after on t (Err (a, same)) e = rw e

      by : ((next : ReadCall) (buffer : List ℕ) (done : List Made) → fed (call.Read next) payload buffer lent done os ≡ fed_read next buffer lent done os) → (t : Transfer) → reading.next_of c (length buffer) (length (lent (length done)).work) ≡ t → fed (call.Read c) payload buffer lent done (o ∷ os) ≡ fed_read c buffer lent done (o ∷ os)
      by on (transfer.Write n) e = rw e (after on (write (take n shown)) _ refl)
      by on (transfer.Read command n) e = rw e (after on (read command n) _ refl)
      by on (transfer.Refused a) e = rw e
      by on (transfer.Ended a) e = rw e

-- DEMAND 2 BY KIND
pub equal_by_kind : (config : Config) → TwoByteBudgets config → (w : ℕ) → 39 ≤ w → (lent : ℕ → Lending) → Lends w lent → (outcomes : List BusOutcome) → EqualByKind config w lent outcomes
unfolding start_of start_with plan_of mac_read mac_write send_access_key writing.plan_of reading.mac_plan parts.first_address frames.first_address measured admitted answered when◌then◌else◌
equal_by_kind config small w roomy lent steady os = record { same = by; added = instead }
  where
    e : Equal config w lent os
    e = equal config small w roomy lent steady os

    wrote_as : (plan : WritePlan) (payload buffer : List ℕ) (comes : Came) → writes plan payload w lent os ≡ comes
        → fed (call.Write (writing.start_of plan (length payload) w)) payload buffer lent [] os ≡ (comes leaving buffer)
    wrote_as plan payload buffer comes h = fed_writing payload buffer lent (writing.start_of plan (length payload) w) [] os ∙ ap (λ (c : Came). c leaving buffer) h

    read_as : (plan : ReadPlan) (payload buffer : List ℕ) (comes : Read) → reads plan buffer w lent os ≡ comes
        → fed (call.Read (reading.start_of plan (length buffer) w)) payload buffer lent [] os ≡ comes
    read_as plan payload buffer comes h = fed_reading payload lent (reading.start_of plan (length buffer) w) buffer [] os ∙ h

    by : (kind : Kind) (payload buffer : List ℕ) → Defined kind config payload buffer
        → fed (start_of kind config (length payload) (length buffer) w) payload buffer lent [] os ≡ rust_of kind config payload buffer os
    by kind.WriteWithRetries payload buffer d = wrote_as _ payload buffer _ (e.plain_write payload d)
    by (kind.WriteRegister address) payload buffer d = wrote_as _ payload buffer _ (e.write_register_lem address payload)
    by (kind.ReadRegister address) payload buffer d = read_as _ payload buffer _ (e.read_register_lem address buffer)
    by (kind.DispatchCommand address) payload [] d = read_as _ payload [] _ (e.dispatch_command_alone address payload d)
    by (kind.DispatchCommand address) payload (b ∷ buffer) d = read_as _ payload (b ∷ buffer) _ (e.dispatch_command_lem address payload (b ∷ buffer) d (omega arith))
    by (kind.WriteBuffer address) payload buffer d = wrote_as _ payload buffer _ (e.buffer_write_lem address payload)
    by (kind.ReadBuffer address) payload buffer d = read_as _ payload buffer _ (e.buffer_read_lem address buffer d)
    by kind.WriteSecurityKeys payload buffer d = wrote_as _ payload buffer _ (e.write_security_keys_lem payload d)
    by kind.ReadSecurityKeys payload buffer d = read_as _ payload buffer _ (e.read_security_keys_lem buffer d)
    by kind.WriteAuthenticationKey payload buffer d = wrote_as _ payload buffer _ (e.write_authentication_key_lem payload d)
    by kind.ReadAuthenticationKey payload buffer d = read_as _ payload buffer _ (e.read_authentication_key_lem buffer d)
    by kind.WriteChargingVoltageOverride payload buffer (ten, small_bytes) =
        wrote_as _ payload buffer _ (ap (λ (s : List ℕ). writes (write_charging_voltage_override config) s w lent os) (sym (both_ways.bytes_back payload ten small_bytes)) ∙ e.write_charging_voltage_override_lem (override_of payload))
    by kind.ReadChargingVoltageOverride payload buffer d = read_as _ payload buffer _ (e.read_charging_voltage_override_lem buffer d)
    by (kind.SendAccessKey lower upper) payload buffer d = rw d (wrote_as _ [] buffer _ (e.send_access_key_lem lower upper))
    by (kind.UnsealFg lower upper) payload buffer d = rw d (wrote_as _ [] buffer _ (e.unseal_fg_lem lower upper))
    by (kind.WriteMfgInfoC lower upper) payload buffer d = wrote_as _ payload buffer _ (e.write_mfg_info_c_lem lower upper payload)
    by kind.ReadMfgInfoC payload buffer d = read_as _ payload buffer _ (e.read_mfg_info_c_lem buffer)
    by kind.WriteMfgInfo payload buffer d = wrote_as _ payload buffer _ (e.write_mfg_info_lem payload)
    by kind.ReadMfgInfo payload buffer d = read_as _ payload buffer _ (e.read_mfg_info_lem buffer)
    by (kind.WriteDataflash address) payload buffer d = wrote_as _ payload buffer _ (e.write_dataflash_lem address payload)
    by (kind.ReadDataflash address) payload buffer d = read_as _ payload buffer _ (e.read_dataflash_lem address buffer)

    -- another length than the limit's own
    key_wrote : (plan : WritePlan) (size : ℕ) → plan.limit ≡ limit.Exactly size → (payload buffer : List ℕ) → (length payload ≡ size → ⊥)
        → fed (call.Write (writing.start_of plan (length payload) w)) payload buffer lent [] os ≡ (Err answer.WrongBuffer begun os leaving buffer)
    key_wrote plan size l payload buffer h = wrote_as plan payload buffer _ (no_frame plan payload w lent answer.WrongBuffer os (rw (l, le-ltb w 39 roomy, ne_eqb (length payload) size h)))

    key_got : (plan : ReadPlan) (size : ℕ) → plan.limit ≡ limit.Exactly size → (payload buffer : List ℕ) → (length buffer ≡ size → ⊥)
        → fed (call.Read (reading.start_of plan (length buffer) w)) payload buffer lent [] os ≡ (Err answer.WrongBuffer begun os leaving buffer)
    key_got plan size l payload buffer h = read_as plan payload buffer _ (no_transfer plan (length buffer) w lent buffer answer.WrongBuffer os (rw (l, le-ltb w 39 roomy, ne_eqb (length buffer) size h)))

    instead : (kind : Kind) (payload buffer : List ℕ) (a : Answer) → Added config payload buffer kind a
        → fed (start_of kind config (length payload) (length buffer) w) payload buffer lent [] os ≡ (Err a begun os leaving buffer)
    instead kind payload buffer a (long_frame h) = wrote_as _ payload buffer _ (e.plain_write_refused payload h)
    instead kind payload buffer a (input_given address h) = read_as _ payload buffer _ (e.dispatch_command_refused address payload buffer h)
    instead kind payload buffer a (keys_written h) = key_wrote _ 28 refl payload buffer h
    instead kind payload buffer a (keys_read h) = key_got _ 28 refl payload buffer h
    instead kind payload buffer a (key_written h) = key_wrote _ 16 refl payload buffer h
    instead kind payload buffer a (key_read h) = key_got _ 16 refl payload buffer h
    instead kind payload buffer a (override_written h) = key_wrote _ 10 refl payload buffer h
    instead kind payload buffer a (override_read h) = key_got _ 10 refl payload buffer h
    instead kind payload buffer a (key_sent lower upper h) = key_wrote _ 0 refl payload buffer h
    instead kind payload buffer a (unsealed lower upper h) = key_wrote _ 0 refl payload buffer h
