-- A call that was started by its kind and fed any reports: while it waits, it shows a transfer to whoever lends the lengths of its start.
-- Assumes nothing.
use Rattle.engine.specs.Bus.{Reported}
use Rattle.std.specs.Prelude.{Err, Ok}
use Prim.Native.Nat.{ℕ}
use mathlib.Core.Path.{◌≡◌, refl, sym, ap, subst, ◌∙◌}
use mathlib.Core.Bool.{Bool, true, false}
use mathlib.Core.List.{List, [], ◌∷◌, ◌++◌}
use lib.ListN.{length}
use Rattle.protocol.specs.Common.{TwoByteBudgets}
use Rattle.protocol.specs.Reply.{bytes_asked}
use Rattle.protocol.specs.declared.common.Config.{Config}
use Rattle.engine.specs.Made.{Made, write, read}
use Rattle.engine.specs.declared.bus.Outcome.{Outcome}
use Rattle.engine.specs.declared.bus.Phase.TheVariants as phase
use Rattle.engine.specs.declared.bus.Transfer.TheVariants as transfer
use Rattle.writing.specs.Writing as writing
use Rattle.writing.specs.declared.call.WritePlan.{WritePlan}
use Rattle.writing.specs.declared.call.WriteCall.{WriteCall}
use Rattle.reading.specs.Reading as reading
use Rattle.reading.specs.declared.call.ReadPlan.{ReadPlan}
use Rattle.reading.specs.declared.call.ReadCall.{ReadCall}
use Rattle.calls.specs.Kind.{plan_of}
use Rattle.calls.specs.Call.{start_with, start_of, next_of, work_after, part_of, wrote_of, got_of, report_of, buffer_after, phase_of, fits_of}
use Rattle.calls.specs.declared.call.Call.{Call}
use Rattle.calls.specs.declared.call.Call.TheVariants as call
use Rattle.calls.specs.declared.kind.Kind.{Kind}
use Rattle.calls.specs.declared.kind.Kind.TheVariants as kind
use Rattle.calls.specs.declared.kind.Plan.{Plan}
use Rattle.calls.specs.declared.kind.Plan.TheVariants as plan
use Rattle.ceilings.specs.Reports.{call_after}
use Rattle.answers.specs.Runs.{WriteReport, call_w, reported_w, feed_w, ReadReport, Reader, call_r, reported_r, feed_r}
use Rattle.answers.specs.Within.{WritesBy, write_with_retries_lem, write_register_lem, write_buffer_lem, write_security_keys_lem, write_authentication_key_lem, write_charging_voltage_override_lem, send_access_key_lem, unseal_fg_lem, write_mfg_info_c_lem, write_mfg_info_lem, write_dataflash_lem, ReadsBy, read_register_lem, read_buffer_lem, dispatch_command_lem, read_security_keys_lem, read_authentication_key_lem, read_charging_voltage_override_lem, read_mfg_info_c_lem, read_mfg_info_lem, read_dataflash_lem, ReadsOn}
use Rattle.answers.proofs.Laws.{fits_same, same_fits}
use Rattle.answers.proofs.Runs as runs
use Rattle.answers.proofs.Kept as kept
use Rattle.answers.proofs.Within.{within}
use Rattle.promises.specs.RunLaws.{Shows, shows_write, shows_read}

-- each kind is one of the calls by name, with a buffer of n bytes
abbrev Named : Config → ℕ → Plan → Type 0
Named config n (plan.Write its) = WritesBy config its
Named config n (plan.Read its) = ReadsBy config n its

named : (config : Config) (p n : ℕ) (kind : Kind) → Named config n (plan_of kind config p n)
unfolding plan_of
named config p n kind.WriteWithRetries = write_with_retries_lem
named config p n (kind.WriteRegister address) = write_register_lem address
named config p n (kind.ReadRegister address) = read_register_lem address
named config p n (kind.DispatchCommand address) = dispatch_command_lem address p
named config p n (kind.WriteBuffer address) = write_buffer_lem address
named config p n (kind.ReadBuffer address) = read_buffer_lem address
named config p n kind.WriteSecurityKeys = write_security_keys_lem
named config p n kind.ReadSecurityKeys = read_security_keys_lem
named config p n kind.WriteAuthenticationKey = write_authentication_key_lem
named config p n kind.ReadAuthenticationKey = read_authentication_key_lem
named config p n kind.WriteChargingVoltageOverride = write_charging_voltage_override_lem
named config p n kind.ReadChargingVoltageOverride = read_charging_voltage_override_lem
named config p n (kind.SendAccessKey lower upper) = send_access_key_lem lower upper
named config p n (kind.UnsealFg lower upper) = unseal_fg_lem lower upper
named config p n (kind.WriteMfgInfoC lower upper) = write_mfg_info_c_lem lower upper
named config p n kind.ReadMfgInfoC = read_mfg_info_c_lem
named config p n kind.WriteMfgInfo = write_mfg_info_lem
named config p n kind.ReadMfgInfo = read_mfg_info_lem
named config p n (kind.WriteDataflash address) = write_dataflash_lem address
named config p n (kind.ReadDataflash address) = read_dataflash_lem address

-- a report after others
feed_w_lem : (es : List WriteReport) (e : WriteReport) (c : WriteCall) → feed_w c (es ++ (e ∷ [])) ≡ reported_w (feed_w c es) e
unfolding feed_w
feed_w_lem [] e c = refl
feed_w_lem (x ∷ es) e c = feed_w_lem es e (reported_w c x)

feed_r_lem : (es : List ReadReport) (e : ReadReport) (r : Reader) → feed_r r (es ++ (e ∷ [])) ≡ reported_r (feed_r r es) e
unfolding feed_r
feed_r_lem [] e r = refl
feed_r_lem (x ∷ es) e r = feed_r_lem es e (reported_r r x)

wrote_after : (r : Reported WriteCall) → call_after (wrote_of r) ≡ call.Write (call_w r)
unfolding wrote_of
wrote_after (Err (a, c)) = refl
wrote_after (Ok c) = refl

got_after : (r : Reported ReadCall) → call_after (got_of r) ≡ call.Read (call_r r)
unfolding got_of
got_after (Err (a, c)) = refl
got_after (Ok c) = refl

module _ (config : Config) (payload old : List ℕ) (w : ℕ) where
  -- a reading call and its buffer at the start
  abbrev reader : ReadPlan → Reader
  reader its = record { call = reading.start_of its (length old) w; buffer = old }

  -- a call by its name, and the buffer, after any reports
  pub data Live : Call → List ℕ → Type 0 where
    writes : (its : WritePlan) → WritesBy config its → (es : List WriteReport) (c : WriteCall) (buffer : List ℕ) → c ≡ feed_w (writing.start_of its (length payload) w) es
        → Live (call.Write c) buffer
    reads : (its : ReadPlan) → ReadsBy config (length old) its → (es : List ReadReport) (c : ReadCall) (buffer : List ℕ) → record { call = c; buffer = buffer } ≡ feed_r (reader its) es
        → Live (call.Read c) buffer

  starts_live : (its : Plan) → Named config (length old) its → Live (start_with its (length payload) (length old) w) old
  unfolding start_with feed_w feed_r
  starts_live (plan.Write its) name = writes its name [] (writing.start_of its (length payload) w) old refl
  starts_live (plan.Read its) name = reads its name [] (reading.start_of its (length old) w) old refl

  pub live : (kind : Kind) → Live (start_of kind config (length payload) (length old) w) old
  unfolding start_of
  live kind = starts_live (plan_of kind config (length payload) (length old)) (named config (length payload) (length old) kind)

  -- whatever is reported
  pub lives : (c : Call) (buffer : List ℕ) → Live c buffer → (o : Outcome) (reply : List ℕ) (v : ℕ)
      → Live (call_after (report_of c o reply (length payload) (length buffer) v)) (buffer_after c o reply buffer v)
  unfolding report_of buffer_after
  lives (call.Write c) buffer (writes its name es _ _ e) o reply v =
      let x : WriteReport = record { outcome = o; reply = length reply; payload = length payload; work = v } in
      subst (λ (d : Call). Live d buffer) (sym (wrote_after (writing.report_of c o (length reply) (length payload) v)))
      (writes its name (es ++ (x ∷ [])) (reported_w c x) buffer (ap (λ (d : WriteCall). reported_w d x) e ∙ sym (feed_w_lem es x (writing.start_of its (length payload) w))))
  lives (call.Read c) buffer (reads its name es _ _ e) o reply v =
      let x : ReadReport = record { outcome = o; reply = reply; work = v } in
      subst (λ (d : Call). Live d (reading.buffer_after c o reply buffer v)) (sym (got_after (reading.report_of c o reply (length buffer) v)))
      (reads its name (es ++ (x ∷ [])) (call_r (reading.report_of c o reply (length buffer) v)) (reading.buffer_after c o reply buffer v) (ap (λ (r : Reader). reported_r r x) e ∙ sym (feed_r_lem es x (reader its))))

  -- it is lent the lengths of its start
  pub fits_live : (c : Call) (buffer work : List ℕ) → Live c buffer → length buffer ≡ length old → length work ≡ w → fits_of c (length payload) (length buffer) (length work) ≡ true
  unfolding fits_of writing.start_of reading.start_of
  fits_live (call.Write c) buffer work (writes its name es _ _ e) size long =
      let task = ap (λ (d : WriteCall). d.task.lent) e ∙ ap (λ t. t.lent) (runs.same_task es (writing.start_of its (length payload) w)) in
      same_fits c.task.lent (length payload) (length work) (sym (ap (λ x. x.length) task), long ∙ sym (ap (λ x. x.work) task))
  fits_live (call.Read c) buffer work (reads its name es _ _ e) size long =
      let task = ap (λ (r : Reader). r.call.task.lent) e ∙ ap (λ t. t.lent) (kept.same_task es (reader its)) in
      same_fits c.task.lent (length buffer) (length work) (size ∙ sym (ap (λ x. x.length) task), long ∙ sym (ap (λ x. x.work) task))

  -- A CALL THAT WAITS SHOWS A TRANSFER
  pub shows_one : TwoByteBudgets config → (c : Call) (buffer work : List ℕ) → Live c buffer → phase_of c ≡ phase.Waiting
      → fits_of c (length payload) (length buffer) (length work) ≡ true → (made : Made) × Shows c payload buffer work made
  unfolding phase_of fits_of next_of writing.start_of reading.start_of
  shows_one few (call.Write c) buffer work (writes its name es _ _ e) waits fits =
      let on = (within.writing config few its name payload w es).goes_on (sym (ap (λ (d : WriteCall). d.phase) e) ∙ waits) in
      let task = ap (λ (d : WriteCall). d.task.lent.work) e ∙ ap (λ t. t.lent.work) (runs.same_task es (writing.start_of its (length payload) w)) in
      let long : length work ≡ w = (fits_same c.task.lent (length payload) (length work) fits).1 ∙ task in
      let shown : writing.next_of c payload (length work) ≡ transfer.Write on.shows.0 =
      ap (λ (d : WriteCall). writing.next_of d payload (length work)) e ∙ ap (writing.next_of (feed_w (writing.start_of its (length payload) w) es) payload) long ∙ on.shows.1 in
      (write (part_of (call.Write c) payload (work_after (call.Write c) payload (length buffer) work) on.shows.0), shows_write on.shows.0 shown)
  shows_one few (call.Read c) buffer work (reads its name es _ _ e) waits fits = by c.heading refl
    where
      same : c ≡ (feed_r (reader its) es).call
      same = ap (λ (r : Reader). r.call) e

      lent : (length buffer ≡ length old) × (length work ≡ w)
      lent =
          let s = fits_same c.task.lent (length buffer) (length work) fits in
          let task = ap (λ (d : ReadCall). d.task.lent) same ∙ ap (λ t. t.lent) (kept.same_task es (reader its)) in
          (s.0 ∙ ap (λ l. l.length) task, s.1 ∙ ap (λ l. l.work) task)

      lengths : reading.next_of c (length buffer) (length work) ≡ reading.next_of (feed_r (reader its) es).call (length old) w
      lengths = rw (lent.0, lent.1) (ap (λ (d : ReadCall). reading.next_of d (length old) w) same)

      on : ReadsOn its (length old) w (feed_r (reader its) es).call
      on = (within.reading config few old its name w es).goes_on (sym (ap (λ (d : ReadCall). d.phase) same) ∙ waits)

      by : (h : Bool) → c.heading ≡ h → (made : Made) × Shows (call.Read c) payload buffer work made
      by true h =
          let shown = on.shows_head (sym (ap (λ (d : ReadCall). d.heading) same) ∙ h) in
          let so : reading.next_of c (length buffer) (length work) ≡ transfer.Write shown.0 = lengths ∙ shown.1 in
          (write (part_of (call.Read c) payload (work_after (call.Read c) payload (length buffer) work) shown.0), shows_write shown.0 so)
      by false h =
          let shown = on.shows_read (sym (ap (λ (d : ReadCall). d.heading) same) ∙ h) in
          let so : reading.next_of c (length buffer) (length work) ≡ transfer.Read (reading.due_ask c).command (bytes_asked (reading.due_ask c)) =
          lengths ∙ shown ∙ sym (ap (λ (d : ReadCall). transfer.Read (reading.due_ask d).command (bytes_asked (reading.due_ask d))) same) in
          (read (reading.due_ask c).command (bytes_asked (reading.due_ask c)), shows_read (reading.due_ask c).command (bytes_asked (reading.due_ask c)) so)
