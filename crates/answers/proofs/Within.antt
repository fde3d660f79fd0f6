-- Each call by name stays within its bounds, however it is fed.
-- Assumes nothing.
use Prim.Native.Nat.{ℕ, ◌+◌, ◌≤◌, ◌<◌}
use mathlib.Core.Path.{◌≡◌, refl, sym, subst, ◌∙◌}
use mathlib.Core.Bool.{Bool, true, false}
use mathlib.Core.Logic.{◌⊎◌, inl, inr}
use mathlib.Core.List.{List, []}
use native.Mathlib.Omega.{arith}
use lib.Dec.{ltb, eqb}
use lib.ListN.{length, length-take}
use borrow.Author.Tests.{lt-ltb, eq-eqb}
use Rattle.protocol.proofs.Shared.{few_on}
use Rattle.protocol.specs.Common.{TwoByteBudgets}
use Rattle.protocol.specs.Pick.{when◌then◌else◌}
use Rattle.protocol.specs.Frame.{pair_of, mac_bytes, fixed_pair, command_bytes, register_bytes, info_bytes, sealed, laid_of}
use Rattle.protocol.specs.Reply as reply
use Rattle.protocol.specs.declared.common.Config.{Config}
use Rattle.protocol.specs.declared.error.Answer.{Answer}
use Rattle.protocol.specs.declared.frame.MacCommand.{MacCommand}
use Rattle.protocol.specs.declared.frame.MacCommand.TheVariants as mac
use Rattle.engine.specs.Pick.{case◌waiting◌ended◌}
use Rattle.engine.specs.Bus.{write_of, fits_of}
use Rattle.engine.specs.Budget.{nothing}
use Rattle.engine.specs.declared.bus.Phase.{Phase}
use Rattle.engine.specs.declared.bus.Phase.TheVariants as phase
use Rattle.engine.specs.declared.bus.Transfer.TheVariants as transfer
use Rattle.engine.specs.declared.limit.Limit.{Limit}
use Rattle.engine.specs.declared.limit.Limit.TheVariants as limit
use Rattle.writing.specs.Frames as frames
use Rattle.writing.specs.Writing as writing
use Rattle.writing.specs.declared.call.WritePlan.{WritePlan}
use Rattle.writing.specs.declared.call.WriteCall.{WriteCall}
use Rattle.reading.specs.Parts as parts
use Rattle.reading.specs.Reading as reading
use Rattle.reading.specs.declared.parts.Head.{Head}
use Rattle.reading.specs.declared.parts.Head.TheVariants as head
use Rattle.reading.specs.declared.call.ReadPlan.{ReadPlan}
use Rattle.reading.specs.declared.call.ReadCall.{ReadCall}
use Rattle.interface.specs.Plans.{plain_limit, write_with_retries, write_register, read_register, command_reads, dispatch_command, read_buffer, write_buffer}
use Rattle.r5.specs.Plans.{mac_read, mac_write, whole_ask, send_access_key, write_mfg_info_c, read_mfg_info_c, write_mfg_info, read_mfg_info, read_dataflash, write_dataflash}
use Rattle.answers.specs.Runs.{WriteReport, feed_w, ReadReport, Reader, feed_r, Stays}
use Rattle.answers.specs.Within.{Inside, WritesBy, write_with_retries_lem, write_register_lem, write_buffer_lem, write_security_keys_lem, write_authentication_key_lem, write_charging_voltage_override_lem, send_access_key_lem, unseal_fg_lem, write_mfg_info_c_lem, write_mfg_info_lem, write_dataflash_lem, WritesOn, WritesWithin, ReadsBy, read_register_lem, read_buffer_lem, dispatch_command_lem, read_security_keys_lem, read_authentication_key_lem, read_charging_voltage_override_lem, read_mfg_info_c_lem, read_mfg_info_lem, read_dataflash_lem, ReadsWithin, Within}
use Rattle.answers.proofs.Calls.{starts_as}
use Rattle.answers.proofs.Fits.{Fits, admitted_fits, blocks_inside, blocks_few}
use Rattle.answers.proofs.Runs as runs
use Rattle.answers.proofs.Kept as kept

-- ---- the writing calls

-- what a plan gives for a payload that fits: one frame or more, at most 256, each with room or the caller's own, each in the window
record Sane (plan : WritePlan) (payload : List ℕ) : Type 0 where
  some : 0 < frames.frame_count plan.frames (length payload)
  few : frames.frame_count plan.frames (length payload) ≤ 256
  room : (i : ℕ) → ((frames.is_plain plan.frames ≡ true) × (plan.pec ≡ false)) ⊎ (length (frames.bytes_at plan.frames i payload) ≤ 38)
  inside : (i : ℕ) → i < frames.frame_count plan.frames (length payload) → Inside plan.limit (frames.first_address plan.frames) (length payload) i

length_half : (lower upper i : ℕ) → length (frames.half_bytes lower upper i) ≤ 38
unfolding frames.half_bytes mac_bytes pair_of when◌then◌else◌
length_half lower upper i = by (eqb i 0)
  where
    by : (t : Bool) → length (when t then mac_bytes (pair_of lower) [] else mac_bytes (pair_of upper) []) ≤ 38
    by true = omega arith
    by false = omega arith

length_info : (lower upper i : ℕ) (payload : List ℕ) → length payload ≤ 32 → length (frames.info_cbytes lower upper i payload) ≤ 38
unfolding frames.info_cbytes mac_bytes when◌then◌else◌
length_info lower upper i payload h = by (ltb i 2)
  where
    by : (t : Bool) → length (when t then frames.half_bytes lower upper i else mac_bytes (fixed_pair mac.MfgInfoC) payload) ≤ 38
    by true = length_half lower upper i
    by false = omega arith

length_block : (start i : ℕ) (payload : List ℕ) → length (frames.block_bytes start i payload) ≤ 38
unfolding frames.block_bytes mac_bytes pair_of
length_block start i payload = simp length-take (omega arith)

length_mac : (command : MacCommand) (payload : List ℕ) → length payload ≤ 32 → length (mac_bytes (fixed_pair command) payload) ≤ 38
unfolding mac_bytes
length_mac mac.SecurityKeys payload h = omega arith
length_mac mac.AuthenticationKey payload h = omega arith
length_mac mac.ChargingVoltageOverride payload h = omega arith
length_mac mac.MfgInfoC payload h = omega arith

module _ (config : Config) (payload : List ℕ) where
  -- one frame that has room
  one_frame : (plan : WritePlan) → frames.frame_count plan.frames (length payload) ≡ 1 → ((i : ℕ) → length (frames.bytes_at plan.frames i payload) ≤ 38)
      → ((i : ℕ) → Inside plan.limit (frames.first_address plan.frames) (length payload) i) → Sane plan payload
  one_frame plan one room at = record { some = omega (arith, one); few = omega (arith, one); room = λ i. inr (room i); inside = λ i h. at i }

  plain_sane : (pec : Bool) → config.pec_write ≡ pec → Fits (write_with_retries config).limit 0 (length payload) → Sane (write_with_retries config) payload
  unfolding write_with_retries plain_limit writing.plan_of frames.first_address frames.frame_count frames.is_plain frames.bytes_at when◌then◌else◌
  plain_sane true e h =
      let q : (write_with_retries config).limit ≡ limit.AtMost 38 = rw e in
      let k : length payload ≤ 38 = subst (λ (l : Limit). Fits l 0 (length payload)) q h in
      one_frame (write_with_retries config) refl (λ i. k) (λ i. subst (λ (l : Limit). Inside l 0 (length payload) i) (sym q) tt)
  plain_sane false e h =
      let q : (write_with_retries config).limit ≡ limit.Free = rw e in
      record { some = omega arith; few = omega arith; room = λ i. inl (refl, e); inside = λ i h. subst (λ (l : Limit). Inside l 0 (length payload) i) (sym q) tt }

  key_sane : (lower upper : ℕ) → Sane (send_access_key config lower upper) payload
  unfolding send_access_key writing.plan_of frames.frame_count frames.bytes_at
  key_sane lower upper = record { some = omega arith; few = omega arith; room = λ i. inr (length_half lower upper i); inside = λ i h. tt }

  sane : (plan : WritePlan) → WritesBy config plan → Fits plan.limit (frames.first_address plan.frames) (length payload) → Sane plan payload
  unfolding write_with_retries write_register write_buffer mac_write send_access_key write_mfg_info_c write_mfg_info write_dataflash writing.plan_of frames.first_address frames.frame_count frames.is_plain frames.bytes_at register_bytes info_bytes
  sane plan (write_with_retries_lem) h = plain_sane config.pec_write refl h
  sane plan (write_register_lem address) h = one_frame plan refl (λ i. omega arith) (λ i. tt)
  sane plan (write_buffer_lem address) h = one_frame plan refl (λ i. omega arith) (λ i. tt)
  sane plan (write_security_keys_lem) h = one_frame plan refl (λ i. length_mac mac.SecurityKeys payload (omega arith)) (λ i. tt)
  sane plan (write_authentication_key_lem) h = one_frame plan refl (λ i. length_mac mac.AuthenticationKey payload (omega arith)) (λ i. tt)
  sane plan (write_charging_voltage_override_lem) h = one_frame plan refl (λ i. length_mac mac.ChargingVoltageOverride payload (omega arith)) (λ i. tt)
  sane plan (send_access_key_lem lower upper) h = key_sane lower upper
  sane plan (unseal_fg_lem lower upper) h = key_sane lower upper
  sane plan (write_mfg_info_c_lem lower upper) h =
      record { some = omega arith; few = omega arith; room = λ i. inr (length_info lower upper i payload h); inside = λ i h. tt }
  sane plan (write_mfg_info_lem) h = one_frame plan refl (λ i. omega arith) (λ i. tt)
  sane plan (write_dataflash_lem start) h = record {
    some = (blocks_few start (length payload) h).0;
    few = (blocks_few start (length payload) h).1;
    room = λ i. inr (length_block start i payload);
    inside = λ i k. blocks_inside start (length payload) i h k;
  }

-- a frame is shown where it has room
laid_shown : (pec : Bool) (f : List ℕ) (w : ℕ) → length f < w → write_of (laid_of pec f w) ≡ transfer.Write (length (sealed pec f))
unfolding write_of laid_of when◌then◌else◌
laid_shown pec f w h = rw (lt-ltb (length f) w h)

shows_write : (call : WriteCall) (payload : List ℕ) (w : ℕ) → call.phase ≡ phase.Waiting → fits_of call.task.lent (length payload) w ≡ true
    → (writing.own_bytes call ≡ false → length (writing.due_bytes call payload) < w) → (n : ℕ) × (writing.next_of call payload w ≡ transfer.Write n)
unfolding writing.next_of writing.shown_of writing.due_bytes case◌waiting◌ended◌ when◌then◌else◌
shows_write call payload w e f room = by (writing.own_bytes call) refl
  where
    by : (o : Bool) → writing.own_bytes call ≡ o → (n : ℕ) × (writing.next_of call payload w ≡ transfer.Write n)
    by true o = (length payload, rw (o, f, e))
    by false o = (length (sealed call.task.plan.pec (writing.due_bytes call payload)), rw (o, f, e) (laid_shown call.task.plan.pec (writing.due_bytes call payload) w (room o)))

module _ (plan : WritePlan) (payload : List ℕ) (w : ℕ) (s : Sane plan payload) (k : 39 ≤ w) (call : WriteCall)
    (t : call.task ≡ (writing.start_of plan (length payload) w).task) where
  fits_start : fits_of call.task.lent (length payload) w ≡ true
  unfolding fits_of writing.start_of
  fits_start = rw (t, eq-eqb (length payload) (length payload) refl, eq-eqb w w refl)

  has_room : writing.own_bytes call ≡ false → length (writing.due_bytes call payload) < w
  unfolding writing.own_bytes writing.due_bytes writing.start_of when◌then◌else◌
  has_room o = by (s.room call.sent)
    where
      by : ((frames.is_plain plan.frames ≡ true) × (plan.pec ≡ false)) ⊎ (length (frames.bytes_at plan.frames call.sent payload) ≤ 38)
          → length (writing.due_bytes call payload) < w
      by (inl (p, q)) = let z : ◌≡◌ {A = ℕ} 0 1 = cc (rw (t, p, q) at o) in absurd (omega arith)
      by (inr h) = rw t (omega arith)

  writes_on : call.phase ≡ phase.Waiting → call.sent < frames.frame_count plan.frames (length payload) → WritesOn plan payload w call
  writes_on e due = record { due = due; inside = s.inside call.sent due; shows = shows_write call payload w e fits_start has_room }

-- refused or done at its start, a call stays so
idle_write : (plan : WritePlan) (payload : List ℕ) (w : ℕ) (a : Answer) (call : WriteCall) → call ≡ writing.start_of plan (length payload) w
    → call.phase ≡ phase.Ended a → WritesWithin plan payload w call
unfolding writing.start_of nothing
idle_write plan payload w a call q e =
    let none : call.sent ≡ 0 = rw q in
    let rest : call.tally.waits ≡ 0 = rw q in
    record {
      counters = record { frames = omega arith; waits = omega arith };
      goes_on = λ h. let z : ◌≡◌ {A = ℕ} 0 1 = cc in absurd (omega arith);
    }

few_written : (config : Config) → TwoByteBudgets config → (plan : WritePlan) → WritesBy config plan → plan.retries ≤ 65535
unfolding write_with_retries write_register write_buffer mac_write send_access_key write_mfg_info_c write_mfg_info write_dataflash writing.plan_of
few_written config small plan (write_with_retries_lem) = small.0
few_written config small plan (write_register_lem address) = small.0
few_written config small plan (write_buffer_lem address) = small.0
few_written config small plan (write_security_keys_lem) = small.0
few_written config small plan (write_authentication_key_lem) = small.0
few_written config small plan (write_charging_voltage_override_lem) = small.0
few_written config small plan (send_access_key_lem lower upper) = small.0
few_written config small plan (unseal_fg_lem lower upper) = small.0
few_written config small plan (write_mfg_info_c_lem lower upper) = small.0
few_written config small plan (write_mfg_info_lem) = small.0
few_written config small plan (write_dataflash_lem start) = small.0

pub writes_within : (config : Config) → TwoByteBudgets config → (plan : WritePlan) → WritesBy config plan → (payload : List ℕ) (w : ℕ) (es : List WriteReport)
    → WritesWithin plan payload w (feed_w (writing.start_of plan (length payload) w) es)
writes_within config small plan name payload w es = by (writing.start_of plan (length payload) w).phase refl
  where
    begun : WriteCall
    begun = writing.start_of plan (length payload) w

    by : (p : Phase) → begun.phase ≡ p → WritesWithin plan payload w (feed_w begun es)
    by (phase.Ended a) e =
        let q = runs.over_stays es begun a e in
        subst (WritesWithin plan payload w) (sym q) (idle_write plan payload w a begun refl e)
    by phase.Waiting e =
        let open-fits = admitted_fits plan.limit (frames.first_address plan.frames) (length payload) w (sym (starts_as.writing plan (length payload) w).phase ∙ e) in
        let s = sane config payload plan name open-fits.1 in
        let sound = runs.sound plan (length payload) w (few_written config small plan name) (λ h. s.some) s.few es in
        record {
          counters = runs.tame (frames.frame_count plan.frames (length payload)) (feed_w begun es) sound;
          goes_on = λ h. writes_on plan payload w s open-fits.0 (feed_w begun es) (runs.same_task es begun) h (sound.due h);
        }

-- ---- the reading calls

-- every head has room
length_head : (h : Head) (i : ℕ) → length (parts.head_bytes h i) ≤ 38
unfolding parts.head_bytes mac_bytes pair_of command_bytes
length_head head.Bare i = omega arith
length_head (head.Command address) i = omega arith
length_head (head.Mac command) i = length_mac command [] (omega arith)
length_head (head.DataFlash start) i = omega arith

-- what a plan gives for a buffer that fits
record SaneRead (plan : ReadPlan) (n : ℕ) : Type 0 where
  few : parts.read_count plan.reads n ≤ 256
  bare : parts.has_head plan.head ≡ false → 0 < parts.read_count plan.reads n
  inside : (i : ℕ) → (0 < parts.read_count plan.reads n → i < parts.read_count plan.reads n) → Inside plan.limit (parts.first_address plan.head) n i
  asks : (i : ℕ) → (parts.ask_of plan.reads n i).wanted ≤ n + 33

module _ (config : Config) (n : ℕ) where
  one_read : (plan : ReadPlan) → parts.read_count plan.reads n ≡ 1 → ((i : ℕ) → Inside plan.limit (parts.first_address plan.head) n i) → ((i : ℕ) → (parts.ask_of plan.reads n i).wanted ≤ n + 33) → SaneRead plan n
  one_read plan one at asks = record { few = omega (arith, one); bare = λ h. omega (arith, one); inside = λ i h. at i; asks = asks }

  whole_asks : (pec : Bool) (size : ℕ) → size ≤ 33 → whole_ask pec size n ≤ n + 33
  unfolding whole_ask when◌then◌else◌
  whole_asks true size h = omega arith
  whole_asks false size h = omega arith

  block_asks : (left : ℕ) (pec : Bool) → (parts.block_ask left pec).wanted ≤ n + 33
  unfolding parts.block_ask reply.mac_ask when◌then◌else◌
  block_asks left true = omega arith
  block_asks left false = omega arith

  command_sane : (address input : ℕ) → SaneRead (dispatch_command config address input n) n
  unfolding dispatch_command command_reads parts.read_count parts.ask_of parts.has_head reply.mac_ask when◌then◌else◌
  command_sane address input = by (eqb n 0) refl
    where
      by : (t : Bool) → eqb n 0 ≡ t → SaneRead (dispatch_command config address input n) n
      by true t = record { few = rw t (omega arith); bare = λ h. let z : ◌≡◌ {A = ℕ} 0 1 = cc in absurd (omega arith); inside = λ i h. tt; asks = λ i. rw t (omega arith) }
      by false t = record { few = rw t (omega arith); bare = λ h. rw t (omega arith); inside = λ i h. tt; asks = λ i. rw t (omega arith) }

  sane_read : (plan : ReadPlan) → ReadsBy config n plan → Fits plan.limit (parts.first_address plan.head) n → SaneRead plan n
  unfolding read_register read_buffer mac_read read_mfg_info_c read_mfg_info read_dataflash reading.plain_plan reading.mac_plan parts.first_address parts.read_count parts.ask_of parts.has_head reply.plain_ask reply.mac_ask
  sane_read plan (read_register_lem address) h = one_read plan refl (λ i. tt) (λ i. omega arith)
  sane_read plan (read_buffer_lem address) h = one_read plan refl (λ i. tt) (λ i. omega arith)
  sane_read plan (dispatch_command_lem address input) h = command_sane address input
  sane_read plan (read_security_keys_lem) h = one_read plan refl (λ i. tt) (λ i. omega arith)
  sane_read plan (read_authentication_key_lem) h = one_read plan refl (λ i. tt) (λ i. omega arith)
  sane_read plan (read_charging_voltage_override_lem) h = one_read plan refl (λ i. tt) (λ i. omega arith)
  sane_read plan (read_mfg_info_c_lem) h = one_read plan refl (λ i. tt) (λ i. whole_asks config.pec_read 32 (omega arith))
  sane_read plan (read_mfg_info_lem) h = one_read plan refl (λ i. tt) (λ i. whole_asks config.pec_read 33 (omega arith))
  sane_read plan (read_dataflash_lem start) h = record {
    few = (blocks_few start n h).1;
    bare = λ e. (blocks_few start n h).0;
    inside = λ i k. blocks_inside start n i h (k (blocks_few start n h).0);
    asks = λ i. block_asks (parts.left_of n i) config.pec_read;
  }

few_read : (config : Config) → TwoByteBudgets config → (n : ℕ) (plan : ReadPlan) → ReadsBy config n plan → plan.retries ≤ 65535
unfolding read_register read_buffer dispatch_command mac_read read_mfg_info_c read_mfg_info read_dataflash reading.plain_plan reading.mac_plan
few_read config small n plan (read_register_lem address) = small.1
few_read config small n plan (read_buffer_lem address) = small.1
few_read config small n plan (dispatch_command_lem address input) = few_on config small (parts.reads_side (command_reads config address n))
few_read config small n plan (read_security_keys_lem) = small.1
few_read config small n plan (read_authentication_key_lem) = small.1
few_read config small n plan (read_charging_voltage_override_lem) = small.1
few_read config small n plan (read_mfg_info_c_lem) = small.1
few_read config small n plan (read_mfg_info_lem) = small.1
few_read config small n plan (read_dataflash_lem start) = small.1

module _ (plan : ReadPlan) (n w : ℕ) (s : SaneRead plan n) (k : 39 ≤ w) (call : ReadCall) (t : call.task ≡ (reading.start_of plan n w).task) (e : call.phase ≡ phase.Waiting) where
  fits_begun : fits_of call.task.lent n w ≡ true
  unfolding fits_of reading.start_of
  fits_begun = rw (t, eq-eqb n n refl, eq-eqb w w refl)

  shows_its_head : call.heading ≡ true → (m : ℕ) × (reading.next_of call n w ≡ transfer.Write m)
  unfolding reading.next_of reading.shown_of reading.shown_head case◌waiting◌ended◌ when◌then◌else◌
  shows_its_head h =
      let room = length_head call.task.plan.head call.received in (
        length (sealed call.task.plan.head_pec (parts.head_bytes call.task.plan.head call.received)),
        rw (e, fits_begun, h) (laid_shown call.task.plan.head_pec (parts.head_bytes call.task.plan.head call.received) w (omega arith)),
      )

  shows_its_read : call.heading ≡ false → reading.next_of call n w ≡ transfer.Read (reading.due_ask call).command (reply.bytes_asked (reading.due_ask call))
  unfolding reading.next_of reading.shown_of case◌waiting◌ended◌ when◌then◌else◌
  shows_its_read h = rw (h, fits_begun, e)

  around_few : reply.around_of (reading.due_ask call) ≤ 4
  unfolding reply.around_of reply.lead_of when◌then◌else◌
  around_few = by (reading.due_ask call).pec (reading.due_ask call).prefixed
    where
      by : (p h : Bool) → (when p then (when h then 3 else 0) + 1 else (when h then 3 else 0)) ≤ 4
      by true true = omega arith
      by true false = omega arith
      by false true = omega arith
      by false false = omega arith

  asks_whole : n ≤ 9223372036854775807 → reply.bytes_asked (reading.due_ask call) ≡ (reading.due_ask call).wanted + reply.around_of (reading.due_ask call)
  unfolding reply.bytes_asked reading.due_ask reading.start_of
  asks_whole h =
      let few : (parts.ask_of call.task.plan.reads call.task.lent.length call.received).wanted ≤ n + 33 = rw t (s.asks call.received) in
      let around = around_few in
      omega arith

-- a read is due, or there are reads at all
due_of : {h : Bool} {i count : ℕ} → (h ≡ false) ⊎ (0 < count) → (h ≡ false → i < count) → (0 < count → i < count) → i < count
due_of (inl e) f g = f e
due_of (inr k) f g = g k

-- refused or done at its start, a call stays so
idle_read : (plan : ReadPlan) (buffer : List ℕ) (w : ℕ) (a : Answer) (r : Reader) → r ≡ record { call = reading.start_of plan (length buffer) w; buffer = buffer }
    → r.call.phase ≡ phase.Ended a → ReadsWithin plan buffer w r
unfolding reading.start_of nothing
idle_read plan buffer w a r q e =
    let none : r.call.received ≡ 0 = rw q in
    let rest : r.call.tally.waits ≡ 0 = rw q in
    let full : r.call.budget.left ≡ r.call.task.plan.retries = rw q in
    record {
      counters = record { blocks = omega arith; budget = omega arith; waits = omega arith };
      goes_on = λ h. let z : ◌≡◌ {A = ℕ} 0 1 = cc in absurd (omega arith);
      kept = λ h. rw q;
      untouched = λ one h. rw q;
    }

pub reads_within : (config : Config) → TwoByteBudgets config → (buffer : List ℕ) (plan : ReadPlan) → ReadsBy config (length buffer) plan → (w : ℕ) (es : List ReadReport)
    → ReadsWithin plan buffer w (feed_r (record { call = reading.start_of plan (length buffer) w; buffer = buffer }) es)
reads_within config small buffer plan name w es = by (reading.start_of plan (length buffer) w).phase refl
  where
    begun : Reader
    begun = record { call = reading.start_of plan (length buffer) w; buffer = buffer }

    by : (p : Phase) → begun.call.phase ≡ p → ReadsWithin plan buffer w (feed_r begun es)
    by (phase.Ended a) e =
        let q = kept.over_stays es begun a e in
        subst (ReadsWithin plan buffer w) (sym q) (idle_read plan buffer w a begun refl e)
    by phase.Waiting e =
        let open-fits = admitted_fits plan.limit (parts.first_address plan.head) (length buffer) w (sym (starts_as.reading plan (length buffer) w).phase ∙ e) in
        let s = sane_read config (length buffer) plan name open-fits.1 in
        let enough = few_read config small (length buffer) plan name in
        let sound = kept.sound plan w buffer enough s.bare s.few es in
        record {
          counters = kept.tame plan w buffer enough s.bare s.few es;
          goes_on = λ h. record {
            due = λ k. due_of k (sound.due h) (sound.more h);
            inside = s.inside (feed_r begun es).call.received (sound.more h);
            shows_head = shows_its_head plan (length buffer) w s open-fits.0 (feed_r begun es).call (kept.same_task es begun) h;
            shows_read = shows_its_read plan (length buffer) w s open-fits.0 (feed_r begun es).call (kept.same_task es begun) h;
            asks = asks_whole plan (length buffer) w s open-fits.0 (feed_r begun es).call (kept.same_task es begun) h;
          };
          kept = kept.kept plan w buffer enough s.bare s.few es;
          untouched = kept.untouched plan w buffer enough s.bare s.few es;
        }

pub within : Within
within = record { writing = writes_within; reading = reads_within }

pub stays : Stays
stays = record { writing = runs.over_stays; reading = kept.over_stays }
