-- The limits of all calls, by name.
-- Assumes nothing.
use mathlib.Core.Path.{refl}
use Rattle.protocol.specs.Pick.{when◌then◌else◌}
use Rattle.protocol.specs.declared.common.Config.{Config}
use Rattle.engine.specs.Budget.{nothing}
use Rattle.writing.specs.Frames as frames
use Rattle.writing.specs.Writing as writing
use Rattle.reading.specs.Parts as parts
use Rattle.reading.specs.Reading as reading
use Rattle.interface.specs.Plans.{plain_limit, write_with_retries, write_register, read_register, dispatch_command, read_buffer, write_buffer}
use Rattle.r5.specs.Plans.{mac_read, mac_write, send_access_key, write_mfg_info_c, read_mfg_info_c, write_mfg_info, read_mfg_info, read_dataflash, write_dataflash}
use Rattle.answers.specs.Calls.{Admitted, Limits}
use Rattle.answers.proofs.Laws.{bare_head}

pub starts_as : Admitted
unfolding writing.start_of reading.start_of nothing
starts_as = record {
  writing = λ plan n w. record { phase = refl; task = refl; sent = refl; budget = refl; waits = (refl, refl); transfers = refl };
  reading = λ plan n w. record { phase = refl; task = refl; heading = bare_head plan.head; received = refl; budget = refl; waits = (refl, refl); transfers = refl };
}

pub limits : (config : Config) → Limits config
unfolding plain_limit write_with_retries write_register read_register dispatch_command read_buffer write_buffer mac_read mac_write send_access_key write_mfg_info_c read_mfg_info_c write_mfg_info read_mfg_info read_dataflash write_dataflash frames.first_address parts.first_address writing.plan_of reading.plain_plan reading.mac_plan when◌then◌else◌
limits config = record {
  writes_with_pec = λ e. rw e;
  writes_plain = λ e. rw e;
  writes_register = λ address. refl;
  reads_register = λ address n. refl;
  dispatches = λ address input n. refl;
  reads_buffer = λ address n. refl;
  writes_buffer = λ address. refl;
  reads_security_keys = refl;
  writes_security_keys = refl;
  reads_authentication_key = refl;
  writes_authentication_key = refl;
  reads_override = refl;
  writes_override = refl;
  sends_key = λ lower upper. refl;
  unseals = λ lower upper. refl;
  writes_info_c = λ lower upper. refl;
  reads_info_c = λ n. refl;
  writes_info = refl;
  reads_info = λ n. refl;
  reads_flash = λ start. (refl, refl);
  writes_flash = λ start. (refl, refl);
}
