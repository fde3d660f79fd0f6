-- `r5::voltage::ChargingVoltageOverride::to_bytes` meets its contract: each figure has its two bytes.
-- Assumes nothing.
use mir.Syntax.{w16}
use mir.ValLaws.{to_z-of_z}
use Rattle.protocol.specs.Frame.{pair_of}
use Rattle.r5.specs.Voltage.{override_bytes}
use Rattle.r5.proofs.Signed.{bits}
use Rattle.r5.proofs.voltage.ChargingVoltageOverride.to_bytes.Goals as goal

pub returns : goal.returns
unfolding override_bytes pair_of
returns c =
    let v = c.args.self in
    let told = c.struct_told-1.given in
    rw (c.to_le_bytes.ensures, c.to_le_bytes-2.ensures, c.to_le_bytes-3.ensures, c.to_le_bytes-4.ensures, c.to_le_bytes-5.ensures)
    (rw (
      to_z-of_z w16 v.low_temp_chrg_mv (record { sfits = told.0.1 }),
      to_z-of_z w16 v.std_low_temp_chrg_mv (record { sfits = told.1.0.1 }),
      to_z-of_z w16 v.std_hi_temp_chrg_mv (record { sfits = told.1.1.0.1 }),
      to_z-of_z w16 v.hi_temp_chrg_mv (record { sfits = told.1.1.1.0.1 }),
      to_z-of_z w16 v.recommended_temp_chrg_mv (record { sfits = told.1.1.1.1.0.1 }),
    )
    (rw (bits v.low_temp_chrg_mv, bits v.std_low_temp_chrg_mv, bits v.std_hi_temp_chrg_mv, bits v.hi_temp_chrg_mv, bits v.recommended_temp_chrg_mv)))
