-- `r5::voltage::ChargingVoltageOverride::from_bytes` meets its contract: each two bytes have their figure.
-- Assumes nothing.
use lib.ListN.{get_or}
use mir.Syntax.{w16}
use mir.ValLaws.{to_z-of_z}
use Rattle.r5.specs.Voltage.{override_of}
use Rattle.r5.proofs.Signed.{figure}
use Rattle.r5.proofs.voltage.ChargingVoltageOverride.from_bytes.Goals as goal

pub returns : goal.returns
unfolding override_of
returns c =
    let s = c.args.bytes.now in
    rw (
      to_z-of_z w16 c.from_le_bytes.result (record { sfits = c.from_le_bytes.type_inv }),
      to_z-of_z w16 c.from_le_bytes-2.result (record { sfits = c.from_le_bytes-2.type_inv }),
      to_z-of_z w16 c.from_le_bytes-3.result (record { sfits = c.from_le_bytes-3.type_inv }),
      to_z-of_z w16 c.from_le_bytes-4.result (record { sfits = c.from_le_bytes-4.type_inv }),
      to_z-of_z w16 c.from_le_bytes-5.result (record { sfits = c.from_le_bytes-5.type_inv }),
    )
    (rw (c.from_le_bytes-5.ensures, c.from_le_bytes-4.ensures, c.from_le_bytes-3.ensures, c.from_le_bytes-2.ensures, c.from_le_bytes.ensures, figure (get_or s 0 0) (get_or s 1 0), figure (get_or s 2 0) (get_or s 3 0), figure (get_or s 4 0) (get_or s 5 0), figure (get_or s 6 0) (get_or s 7 0), figure (get_or s 8 0) (get_or s 9 0)))
