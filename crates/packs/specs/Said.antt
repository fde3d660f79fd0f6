-- What a line says. (02, W-212)
-- Assumes nothing.
use Rattle.std.specs.Prelude.{Option}
use Rattle.packs.specs.declared.Pack.{Pack}

-- the pack that it tells of, or none
abbrev pub Said : Type 0
Said = Option Pack
