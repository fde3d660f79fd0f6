-- The figures of document 01 on each side of a line, PECs and windows, and the settings that a driver starts with, as one table under one statement.
-- Assumes nothing.
use Rattle.std.specs.Prelude.{◌≡◌, refl, Bool, true, false, ◌&&◌, List, [], ◌∷◌, map, ℕ, eqb}
use Rattle.smbus_pec.specs.Pec.{bit_step, bit_steps, byte_step, pec_of}
use Rattle.protocol.specs.Common.{default_config}
use Rattle.protocol.specs.Window.{in_window}

pub data Figure : Type 0 where
  -- a byte string and its PEC
  pec : List ℕ → ℕ → Figure
  -- a start, a length, and whether they pass
  window : ℕ → ℕ → Bool → Figure
  -- the settings that a driver starts with: retries of what writes and of what reads, a PEC on what it writes, on what it reads (common.rs, Config), and waits that grow
  settings : ℕ → ℕ → Bool → Bool → Bool → Figure

abbrev pub figures : List Figure
figures =
    pec [] 0x00
    ∷ pec (0x01 ∷ []) 0x07
    ∷ pec (0x80 ∷ []) 0x89
    ∷ pec (0x16 ∷ []) 0x62
    ∷ pec (0x16 ∷ 0x44 ∷ []) 0xF2
    ∷ pec (0x16 ∷ 0x44 ∷ 0x02 ∷ 0x00 ∷ 0x40 ∷ []) 0xAB
    ∷ window 0x4000 1 true
    ∷ window 0x3FFF 1 false
    ∷ window 0x5FFF 1 true
    ∷ window 0x5FFF 2 false
    ∷ window 0x4000 8192 true
    ∷ window 0x4000 8193 false
    ∷ window 0xFFFF 0 true
    ∷ window 0xFFFF 2 false
    ∷ settings 3 3 false false false
    ∷ []

abbrev same : Bool → Bool → Bool
same true b = b
same false true = false
same false false = true

-- the definitions give the figure
abbrev pub right : Figure → Bool
right (pec s p) = eqb (pec_of 0 s) p
right (window start len passes) = same (in_window start len) passes
right (settings writes reads pec_write pec_read growing) =
    eqb default_config.max_write_retries writes && eqb default_config.max_read_retries reads && same default_config.pec_write pec_write && same default_config.pec_read pec_read && same default_config.growing_waits growing

abbrev pub all : List Bool → Bool
all [] = true
all (b ∷ bs) = b && all bs

pub figures_hold : all (map right figures) ≡ true
unfolding bit_step bit_steps byte_step pec_of in_window
figures_hold = refl
