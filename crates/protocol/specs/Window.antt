-- The data-flash window. (01, Window; 02, W-202; interface.rs, check_df_range)
-- Assumes nothing.
use Rattle.std.specs.Prelude.{ℕ, ◌+◌, ◌-◌, Bool, ◌&&◌, ◌||◌, leb, eqb}

-- the first and the last address, and how many there are (consts.rs; 01, The model gauge)
abbrev pub window_first : ℕ
window_first = 0x4000

abbrev pub window_last : ℕ
window_last = 0x5FFF

abbrev pub window_size : ℕ
window_size = 8192

-- the first address past the window: 6000 hex
abbrev pub window_end : ℕ
window_end = window_last + 1

-- An empty transfer passes anywhere; else the start lies in 4000 to 5FFF hex, and the length is at most the room left, 6000 hex minus the start. In whole
-- numbers: there is no sum, and the subtraction counts only where the start is not past the last address.
unfoldable pub in_window : ℕ → ℕ → Bool
in_window start len = eqb len 0 || (leb window_first start && leb start window_last && leb len (window_end - start))

-- Document 01's formula, by the last address that is touched. It stands here for one law, that the answers are the same (`window_by_last` of `Laws`); its
-- numbers are written out, so that this law and `window_end_lem` judge the names above too.
unfoldable pub in_window_by_last : ℕ → ℕ → Bool
in_window_by_last start len = eqb len 0 || (leb 0x4000 start && leb (start + (len - 1)) 0x5FFF)
