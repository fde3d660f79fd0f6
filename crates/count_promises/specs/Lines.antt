-- Which lines are packs, and which files are refused. (02, W-212)
-- Assumes nothing.
use Rattle.std.specs.Prelude.{ℕ, suc, ◌/◌, ◌%◌, ◌≤◌, ◌<◌, ◌≡◌, List, [], ◌∷◌, ◌++◌, map, ◌⊎◌, length, get_or, Some, None}
use Rattle.hexadecimal.specs.Digits.{in_digits}
use Rattle.lines.specs.Input.{lines_from, rest_from}
use Rattle.packs.specs.Said.{Said}
use Rattle.packs.specs.declared.Pack.TheVariants as pack
use Rattle.report.specs.Report.{Report, report, refused}
use Rattle.count_promises.specs.Packs.{line_says, said_in, report_of, outcome_of}

-- the two kinds of line: 00 and the cycles, low byte first; 01 and an answer
abbrev pub read_line : ℕ → List ℕ
read_line cycles = in_digits (0x00 ∷ cycles % 256 ∷ cycles / 256 ∷ [])

abbrev pub unread_line : ℕ → List ℕ
unread_line answer = in_digits (0x01 ∷ answer ∷ [])

-- these lines are packs, and no other
pub record Lines : Type 0 where
  pub read : (cycles : ℕ) → cycles < 65536 → line_says (read_line cycles) ≡ Some (pack.Read cycles)
  pub unread : (answer : ℕ) → 0 < answer → answer < 256 → line_says (unread_line answer) ≡ Some (pack.Unread answer)
  pub only_read : (line : List ℕ) (cycles : ℕ) → line_says line ≡ Some (pack.Read cycles) → (cycles < 65536) × (line ≡ read_line cycles)
  pub only_unread : (line : List ℕ) (answer : ℕ) → line_says line ≡ Some (pack.Unread answer) → (0 < answer) × (answer < 256) × (line ≡ unread_line answer)

-- lines, each with its line feed
unfoldable pub file_of : List (List ℕ) → List ℕ
file_of [] = []
file_of (line ∷ lines) = line ++ (10 ∷ file_of lines)

-- no byte of these is a line feed
abbrev pub NoFeed : List ℕ → Type 0
NoFeed [] = Unit {0}
NoFeed (b ∷ s) = (b ≡ 10 → ⊥) × NoFeed s

abbrev pub NoFeeds : List (List ℕ) → Type 0
NoFeeds [] = Unit {0}
NoFeeds (line ∷ lines) = NoFeed line × NoFeeds lines

-- the lines of an input, each with its line feed, and what follows the last are that input, and there is no other line feed in it
pub record Whole : Type 0 where
  pub made_up : (input : List ℕ) → file_of (lines_from [] input) ++ rest_from [] input ≡ input
  pub no_other : (input : List ℕ) → NoFeeds (lines_from [] input) × NoFeed (rest_from [] input)

-- a pack that has room on a line, and its line
abbrev pub Fits : Said → Type 0
Fits (Some (pack.Read cycles)) = cycles ≤ 65535
Fits (Some (pack.Unread answer)) = (0 < answer) × (answer ≤ 255)
Fits None = ⊥

abbrev pub AllFit : List Said → Type 0
AllFit [] = Unit {0}
AllFit (p ∷ ps) = Fits p × AllFit ps

abbrev pub line_of : Said → List ℕ
line_of (Some (pack.Read cycles)) = read_line cycles
line_of (Some (pack.Unread answer)) = unread_line answer
line_of None = []

-- packs, one a line, and nothing else
pub record Accepted (input : List ℕ) : Type 0 where
  pub packs : List Said
  pub fit : AllFit packs
  pub most : length packs ≤ 65535
  pub text : input ≡ file_of (map line_of packs)

-- packs, one a line, and something after them that does not begin with the line of a pack, or anything after 65,535
pub record Refused (input : List ℕ) : Type 0 where
  pub packs : List Said
  pub fit : AllFit packs
  pub most : length packs ≤ 65535
  pub rest : List ℕ
  pub text : input ≡ file_of (map line_of packs) ++ rest
  pub more : 0 < length rest
  pub bad : (length packs ≡ 65535) ⊎ ((p : Said) (after : List ℕ) → Fits p → rest ≡ line_of p ++ (10 ∷ after) → ⊥)

-- of the bytes of an input: it has a report, or its first bad line is refused, by its number; and every input is one of the two
pub record Files : Type 0 where
  pub accepts : (input : List ℕ) (a : Accepted input) → outcome_of (said_in input) ≡ report (report_of a.packs)
  pub refuses : (input : List ℕ) (a : Refused input) → outcome_of (said_in input) ≡ refused (suc (length a.packs))
  pub every : (input : List ℕ) → Accepted input ⊎ Refused input

abbrev pub IsPack : Said → Type 0
IsPack (Some (pack.Read cycles)) = Unit {0}
IsPack (Some (pack.Unread answer)) = Unit {0}
IsPack None = ⊥

-- each line is a pack
abbrev pub AllPacks : List Said → Type 0
AllPacks ps = (k : ℕ) → k < length ps → IsPack (get_or ps k None)

-- line k + 1 is the first that is no pack, or it is line 65,536 after 65,535 packs
pub record FirstBad (ps : List Said) (k : ℕ) : Type 0 where
  pub there : k < length ps
  pub bad : (get_or ps k None ≡ None) ⊎ (k ≡ 65535)
  pub before : (i : ℕ) → i < k → IsPack (get_or ps i None)
  pub within : k ≤ 65535

pub record RefusedAt (ps : List Said) (n : ℕ) : Type 0 where
  pub k : ℕ
  pub number : n ≡ suc k
  pub first : FirstBad ps k

-- over what the lines say: a file is refused exactly there, and has a report exactly where each line is a pack and there are 65,535 at most
pub record Refusals : Type 0 where
  pub refuses : (ps : List Said) (k : ℕ) → FirstBad ps k → outcome_of ps ≡ refused (suc k)
  pub refused_at : (ps : List Said) (n : ℕ) → outcome_of ps ≡ refused n → RefusedAt ps n
  pub reports : (ps : List Said) → AllPacks ps → length ps ≤ 65535 → outcome_of ps ≡ report (report_of ps)
  pub reported : (ps : List Said) (r : Report) → outcome_of ps ≡ report r → AllPacks ps × (length ps ≤ 65535) × (r ≡ report_of ps)
