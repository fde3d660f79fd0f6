-- 15, the answer to a retired kind: given exactly when the first line begins with 0C or 0D, however the input is cut, and by no call. (02, W-210)
-- Assumes nothing.
use Rattle.engine.specs.Bus.{Reported}
use Rattle.std.specs.Prelude.{ℕ, ◌≤◌, ◌≡◌, Bool, false, List, [], ◌∷◌, ◌⊎◌, length, Err, Ok}
use Rattle.hexadecimal.specs.Text.{ascii}
use Rattle.protocol.specs.Answer.{number_of}
use Rattle.protocol.specs.declared.common.Config.{Config}
use Rattle.engine.specs.declared.bus.Outcome.{Outcome}
use Rattle.engine.specs.declared.bus.Phase.{Phase}
use Rattle.engine.specs.declared.bus.Phase.TheVariants as phase
use Rattle.engine.specs.declared.bus.Transfer.{Transfer}
use Rattle.engine.specs.declared.bus.Transfer.TheVariants as transfer
use Rattle.calls.specs.Call.{start_of, next_of, report_of, phase_of}
use Rattle.calls.specs.declared.kind.Kind.{Kind}
use Rattle.calls.specs.declared.call.Call.{Call}
use Rattle.lines.specs.Input.{lines_from}
use Rattle.session.specs.declared.Desk.{Desk}
use Rattle.session.specs.Loop.{Fresh, Ready, Reached}
use Rattle.session.specs.Laws.{Begins}
use Rattle.bench_promises.specs.RustBench.{rust_printed, longest_digits}

-- the input, and so its first line, begins with the characters 0C or 0D; a line feed may be anywhere after them, or nowhere
abbrev pub BeginsRetired : List ℕ → Type 0
BeginsRetired input = Begins (ascii "0C") input ⊎ Begins (ascii "0D") input

-- one of the lines begins with these characters
pub data Has (front : List ℕ) : List (List ℕ) → Type 0 where
  here : (line : List ℕ) (lines : List (List ℕ)) → Begins front line → Has front (line ∷ lines)
  later : (line : List ℕ) (lines : List (List ℕ)) → Has front lines → Has front (line ∷ lines)

-- what is printed has an end with 15
abbrev pub Says15 : List ℕ → Type 0
Says15 output = Has (ascii "FF0F") (lines_from [] output)

-- ---- no call gives it: neither when it is started, nor by a report, nor shown

abbrev pub Not15 : Phase → Type 0
Not15 phase.Waiting = Unit {0}
Not15 (phase.Ended a) = number_of a ≡ 15 → ⊥

abbrev pub NotReported15 : Reported Call → Type 0
NotReported15 (Err (a, c)) = (number_of a ≡ 15 → ⊥) × Not15 (phase_of c)
NotReported15 (Ok c) = Not15 (phase_of c)

abbrev pub NotShown15 : Transfer → Type 0
NotShown15 (transfer.Write n) = Unit {0}
NotShown15 (transfer.Read command n) = Unit {0}
NotShown15 (transfer.Refused a) = number_of a ≡ 15 → ⊥
NotShown15 (transfer.Ended a) = number_of a ≡ 15 → ⊥

-- with these three, no list of reports leads from a start to 15
pub record NoCall : Type 0 where
  pub starts : (kind : Kind) (config : Config) (p n w : ℕ) → Not15 (phase_of (start_of kind config p n w))
  pub reports : (c : Call) → Not15 (phase_of c) → (o : Outcome) (reply : List ℕ) (p n w : ℕ) → NotReported15 (report_of c o reply p n w)
  pub shows : (c : Call) → Not15 (phase_of c) → (payload : List ℕ) (n w : ℕ) → NotShown15 (next_of c payload n w)

pub record RetiredKinds : Type 0 where
  -- such an input is answered by this line, whatever follows, and by nothing else
  pub answered : (input : List ℕ) → BeginsRetired input → rust_printed input ≡ ascii "FF0F00000000000000000000\n"
  -- no other input gives 15
  pub only : (input : List ℕ) → Says15 (rust_printed input) → BeginsRetired input
  -- in whatever pieces the input comes: the same two, of all that a run that is over has read and written
  pub in_pieces : (first : Desk) → Fresh first → {rounds : ℕ} {read wrote chunk : List ℕ} {end : Bool} {d : Desk} → Reached first rounds read wrote chunk end d
      → d.session.on ≡ false → d.session.laid ≡ 0
      → (BeginsRetired read → wrote ≡ ascii "FF0F00000000000000000000\n") × (Says15 wrote → BeginsRetired read)
  -- no further piece is read after that line: more is read only while it is neither whole nor longer than the longest line that is valid
  pub no_more : (first : Desk) → Fresh first → {rounds : ℕ} {read wrote chunk : List ℕ} {d : Desk} → Reached first rounds read wrote chunk false d
      → Ready d → length chunk ≤ d.session.at → BeginsRetired read → (lines_from [] read ≡ []) × (length read ≤ longest_digits)
  pub no_call : NoCall
