-- Replay of a sheet on the model of a workbench: each line is a step.
use Rattle.std.specs.Prelude.{ℕ, ◌+◌, cond, ◌&&◌, List, [], ◌∷◌, length, drop, is_some, Some, None, Ok, Err, Option, Result, ◌==◌, nat_lt}
use Rattle.treebank.specs.declared.moves.Move.{Move}
use Rattle.treebank.specs.declared.refusals.Refusal.{Refusal}
use Rattle.treebank.specs.declared.refusals.Refusal.TheVariants.{NotASheetLine, OtherSentence, CheckpointStands, MovesStand}
use Rattle.transition.specs.declared.faults.Fault.{Fault}
use Rattle.transition.specs.Meaning.{Meaning, fault}
use Rattle.run_sheet.specs.declared.lines.SheetLine.{SheetLine}
use Rattle.run_sheet.specs.Texts.{said}
use Rattle.run_sheet.specs.Says.{move_said}
use Rattle.workbench_model.specs.Models.{Model}
use Rattle.workbench_model.specs.Models.Call.{step}
use Rattle.workbench_model.specs.Serving.{refusal, change}
use Rattle.sheets_theory.specs.declared.faults.SheetFault.{SheetFault}

abbrev pub at_line : ℕ → Fault → SheetFault
at_line line f = record { line = line; fault = f }

-- a result whose fault is found in this line
abbrev pub located : {A : Type 0} → ℕ → Result A Fault → Result A (ℕ × Fault)
located line (Ok x) = Ok x
located line (Err f) = Err (line, f)

-- a refusal as a fault of level 0
abbrev pub faulted : {A : Type 0} → Result A Refusal → Result A Fault
faulted (Ok x) = Ok x
faulted (Err why) = Err (fault why 0)

-- refused in this line, else what comes next decides
abbrev pub unless_refused : ℕ → Option Fault → Result Model SheetFault → Result Model SheetFault
unless_refused line None next = next
unless_refused line (Some f) next = Err (at_line line f)

-- a line that says no move is refused, else what comes next for its move decides
abbrev pub for_move : ℕ → Result Move Refusal → (Move → Result Model SheetFault) → Result Model SheetFault
for_move line (Ok m) next = next m
for_move line (Err why) next = Err (at_line line (fault why 0))

-- the lines of a text in turn, the first with this number: five bytes a line, and fewer are none
abbrev pub replayed : (M : Meaning) → (ℕ → M.Config) → Model → ℕ → List ℕ → Result Model SheetFault
replayed M start b line [] = Ok b
replayed M start b line (x ∷ []) = Err (at_line line (fault NotASheetLine 0))
replayed M start b line (x ∷ y ∷ []) = Err (at_line line (fault NotASheetLine 0))
replayed M start b line (x ∷ y ∷ z ∷ []) = Err (at_line line (fault NotASheetLine 0))
replayed M start b line (x ∷ y ∷ z ∷ u ∷ []) = Err (at_line line (fault NotASheetLine 0))
replayed M start b line (x ∷ y ∷ z ∷ u ∷ v ∷ rest) =
    for_move line (move_said (x ∷ y ∷ z ∷ u ∷ v ∷ rest))
    (λ m. unless_refused line (refusal M start b (step m)) (replayed M start (change M start b (step m)) (line + 1) rest))

-- no checkpoint and no moves stand
abbrev pub is_new : Model → Result Unit Fault
is_new b = cond (is_some b.checkpoint) (Err (fault CheckpointStands 0)) (cond (nat_lt 0 (length b.moves)) (Err (fault MovesStand 0)) (Ok tt))

-- the first line is of this system and has so many words
abbrev pub is_headed : ℕ → ℕ → Option SheetLine → Result Unit Fault
is_headed number words None = Err (fault NotASheetLine 0)
is_headed number words (Some l) = cond (l.first == number && l.second == words) (Ok tt) (Err (fault OtherSentence 0))

-- what comes next decides where a test passed
abbrev pub then_at : ℕ → Result Unit Fault → Result Model SheetFault → Result Model SheetFault
then_at line (Ok u) next = next
then_at line (Err f) next = Err (at_line line f)

abbrev pub replay_model : (M : Meaning) → (ℕ → M.Config) → Model → List ℕ → Result Model SheetFault
replay_model M start b text = then_at 0 (is_new b) (then_at 1 (is_headed M.number b.words (said text)) (replayed M start b 2 (drop 5 text)))
