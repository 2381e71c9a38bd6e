-- The text of a run sheet.
use Rattle.std.specs.Prelude.{◌≡◌, ℕ, ◌+◌, ◌*◌, ◌<◌, ◌≤◌, List, [], ◌∷◌, ◌++◌, length, drop, Ok, Err, Result}
use Rattle.treebank.specs.declared.moves.Move.{Move}
use Rattle.treebank.specs.declared.refusals.Refusal.TheVariants.{BufferTooSmall}
use Rattle.transition.specs.declared.faults.Fault.{Fault}
use Rattle.transition.specs.Meaning.{fault}
use Rattle.run_sheet.specs.declared.lines.SheetLine.{SheetLine}
use Rattle.run_sheet.specs.Texts.{written}
use Rattle.run_sheet.specs.Says.{of_move}
use Rattle.workbench_model.specs.Models.{Model}

-- the lines of moves, in order
abbrev pub moves_text : List Move → List ℕ
moves_text [] = []
moves_text (m ∷ ms) = written (of_move m) ++ moves_text ms

-- the first line: the system's number and the word count
abbrev pub heading : ℕ → ℕ → SheetLine
heading number words = record { first = number; second = words }

abbrev pub sheet_text : ℕ → ℕ → List Move → List ℕ
sheet_text number words ms = written (heading number words) ++ moves_text ms

-- how many bytes the sheet of so many moves has
abbrev pub sheet_bytes : ℕ → ℕ
sheet_bytes moves = 5 * (moves + 1)

-- the sheet was written before the later bytes, which stayed; or too few bytes were lent, and all stayed
abbrev pub WroteSheet : ℕ → Model → List ℕ → Result ℕ Fault → List ℕ → Type 0
WroteSheet number b before (Ok k) after =
    (k ≤ length before) × (k ≡ sheet_bytes (length b.moves)) × (after ≡ sheet_text number b.words b.moves ++ drop k before)
WroteSheet number b before (Err why) after = (length before < sheet_bytes (length b.moves)) × (why ≡ fault BufferTooSmall 0) × (after ≡ before)
