-- The line of a move: its kind and its label, 0 for a move without an arc.
use Rattle.std.specs.Prelude.{◌≡◌, ℕ, cond, List, Some, None, Ok, Err, Option, Result, ◌==◌, ◌≢◌, nat_le}
use Rattle.treebank.specs.declared.moves.Move.{Move}
use Rattle.treebank.specs.declared.moves.Move.TheVariants.{Shift, LeftArc, RightArc, Reduce, NoArc}
use Rattle.treebank.specs.declared.refusals.Refusal.{Refusal}
use Rattle.treebank.specs.declared.refusals.Refusal.TheVariants.{BadLabel, ForeignMove, NotASheetLine}
use Rattle.treebank.specs.Moves.{kind, label, Proper}
use Rattle.run_sheet.specs.declared.lines.SheetLine.{SheetLine}
use Rattle.run_sheet.specs.Texts.{said}

-- how a line writes the label of a move
abbrev pub label_number : Option ℕ → ℕ
label_number None = 0
label_number (Some l) = l

-- the line of a move
abbrev pub of_move : Move → SheetLine
of_move m = record { first = kind m; second = label_number (label m) }

-- an arc move with its label of 1 to 200
abbrev pub drawing : Move → ℕ → Result Move Refusal
drawing m l = cond (nat_le 1 l) (cond (nat_le l 200) (Ok m) (Err BadLabel)) (Err BadLabel)

-- another move, with 0 in place of a label
abbrev pub bare : Move → ℕ → Result Move Refusal
bare m l = cond (l == 0) (Ok m) (Err BadLabel)

-- the move of this kind and label
abbrev pub listed : ℕ → ℕ → Result Move Refusal
listed k l =
    cond (k == 0) (bare Shift l)
    (cond (k == 1) (drawing (LeftArc l) l)
    (cond (k == 2) (drawing (RightArc l) l)
    (cond (k == 3) (bare Reduce l)
    (cond (k == 4) (bare NoArc l) (Err ForeignMove)))))

-- the move that a line says
abbrev pub to_move : SheetLine → Result Move Refusal
to_move l = listed l.first l.second

-- the move that the line at the beginning of a text says
abbrev pub line_move : Option SheetLine → Result Move Refusal
line_move None = Err NotASheetLine
line_move (Some l) = to_move l

abbrev pub move_said : List ℕ → Result Move Refusal
move_said t = line_move (said t)

-- a proper move whose line this is, and a refusal only where it is no proper move's line
abbrev pub SaysMove : SheetLine → Result Move Refusal → Type 0
SaysMove l (Ok m) = Proper m × (of_move m ≡ l)
SaysMove l (Err e) = (m : Move) → Proper m → of_move m ≢ l

-- what a move is written as: its line, from which a proper move reads back
pub record LineOf (m : Move) (l : SheetLine) : Type 0 where
  pub is : l ≡ of_move m
  pub back : Proper m → to_move l ≡ Ok m

-- what a line is read as: the move that it says, and that only for a proper move's line
pub record MoveOf (l : SheetLine) (r : Result Move Refusal) : Type 0 where
  pub is : r ≡ to_move l
  pub says : SaysMove l r
