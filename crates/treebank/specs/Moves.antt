-- Every kind of move with its number in a run sheet, and its label.
use Rattle.std.specs.Prelude.{ℕ, ◌≤◌, Some, None, Option}
use Rattle.treebank.specs.declared.moves.Move.{Move}
use Rattle.treebank.specs.declared.moves.Move.TheVariants.{Shift, LeftArc, RightArc, Reduce, NoArc}

abbrev pub kind : Move → ℕ
kind Shift = 0
kind (LeftArc l) = 1
kind (RightArc l) = 2
kind Reduce = 3
kind NoArc = 4

-- the label that a move draws with
abbrev pub label : Move → Option ℕ
label Shift = None
label (LeftArc l) = Some l
label (RightArc l) = Some l
label Reduce = None
label NoArc = None

-- a label is a number from 1 to 200
abbrev pub Label : ℕ → Type 0
Label l = (1 ≤ l) × (l ≤ 200)

-- a move that draws does so with a label
abbrev pub ProperLabel : Option ℕ → Type 0
ProperLabel None = Unit {0}
ProperLabel (Some l) = Label l

abbrev pub Proper : Move → Type 0
Proper m = ProperLabel (label m)
