-- Moves as numbers.
use Rattle.std.specs.Prelude.{ℕ, ◌+◌, ◌*◌, ◌/◌, ◌%◌, cond, Some, None, Option, ◌==◌}
use Rattle.treebank.specs.declared.moves.Move.{Move}
use Rattle.treebank.specs.declared.moves.Move.TheVariants.{Shift, LeftArc, RightArc, Reduce, NoArc}
use Rattle.treebank.specs.Moves.{kind, label}

-- the number of a label, 0 for none
abbrev pub label_number : Option ℕ → ℕ
label_number None = 0
label_number (Some l) = l

-- a move as a number: its kind times 256 and its label
abbrev pub packed : Move → ℕ
packed m = kind m * 256 + label_number (label m)

-- the move of a kind with a label
abbrev pub move_of : ℕ → ℕ → Move
move_of k l =
    cond (k == 0) Shift
    (cond (k == 1) (LeftArc l)
    (cond (k == 2) (RightArc l)
    (cond (k == 3) Reduce NoArc)))

-- the move that a number stands for
abbrev pub unpacked : ℕ → Move
unpacked n = move_of (n / 256) (n % 256)
