-- What arc-standard advises for a wanted table: the first line that fits.
use Rattle.std.specs.Prelude.{ℕ, Bool, cond, not, ◌||◌, List, is_some, Some, None, Option}
use Rattle.std.specs.List.{list_all, range_with_len}
use Rattle.treebank.specs.declared.arcs.Arc.{Arc}
use Rattle.treebank.specs.declared.moves.Move.{Move}
use Rattle.treebank.specs.declared.moves.Move.TheVariants.{Shift, LeftArc, RightArc}
use Rattle.treebank.specs.declared.rows.Row.{Row}
use Rattle.treebank.specs.Tables.{is_good_table, arc_into, arc_between}
use Rattle.arc_standard_theory.specs.Configurations.{Configuration, words, emptied, finished, top_two}

-- word d has its arc, if the table puts it directly under j
abbrev pub serves : List Row → List Row → ℕ → ℕ → Bool
serves drawn w j d = not (is_some (arc_between w j d)) || is_some (arc_into drawn d)

-- among the first k words, each that the table puts directly under j has its arc
abbrev pub served : List Row → List Row → ℕ → ℕ → Bool
served drawn w j k = list_all (serves drawn w j) (range_with_len 1 k)

-- Shift if the buffer has a word
abbrev pub shift_advice : Configuration → Option Move
shift_advice c = cond (emptied c) None (Some Shift)

-- Right-Arc if the table gives the top j the head i, and each word that it puts directly under j has its arc
abbrev pub right_advice : Configuration → List Row → ℕ → Option Arc → Option Move
right_advice c w j None = shift_advice c
right_advice c w j (Some a) = cond (served c.rows w j (words c)) (Some (RightArc a.label)) (shift_advice c)

-- Left-Arc if the table gives the second node i the head j
abbrev pub left_advice : Configuration → List Row → ℕ → ℕ → Option Arc → Option Move
left_advice c w i j None = right_advice c w j (arc_between w i j)
left_advice c w i j (Some a) = Some (LeftArc a.label)

abbrev pub arc_advice : Configuration → List Row → Option (ℕ × ℕ) → Option Move
arc_advice c w None = shift_advice c
arc_advice c w (Some (i, j)) = left_advice c w i j (arc_between w j i)

-- none when finished and for a table that is not good
abbrev pub advice : Configuration → List Row → Option Move
advice c w = cond (finished c) None (cond (is_good_table (words c) w) (arc_advice c w (top_two c.stack)) None)
