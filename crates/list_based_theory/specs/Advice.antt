-- What the list-based system advises for a wanted table: the first line that fits.
use Rattle.std.specs.Prelude.{ℕ, Bool, cond, List, Some, None, Option}
use Rattle.std.specs.List.{list_any, range_with_len}
use Rattle.treebank.specs.declared.arcs.Arc.{Arc}
use Rattle.treebank.specs.declared.moves.Move.{Move}
use Rattle.treebank.specs.declared.moves.Move.TheVariants.{Shift, LeftArc, RightArc, NoArc}
use Rattle.treebank.specs.declared.rows.Row.{Row}
use Rattle.treebank.specs.Tables.{is_good_table, arc_between, joins}
use Rattle.list_based_theory.specs.Configurations.{Configuration, words, finished, emptied, last}

-- the table joins j to one of the first k nodes
abbrev pub joins_before : List Row → ℕ → ℕ → Bool
joins_before w j k = list_any (λ x. joins w x j) (range_with_len 0 k)

-- with i last in the first list and j first in the buffer: No-Arc if the table joins j to a node before i, else Shift
abbrev pub pass_advice : List Row → ℕ → ℕ → Option Move
pass_advice w i j = cond (joins_before w j i) (Some NoArc) (Some Shift)

-- Right-Arc if the table gives j the head i
abbrev pub right_advice : List Row → ℕ → ℕ → Option Arc → Option Move
right_advice w i j None = pass_advice w i j
right_advice w i j (Some a) = Some (RightArc a.label)

-- Left-Arc if the table gives i the head j
abbrev pub left_advice : List Row → ℕ → ℕ → Option Arc → Option Move
left_advice w i j None = right_advice w i j (arc_between w i j)
left_advice w i j (Some a) = Some (LeftArc a.label)

-- Shift if the first list is empty
abbrev pub list_advice : Configuration → List Row → Option Move
list_advice c w = cond (emptied c) (Some Shift) (left_advice w (last c) c.front (arc_between w c.front (last c)))

-- none when finished and for a table that is not good
abbrev pub advice : Configuration → List Row → Option Move
advice c w = cond (finished c) None (cond (is_good_table (words c) w) (list_advice c w) None)
