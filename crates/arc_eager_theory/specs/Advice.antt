-- What arc-eager advises for a wanted table: the first line that fits.
use Rattle.std.specs.Prelude.{ℕ, Bool, cond, ◌&&◌, List, is_some, Some, None, Option}
use Rattle.std.specs.List.{list_any}
use Rattle.treebank.specs.declared.arcs.Arc.{Arc}
use Rattle.treebank.specs.declared.moves.Move.{Move}
use Rattle.treebank.specs.declared.moves.Move.TheVariants.{Shift, LeftArc, RightArc, Reduce}
use Rattle.treebank.specs.declared.rows.Row.{Row}
use Rattle.treebank.specs.Tables.{is_good_table, arc_into, arc_between, joins}
use Rattle.arc_eager_theory.specs.Configurations.{Configuration, words, finished, front, top, under}

-- the table joins j to a node of the list
abbrev pub joins_any : List Row → ℕ → List ℕ → Bool
joins_any w j st = list_any (joins w j) st

-- Reduce if the top has a head and the table joins the buffer's first word to a node under it; else Shift
abbrev pub reduce_advice : Configuration → List Row → Option Move
reduce_advice c w = cond (is_some (arc_into c.rows (top c.stack)) && joins_any w (front c) (under c.stack)) (Some Reduce) (Some Shift)

-- Right-Arc if the table gives the buffer's first word the top for its head
abbrev pub right_advice : Configuration → List Row → Option Arc → Option Move
right_advice c w None = reduce_advice c w
right_advice c w (Some a) = Some (RightArc a.label)

-- Left-Arc if the table gives the top the buffer's first word for its head
abbrev pub left_advice : Configuration → List Row → Option Arc → Option Move
left_advice c w None = right_advice c w (arc_between w (top c.stack) (front c))
left_advice c w (Some a) = Some (LeftArc a.label)

-- none when finished and for a table that is not good
abbrev pub advice : Configuration → List Row → Option Move
advice c w = cond (finished c) None (cond (is_good_table (words c) w) (left_advice c w (arc_between w (front c) (top c.stack))) None)
