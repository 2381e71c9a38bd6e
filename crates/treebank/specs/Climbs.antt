-- Climbing from a word, head by head.
use Rattle.std.specs.Prelude.{ℕ, zero, suc, Bool, false, ◌||◌, List, length, Some, None, Option, ◌==◌}
use Rattle.treebank.specs.declared.arcs.Arc.{Arc}
use Rattle.treebank.specs.declared.rows.Row.{Row}
use Rattle.treebank.specs.Tables.{arc_into}

-- one arc up: at x, or from there on
abbrev pub rise : ℕ → (ℕ → Bool) → Option Arc → Bool
rise x up None = false
rise x up (Some a) = a.head == x || up a.head

-- a climb of so many arcs at most comes from y to x
abbrev pub climbs : List Row → ℕ → ℕ → ℕ → Bool
climbs w x zero y = false
climbs w x (suc k) y = rise x (climbs w x k) (arc_into w y)

-- a climb of as many arcs as there are words comes from y to x
abbrev pub comes_to : List Row → ℕ → ℕ → Bool
comes_to w x y = climbs w x (length w) y
