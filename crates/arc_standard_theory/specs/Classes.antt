-- What arc-standard reaches from a new start.
use Rattle.std.specs.Prelude.{List}
use Rattle.treebank.specs.declared.rows.Row.{Row}
use Rattle.treebank.specs.Tables.{table_arcs}
use Rattle.treebank.specs.Trees.{Tree, Projective}
use Rattle.guidance.specs.Classes.{ReachesExactly}
use Rattle.arc_standard_theory.specs.Configurations.{start}
use Rattle.arc_standard_theory.specs.Moves.{arc_standard}

abbrev pub ProjectiveTree : List Row → Type 0
ProjectiveTree w = Tree w × Projective (table_arcs w)

-- the good tables that can be reached are exactly the projective trees
abbrev pub ReachesProjectiveTrees : Type 0
ReachesProjectiveTrees = ReachesExactly arc_standard start ProjectiveTree
