-- What arc-eager reaches from a new start.
use Rattle.std.specs.Prelude.{List}
use Rattle.treebank.specs.declared.rows.Row.{Row}
use Rattle.treebank.specs.Tables.{table_arcs}
use Rattle.treebank.specs.Trees.{Forest, Projective}
use Rattle.guidance.specs.Classes.{ReachesExactly}
use Rattle.arc_eager_theory.specs.Configurations.{start}
use Rattle.arc_eager_theory.specs.Moves.{arc_eager}

abbrev pub ProjectiveForest : List Row → Type 0
ProjectiveForest w = Forest w × Projective (table_arcs w)

-- the good tables that can be reached are exactly the projective forests
abbrev pub ReachesProjectiveForests : Type 0
ReachesProjectiveForests = ReachesExactly arc_eager start ProjectiveForest
