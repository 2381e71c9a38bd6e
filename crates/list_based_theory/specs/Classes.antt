-- What the list-based system reaches from a new start.
use Rattle.treebank.specs.Trees.{Forest}
use Rattle.guidance.specs.Classes.{ReachesExactly}
use Rattle.list_based_theory.specs.Configurations.{start}
use Rattle.list_based_theory.specs.Moves.{list_based}

-- the good tables that can be reached are exactly the dependency forests
abbrev pub ReachesForests : Type 0
ReachesForests = ReachesExactly list_based start Forest
