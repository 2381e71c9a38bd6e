use Rattle.std.proofs.Common.{◌≡◌, length, vec_items}
use Rattle.guidance.specs.Building.{Led}
use Rattle.guidance.proofs.building.follow.Given as goal

abbrev pub invariant-loop-system : goal.invariant-loop-system
invariant-loop-system g l =
    Led g.S.System.meaning (g.S.System.start l.initial.system) g.S.Guided.reliable (length l.table) l.table (vec_items l.moves) (g.S.System.conf l.system)
    × (g.S.System.start l.system ≡ g.S.System.start l.initial.system)

abbrev pub decreases-loop-system : goal.decreases-loop-system
decreases-loop-system g l = g.S.System.meaning.remaining (g.S.System.conf l.system)
