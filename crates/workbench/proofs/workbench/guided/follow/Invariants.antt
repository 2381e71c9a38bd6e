use Rattle.std.proofs.Common.{◌≡◌, ◌-◌, length}
use Rattle.workbench_model.proofs.Advanced.{On}
use Rattle.workbench.proofs.workbench.guided.follow.Given as goal

abbrev pub invariant-loop-system : goal.invariant-loop-system
invariant-loop-system g l =
    On g.S.System.meaning l.table l.initial.history (g.S.System.conf l.initial.system) l.history (g.S.System.conf l.system)
    × (g.S.System.start l.system ≡ g.S.System.start l.initial.system)

abbrev pub decreases-loop-system : goal.decreases-loop-system
decreases-loop-system g l = 5150 - length l.history
