use Rattle.std.proofs.Common.{◌≡◌}
use Rattle.transition.specs.Runs.{Run}
use Rattle.workbench.proofs.workbench.going_back.make_again.Given as goal

abbrev pub invariant-loop-m : goal.invariant-loop-m
invariant-loop-m g l =
    (goal.iterator-loop-m g).can_next l.m-iterator
    × (goal.iterator-loop-m g).is_finite l.m-iterator
    × (g.S.System.start l.system ≡ g.S.System.start l.initial.system)
    × ((d : g.S.System.meaning.Config) → Run g.S.System.meaning (g.S.System.conf l.initial.system) l.history d → Run g.S.System.meaning (g.S.System.conf l.system) l.m-iterator d)
