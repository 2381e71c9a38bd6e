use Rattle.std.proofs.Common.{◌≡◌, ℕ, ◌<◌, ◌≤◌}
use Rattle.treebank.specs.Tables.{arc_into}
use Rattle.guidance.proofs.building.has_arcs.Given as goal

abbrev pub invariant-loop-word : goal.invariant-loop-word
invariant-loop-word g l = (d : ℕ) → 1 ≤ d → d < l.word → g.S.System.meaning.arc_into (g.S.System.conf l.system) d ≡ arc_into l.table d
