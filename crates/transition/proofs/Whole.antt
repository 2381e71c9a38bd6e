-- All that follows from the laws.
use Rattle.std.proofs.Common.{ℕ}
use Rattle.transition.specs.Meaning.{Meaning}
use Rattle.transition.specs.Laws.{Laws}
use Rattle.transition.specs.Theory.{Theory}
use Rattle.transition.proofs.Running.{run_unique}
use Rattle.transition.proofs.Forests.{arcs_forest}
use Rattle.transition.proofs.Ceilings.{bounded}

pub theory : {M : Meaning} {start : ℕ → M.Config} → Laws M start → Theory M start
theory laws = record { forest = arcs_forest laws; bounded = bounded laws; same = run_unique }
