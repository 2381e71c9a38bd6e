-- A sentence loaded again.
use Rattle.transition.specs.declared.system.System.{Ghosts}
use Rattle.workbench_model.specs.Serving.{Outcome}
use Rattle.workbench_model.specs.Models.Call.{load}
use Rattle.workbench.specs.declared.workbench.Workbench.{Workbench}
use Rattle.workbench.specs.Workbenches.{Serves}

-- loaded again with the same words under the same epoch, whatever was answered
abbrev pub Reloaded : {X : Type 0} {B : Ghosts X} → Workbench X B → Workbench X B → Type 0
Reloaded b d = (a : Outcome) × Serves b (load b.words.count b.epoch) a d
