use Rattle.workbench_model.proofs.Serves.{new_sound}
use Rattle.workbench.proofs.workbench.Workbench.new.Goals as goal

pub invariant_of-result : goal.invariant_of-result
invariant_of-result g c = record { sound = ∣ new_sound (g.met.S.System.laws c.args.system) c.new.ensures c.begin.ensures.alike c.begin.ensures.begun ∣₁ }

pub returns-clause-sound : goal.returns-clause-sound
returns-clause-sound g c = new_sound (g.met.S.System.laws c.args.system) c.new.ensures c.begin.ensures.alike c.begin.ensures.begun
