use Rattle.std.proofs.Common.{ℕ, ◌-◌, ◌<◌, length, ap, arith}
use Rattle.workbench_model.specs.Serving.{floor}
use Rattle.workbench_model.proofs.Serves.{undone}
use Rattle.workbench.specs.Workbenches.{state}
use Rattle.workbench.proofs.workbench.Workbench.undo.Goals as goal

pub returns : goal.returns
returns g c =
    let x = c.args.self.now in
    let l : floor x.checkpoint < length x.history = omega (arith, c.len-len.ensures.value, c.unwrap_or.ensures) in
    undone (state x) _ (g.met.S.System.laws x.system) l (ap (λ (k : ℕ). k - 1) c.len-len.ensures.value) c.go_back_to.ensures
