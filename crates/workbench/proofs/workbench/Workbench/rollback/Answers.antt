use Rattle.std.proofs.Common.{◌≡◌, ◌-◌, length, sym, arith}
use Rattle.std.proofs.Math.Logic.{∥∥₁_map}
use Rattle.workbench_model.proofs.Serves.{rolled}
use Rattle.workbench.specs.Workbenches.{state, model_of}
use Rattle.workbench.proofs.Calls.{noted}
use Rattle.workbench.proofs.workbench.Workbench.rollback.Goals as goal

pub invariant_of-self : goal.invariant_of-self
invariant_of-self g c = record { sound = ∥∥₁_map c.go_back_to.new.self.sound (λ s. record { few = s.few; run = s.run; within = tt }) }

pub returns-clause-served : goal.returns-clause-served
returns-clause-served g c =
    let x = c.args.self.now in
    let (standing, same) = noted (model_of x) c.args.ticket.epoch c.in-Some.count (sym c.in-Some.ensures) in
    let n : c.len.result - c.in-Some.count ≡ length x.history - c.in-Some.count = omega (arith, c.len.ensures.value) in
    rolled (state x) c.in-Some.count _ c.args.ticket.epoch (g.met.S.System.laws x.system) standing same n c.go_back_to.ensures
