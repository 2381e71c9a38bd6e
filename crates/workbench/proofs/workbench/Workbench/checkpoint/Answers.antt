use Rattle.std.proofs.Common.{arith}
use Rattle.std.proofs.Math.Logic.{∥∥₁_map}
use Rattle.workbench.proofs.workbench.Workbench.checkpoint.Goals as goal

pub invariant_of-self : goal.invariant_of-self
invariant_of-self g c = record {
  sound = ∥∥₁_map c.args.self.now.sound (λ s. record { few = s.few; run = s.run; within = omega (arith, c.len.ensures.value) });
}
