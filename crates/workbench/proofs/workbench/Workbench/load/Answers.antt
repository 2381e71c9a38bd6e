use Rattle.std.proofs.Math.Logic.{∥∥₁_map}
use Rattle.std.proofs.Common.{sym}
use Rattle.workbench_model.proofs.Serves.{loaded}
use Rattle.workbench.specs.Workbenches.{state}
use Rattle.workbench.proofs.workbench.Workbench.load.Goals as goal

pub invariant_of-self : goal.invariant_of-self
invariant_of-self g c =
    let b = state c.args.self.now in
    let (few, count) = c.in_ok-words.ensures in
    let v = loaded b c.args.words c.args.epoch (g.met.S.System.laws c.args.self.now.system) (sym c.if-is_some.ensures) few count c.cut.ensures c.begin.ensures.alike c.begin.ensures.begun in
    record { sound = ∥∥₁_map c.args.self.now.sound v.sound }

pub returns : goal.returns
returns g c =
    let b = state c.args.self.now in
    let (few, count) = c.in_ok-words.ensures in
    loaded b c.args.words c.args.epoch (g.met.S.System.laws c.args.self.now.system) (sym c.if-is_some.ensures) few count c.cut.ensures c.begin.ensures.alike c.begin.ensures.begun
