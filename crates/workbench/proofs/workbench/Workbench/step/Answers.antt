use Rattle.std.proofs.Common.{◌<◌, length, sym, refl, ap, arith}
use Rattle.std.proofs.Math.Logic.{∥∥₁_map}
use Rattle.treebank.specs.Moves.{Proper}
use Rattle.workbench_model.specs.States.{holding}
use Rattle.workbench_model.proofs.Serves.{stepped}
use Rattle.workbench_model.proofs.Merely.{merely_served}
use Rattle.workbench.specs.Workbenches.{state}
use Rattle.workbench.proofs.Calls.{has_room, pushed, step_no}
use Rattle.workbench.proofs.workbench.Workbench.step.Goals as goal

pub invariant_of-self : goal.invariant_of-self
invariant_of-self g c =
    let b = state c.args.self.now in
    let laws = g.met.S.System.laws c.args.self.now.system in
    let p : Proper c.args.m = c.if-not-is_proper.ensures.0 refl in
    let v = sym c.in-Ok.ensures.answer in
    let q = pushed c.args.self.now.history c.push.new.self c.args.m c.push.result (has_room b c.args.m c.in-Ok.arc c.args.self.now.sound laws p v) c.push.ensures in
    record { sound = ∥∥₁_map c.args.self.now.sound (λ s. (stepped b c.args.m c.in-Ok.arc laws p v q c.in-Ok.ensures.moved c.step.ensures.alike s).sound s) }

pub unreachable-requires : goal.unreachable-requires
unreachable-requires g c =
    let p : Proper c.args.m = c.if-not-is_proper.ensures.0 refl in
    let l : length c.args.self.now.history < 5150 =
    has_room (state c.args.self.now) c.args.m c.in-Ok.arc c.args.self.now.sound (g.met.S.System.laws c.args.self.now.system) p (sym c.in-Ok.ensures.answer) in
    omega (arith, c.in_default.ensures.0)

pub returns-in-Ok-push-clause-served : goal.returns-in-Ok-push-clause-served
returns-in-Ok-push-clause-served g c =
    let b = state c.args.self.now in
    let p : Proper c.args.m = c.if-not-is_proper.ensures.0 refl in
    merely_served c.args.self.now.sound c.step.ensures.alike
    (stepped b c.args.m c.in-Ok.arc (g.met.S.System.laws c.args.self.now.system) p (sym c.in-Ok.ensures.answer) c.in-Ok-push.ensures.1 c.in-Ok.ensures.moved c.step.ensures.alike)

pub returns-in-Err-clause-served : goal.returns-in-Err-clause-served
returns-in-Err-clause-served g c =
    let x = c.args.self.now in
    let p : Proper c.args.m = c.if-not-is_proper.ensures.0 refl in
    step_no (state x) _ c.args.m c.in-Err.fault c.step_fault.result x.sound (g.met.S.System.laws x.system) p (sym c.in-Err.ensures.answer)
    (ap (λ y. holding x.words.count x.epoch x.history x.checkpoint (g.S.System.conf y) (g.S.System.start y)) c.in-Err.ensures.moved) c.step_fault.ensures
