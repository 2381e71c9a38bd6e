use Rattle.std.proofs.Common.{sym, ◌∙◌, subst}
use Rattle.std.proofs.Math.Logic.{∥∥₁_map}
use Rattle.transition.specs.Runs.{Run}
use Rattle.workbench_model.proofs.Serves.{went_back, back_sound}
use Rattle.workbench.specs.Workbenches.{state}
use Rattle.workbench.proofs.workbench.Workbench.go_back_to.Goals as goal

pub invariant_of-self : goal.invariant_of-self
invariant_of-self g c =
    let M = g.S.System.meaning in
    let b = state c.args.self.now in
    let back = went_back b c.args.count c.cut.ensures (c.make_again.ensures.alike ∙ c.begin.ensures.alike)
    (λ d r. c.make_again.ensures.at d (subst (λ (x : M.Config). Run M x c.cut.new.self d) (sym c.begin.ensures.begun) r)) in
    record { sound = ∥∥₁_map c.args.self.now.sound (back_sound b c.args.count c.requires back) }

pub returns : goal.returns
returns g c =
    let M = g.S.System.meaning in
    went_back (state c.args.self.now) c.args.count c.cut.ensures (c.make_again.ensures.alike ∙ c.begin.ensures.alike)
    (λ d r. c.make_again.ensures.at d (subst (λ (x : M.Config). Run M x c.cut.new.self d) (sym c.begin.ensures.begun) r))
