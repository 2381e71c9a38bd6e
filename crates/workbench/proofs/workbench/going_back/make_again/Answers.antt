use Rattle.std.proofs.Common.{◌≡◌, ◌∷◌, List, ◌∙◌, subst}
use Rattle.treebank.specs.declared.moves.Move.{Move}
use Rattle.transition.specs.Runs.{Run}
use Rattle.workbench_model.proofs.Serves.{run_next}
use Rattle.workbench.proofs.workbench.going_back.make_again.Goals as goal

pub loop-m-preserved : goal.loop-m-preserved
loop-m-preserved g c = (
  tt,
  tt,
  c.step.ensures.alike ∙ c.loop-m.invariant.2,
  λ d r.
      let M = g.S.System.meaning in
      let rest : Run M (g.S.System.conf c.loop-m.system) (c.in-Some.m ∷ c.next.new.self) d =
      subst (λ (ms : List Move). Run M (g.S.System.conf c.loop-m.system) ms d) c.in-Some.ensures.steps (c.loop-m.invariant.3 d r) in
      run_next (λ _. c.step.new.self ≡ c.loop-m.system) c.step.result rest c.step.ensures.answer c.step.ensures.moved,
)
