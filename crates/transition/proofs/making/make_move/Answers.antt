use Rattle.std.proofs.Common.{refl, inl}
use Rattle.std.proofs.lemmas.Bool.{false≢true}
use Rattle.transition.proofs.Whole.{theory}
use Rattle.transition.proofs.Made.{stepped}
use Rattle.transition.proofs.making.make_move.Goals as goal

pub returns-then-not-is_proper : goal.returns-then-not-is_proper
returns-then-not-is_proper g c = record {
  made = (inl ((λ p. false≢true (c.if-not-is_proper.ensures.1 p)), c.from.ensures), refl);
  alike = refl;
  theory = theory (g.met.S.System.laws c.args.system.now);
}

pub returns : goal.returns
returns g c = record {
  made = stepped g.S.System.meaning g.S.System.conf c.args.system.now c.step.new.self c.args.m c.step.result (c.if-not-is_proper.ensures.0 refl) c.step.ensures.answer c.step.ensures.moved;
  alike = c.step.ensures.alike;
  theory = theory (g.met.S.System.laws c.args.system.now);
}
