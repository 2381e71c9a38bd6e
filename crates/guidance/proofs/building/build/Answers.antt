use Rattle.guidance.proofs.Followed.{led_exactly}
use Rattle.guidance.proofs.building.build.Goals as goal

pub returns-in_err-words-clause-exact : goal.returns-in_err-words-clause-exact
returns-in_err-words-clause-exact g c = λ r. led_exactly (g.met.S.System.laws c.args.system.now) (g.met.S.Guided.guides r c.args.system.now)

pub returns-then-is_some-clause-exact : goal.returns-then-is_some-clause-exact
returns-then-is_some-clause-exact g c = λ r. led_exactly (g.met.S.System.laws c.args.system.now) (g.met.S.Guided.guides r c.args.system.now)

pub returns-then-is_err-clause-exact : goal.returns-then-is_err-clause-exact
returns-then-is_err-clause-exact g c = λ r. led_exactly (g.met.S.System.laws c.args.system.now) (g.met.S.Guided.guides r c.args.system.now)

pub returns-else-is_err-clause-exact : goal.returns-else-is_err-clause-exact
returns-else-is_err-clause-exact g c = λ r. led_exactly (g.met.S.System.laws c.args.system.now) (g.met.S.Guided.guides r c.args.system.now)
