use Rattle.std.proofs.Common.{rules}
use Rattle.guidance.proofs.Followed.{advice_leads}
use Rattle.arc_eager_theory.proofs.Reached.{guides}
use Rattle.arc_eager.specs.Held.{held}
use Rattle.arc_eager.proofs.system.guide.ArcEagerGuided.advice.Goals as goal

pub returns-clause-leads : goal.returns-clause-leads
returns-clause-leads c = λ r within. advice_leads guides (held c.args.self.now) c.args.table.now c.left_advice.result (search rules) within
