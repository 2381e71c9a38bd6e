use Rattle.std.proofs.Common.{rules}
use Rattle.guidance.proofs.Followed.{advice_leads}
use Rattle.arc_standard_theory.proofs.Reached.{guides}
use Rattle.arc_standard.specs.Held.{held}
use Rattle.arc_standard.proofs.system.guide.ArcStandardGuided.advice.Goals as goal

pub returns-clause-leads : goal.returns-clause-leads
returns-clause-leads c = λ r within. advice_leads guides (held c.args.self.now) c.args.table.now c.arc_advice.result (search rules) within
