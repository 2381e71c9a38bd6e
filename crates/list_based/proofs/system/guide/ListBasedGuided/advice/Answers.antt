use Rattle.std.proofs.Common.{rules}
use Rattle.guidance.proofs.Followed.{advice_leads}
use Rattle.list_based_theory.proofs.Reached.{guides}
use Rattle.list_based.specs.Held.{held}
use Rattle.list_based.proofs.system.guide.ListBasedGuided.advice.Goals as goal

pub returns-clause-leads : goal.returns-clause-leads
returns-clause-leads c = λ r within. advice_leads guides (held c.args.self.now) c.args.table.now c.list_advice.result (search rules) within
