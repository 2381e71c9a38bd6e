use Rattle.std.proofs.Common.{rules, Ok, Err}
use Rattle.treebank.specs.declared.refusals.Refusal.TheVariants.{HasHead}
use Rattle.arc_store.specs.Drawing.{rows_of}
use Rattle.arc_store.proofs.Freshness.{told_fresh}
use Rattle.arc_store.proofs.store.ArcStore.permission.Goals as goal

pub returns-then-is_some-clause-fresh : goal.returns-then-is_some-clause-fresh
returns-then-is_some-clause-fresh c = told_fresh (rows_of c.args.self.now) c.args.arc (Err HasHead) (search rules)

pub returns-clause-fresh : goal.returns-clause-fresh
returns-clause-fresh c = told_fresh (rows_of c.args.self.now) c.args.arc (Ok c.args.arc) (search rules)
