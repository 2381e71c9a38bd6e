use Rattle.std.proofs.Common.{rules}
use Rattle.treebank.proofs.Said.{joining}
use Rattle.treebank.proofs.tables.arc_between.Goals as goal

pub returns-clause-joining : goal.returns-clause-joining
returns-clause-joining c = joining c.args.rows.now c.args.head c.args.word c.filter.result (search rules)
