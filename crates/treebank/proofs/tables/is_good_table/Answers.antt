use Rattle.std.proofs.Common.{rules}
use Rattle.treebank.proofs.Goodness.{told_good}
use Rattle.treebank.proofs.tables.is_good_table.Goals as goal

pub returns-then-rows-get-clause-value : goal.returns-then-rows-get-clause-value
returns-then-rows-get-clause-value c = told_good c.args.words.count c.args.rows.now c.is_none.result (search rules)
