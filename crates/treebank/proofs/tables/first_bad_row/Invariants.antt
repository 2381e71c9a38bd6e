use Rattle.std.proofs.Common.{ℕ, ◌<◌}
use Rattle.treebank.specs.Tables.{GoodRow, row_at}
use Rattle.treebank.proofs.tables.first_bad_row.Given as goal

abbrev pub invariant-loop-i : goal.invariant-loop-i
invariant-loop-i l = (k : ℕ) → k < l.i → GoodRow l.words.count (row_at l.rows k)
