use Rattle.std.proofs.Common.{ℕ, ◌<◌}
use Rattle.treebank.specs.Tables.{table_arcs}
use Rattle.treebank.specs.Trees.{Above}
use Rattle.treebank.proofs.tables.is_covered.Given as goal

abbrev pub invariant-loop-word : goal.invariant-loop-word
invariant-loop-word l = (x : ℕ) → l.low < x → x < l.word → Above (table_arcs l.rows) l.arc.head x
