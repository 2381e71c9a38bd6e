use Rattle.std.proofs.Common.{◌≡◌, ℕ, ◌≤◌, Some}
use Rattle.treebank.specs.declared.arcs.Arc.{Arc}
use Rattle.treebank.specs.Tables.{arc_into, table_arcs}
use Rattle.treebank.specs.Trees.{Covered}
use Rattle.treebank.proofs.tables.is_projective.Given as goal

abbrev pub invariant-loop-word : goal.invariant-loop-word
invariant-loop-word l = (d : ℕ) → d ≤ l.word → (a : Arc) → arc_into l.rows d ≡ Some a → Covered (table_arcs l.rows) a
