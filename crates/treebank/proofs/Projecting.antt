-- What the projectivity test has seen when it answers.
use Rattle.std.proofs.Common.{◌≡◌, ℕ, ◌≤◌, true, false, ◌↔◌, List, length, Some, sym, refl, subst, arith}
use Rattle.treebank.specs.declared.arcs.Arc.{Arc}
use Rattle.treebank.specs.declared.rows.Row.{Row}
use Rattle.treebank.specs.Tables.{GoodRow, AllRows, GoodTable, arc_into, table_arcs}
use Rattle.treebank.specs.Trees.{Covered, Projective}
use Rattle.treebank.proofs.Said.{mem_into, into_mem, table_words}

module _ (w : List Row) where
  pub counted_good : (n : ℕ) → n ≡ length w → AllRows (GoodRow n) w → GoodTable (length w) w
  counted_good n e h = record { rows = refl; good = subst (λ (k : ℕ). AllRows (GoodRow k) w) e h }

  -- every word was looked at
  pub all_covered : (n : ℕ) → length w ≤ n → ((d : ℕ) → d ≤ n → (a : Arc) → arc_into w d ≡ Some a → Covered (table_arcs w) a) → Projective (table_arcs w)
  all_covered n h each a m = let (lo, hi) = table_words w a m in each a.word (omega arith) a (mem_into w m)

  -- one arc was not covered
  pub not_projective : (d : ℕ) (a : Arc) → Some a ≡ arc_into w d → (Covered (table_arcs w) a → false ≡ true) → (false ≡ true) ↔ Projective (table_arcs w)
  not_projective d a e not = (λ t. cc, λ p. not (p a (into_mem w d a (sym e))))
