-- Whether the table joins a word to one of the first nodes.
use Rattle.std.proofs.Common.{◌≡◌, ℕ, ◌<◌, Bool, true, false, ◌⊎◌, List, get_or, refl, ap, ◌∙◌, zero-add, arith}
use Rattle.std.proofs.lemmas.Bool.{both_ways}
use Rattle.std.proofs.lemmas.List.Folds.{list_any_at}
use Rattle.std.proofs.lemmas.List.FromFn.{length-range_with_len, get_or-range_with_len}
use Rattle.std.specs.List.{range_with_len}
use Rattle.treebank.specs.declared.rows.Row.{Row}
use Rattle.treebank.specs.Tables.{joins, table_arcs}
use Rattle.treebank.specs.Trees.{Heads}
use Rattle.treebank.proofs.Joined.{not_joined}
use Rattle.list_based_theory.specs.Advice.{joins_before}

module _ (w : List Row) (j : ℕ) where
  -- where the test fails none of the first k nodes is joined to j
  pub before_none : (k x : ℕ) → joins_before w j k ≡ false → x < k → Heads (table_arcs w) x j ⊎ Heads (table_arcs w) j x → ⊥
  before_none k x e l = at (joins w x j) refl
    where
      at : (b : Bool) → joins w x j ≡ b → Heads (table_arcs w) x j ⊎ Heads (table_arcs w) j x → ⊥
      at false f = not_joined w x j f
      at true f =
          let here : get_or (range_with_len 0 k) x 0 ≡ x = get_or-range_with_len 0 k x 0 l ∙ zero-add x in
          absurd (both_ways (joins_before w j k) e (list_any_at (λ (y : ℕ). joins w y j) (range_with_len 0 k) x 0 (omega (arith, length-range_with_len 0 k)) (ap (λ (y : ℕ). joins w y j) here ∙ f)))
