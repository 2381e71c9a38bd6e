-- At the start the viable tables are the projective trees.
use Rattle.std.proofs.Common.{◌≡◌, ℕ, ◌+◌, ◌-◌, ◌<◌, ◌≤◌, ◌⊎◌, List, [], ◌∷◌, length, sym, subst, inl, inr, arith}
use mathlib.Core.List.Memᴰ
use lib.ListN.{length-replicate}
use Rattle.std.proofs.lemmas.Bool.{cases_lt}
use Rattle.treebank.specs.declared.arcs.Arc.{Arc}
use Rattle.treebank.specs.declared.rows.Row.{Row}
use Rattle.treebank.specs.Tables.{arc, Headless, GoodTable, row_at, table_arcs}
use Rattle.treebank.specs.Trees.{◌∈◌, Heads, Above, Between, Tree}
use Rattle.treebank.proofs.Goodness.{table_fits, row_heads, heads_row}
use Rattle.transition.proofs.Running.{arises_start}
use Rattle.arc_store.specs.Drawing.{bare}
use Rattle.arc_store.proofs.Putting.{none_drawn}
use Rattle.guidance.proofs.Viably.{viable_reaches}
use Rattle.arc_standard_theory.specs.Configurations.{start, words}
use Rattle.arc_standard_theory.specs.Classes.{ProjectiveTree, ReachesProjectiveTrees}
use Rattle.arc_standard_theory.proofs.Lawful.{lawful}
use Rattle.arc_standard_theory.specs.Viable.{Play, Total, Rest, Viable}
use Rattle.arc_standard_theory.proofs.Reached.{viability}

module _ (n : ℕ) (w : List Row) (small : n ≤ 100) (good : GoodTable n w) where
  fit : {h d : ℕ} → Heads (table_arcs w) h d → (1 ≤ d) × (d ≤ n) × (h ≤ n)
  fit {h} {d} (l, m) = let (joins, label) = table_fits n w good small (arc h l d) m in (joins.word.0, joins.word.1, joins.head)

  same : words (start n) ≡ n
  same = length-replicate n bare

  -- at the start all nodes are in play
  all_in : {x : ℕ} → x ≤ n → Play n (0 ∷ []) 1 x
  all_in {x} l = at (cases_lt 0 x)
    where
      at : (0 < x) ⊎ (x ≤ 0) → Play n (0 ∷ []) 1 x
      at (inl p) = inr (omega arith, l)
      at (inr p) = inl (Memᴰ.head (omega arith))

  inside : {h d x : ℕ} → h ≤ n → d ≤ n → Between h x d → x ≤ n
  inside p q (inl t) = omega arith
  inside p q (inr t) = omega arith

  tree_total : Tree w → Total n (table_arcs w)
  tree_total t d lo hi = row_heads n w good small d lo hi (t.headed (d - 1) (let len = good.rows in omega arith))

  start_viable : ProjectiveTree w → Viable (start n) w
  start_viable (tree, projective) = record {
    acyclic = tree.forest;
    total = subst (λ (k : ℕ). Total k (table_arcs w)) (sym same) (tree_total tree);
    into = λ a m. absurd (Memᴰ.not-nil (subst (λ (l : List Arc). a ∈ l) (none_drawn 1 n) m));
    rest = subst (λ (k : ℕ). Rest (table_arcs w) k (0 ∷ []) 1) (sym same) (record {
      closed = λ g p. all_in (fit g).2;
      cover = λ {h} {d} {x} g p q t. projective (arc h g.0 d) g.1 x t;
      spine = ((λ x y m. absurd (Memᴰ.not-nil m)), tt);
    });
  }

  viable_start : Viable (start n) w → ProjectiveTree w
  viable_start v = (
    record { forest = v.acyclic; headed = λ k l e. heads_row w (heads k l).1 (subst (λ (x : ℕ). Headless (row_at w x)) (let z : k ≡ k + 1 - 1 = omega arith in z) e) },
    λ a m x t. cover a x (a.label, m) t,
  )
    where
      rest : Rest (table_arcs w) n (0 ∷ []) 1
      rest = subst (λ (k : ℕ). Rest (table_arcs w) k (0 ∷ []) 1) same v.rest

      heads : (k : ℕ) → k < length w → (h : ℕ) × Heads (table_arcs w) h (k + 1)
      heads k l = subst (λ (x : ℕ). Total x (table_arcs w)) same v.total (k + 1) (omega arith) (let len = good.rows in omega arith)

      cover : (a : Arc) (x : ℕ) → Heads (table_arcs w) a.head a.word → Between a.head x a.word → Above (table_arcs w) a.head x
      cover a x g t = let (lo, hi, up) = fit g in rest.cover g (all_in hi) (all_in (inside up hi t)) t

pub reaches_projective_trees : ReachesProjectiveTrees
reaches_projective_trees n w small good =
    let (to, from) = viable_reaches lawful viability w (arises_start small) (subst (λ (k : ℕ). GoodTable k w) (sym (length-replicate n bare)) good) in
    (λ r. viable_start n w small good (to r), λ t. from (start_viable n w small good t))
