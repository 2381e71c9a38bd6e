-- What is viable is what can be reached, and at the start these are the projective forests.
use Rattle.std.proofs.Common.{◌≡◌, ℕ, ◌≤◌, ◌⊎◌, ◌↔◌, List, [], ◌∷◌, None, sym, subst, inl, inr, arith}
use mathlib.Core.List.Memᴰ
use lib.ListN.{length-replicate}
use Rattle.std.proofs.lemmas.Bool.{cases_eq, cond-true, cond-false}
use Rattle.treebank.specs.declared.arcs.Arc.{Arc}
use Rattle.treebank.specs.declared.rows.Row.{Row}
use Rattle.treebank.specs.Tables.{GoodTable, is_good_table, table_arcs}
use Rattle.treebank.specs.Trees.{◌∈◌, Above, Between, Projective}
use Rattle.treebank.proofs.Goodness.{table_fits, not_good}
use Rattle.transition.proofs.Running.{arises_start}
use Rattle.transition.proofs.Forests.{arcs_forest}
use Rattle.arc_store.specs.Drawing.{bare}
use Rattle.arc_store.proofs.Putting.{none_drawn}
use Rattle.arc_store.proofs.Verdicts.{none_either}
use Rattle.guidance.specs.Guides.{Guides}
use Rattle.guidance.specs.Viability.{Viability, ViableExactly}
use Rattle.guidance.proofs.Viably.{viable_guides, viable_exactly, viable_reaches}
use Rattle.arc_eager_theory.specs.Configurations.{start, words, finished}
use Rattle.arc_eager_theory.specs.Moves.{arc_eager}
use Rattle.arc_eager_theory.specs.Viable.{InPlay, Open, Viable}
use Rattle.arc_eager_theory.specs.Classes.{ProjectiveForest, ReachesProjectiveForests}
use Rattle.arc_eager_theory.proofs.Kept.{permitted, kept}
use Rattle.arc_eager_theory.proofs.Lawful.{lawful}
use Rattle.arc_eager_theory.proofs.Back.{back, ends}
use Rattle.arc_eager_theory.proofs.Advised.{on_any}

pub viability : Viability arc_eager start Viable
viability = record {
  ends = λ {c} w h good e. ends w (kept h) (arcs_forest lawful h).acyclic good e;
  back = λ {c} w m a h good v x. back c.done c.rows w c.stack m a (kept h) (permitted c m a v).1 x;
  on = λ {c} w h good u x. on_any c.stack c.done c.rows w good (kept h) u x;
}

-- the law of advice
pub guides : Guides arc_eager start
guides = viable_guides lawful viability (λ c w e. cond-true (finished c) None _ e)
    (λ c w f. none_either (finished c) (cond-false (is_good_table (words c) w) _ None (not_good (words c) w f)))

-- reachable, viable and made by the advice are one
pub exactly : ViableExactly arc_eager start Viable
exactly = viable_exactly lawful viability guides

module _ (n : ℕ) (w : List Row) (small : n ≤ 100) (good : GoodTable n w) where
  none : (a : Arc) → a ∈ table_arcs (start n).rows → ⊥
  none a m = Memᴰ.not-nil (subst (λ (l : List Arc). a ∈ l) (none_drawn 1 n) m)

  all_in : (x : ℕ) → (x ≡ 0) ⊎ (x ≡ 0 → ⊥) → InPlay 0 (0 ∷ []) x
  all_in x (inl e) = inl (Memᴰ.head e)
  all_in x (inr e) = inr (omega arith)

  begun : Projective (table_arcs w) → (a : Arc) → a ∈ table_arcs w → Open 0 (0 ∷ []) (table_arcs w) a
  begun p a m = let (joins, label) = table_fits n w good small a m in record {
    head = all_in a.head (cases_eq a.head 0);
    word = all_in a.word (cases_eq a.word 0);
    later = let f = joins.word.0 in omega arith;
    between = λ x q b. p a m x b;
  }

  covered : (a : Arc) (x : ℕ) → Between a.head x a.word → (a ∈ table_arcs (start n).rows) ⊎ Open 0 (0 ∷ []) (table_arcs w) a → Above (table_arcs w) a.head x
  covered a x b (inl m) = absurd (none a m)
  covered a x b (inr o) = o.between x (inr (omega arith)) b

  viable_start : Viable (start n) w ↔ ProjectiveForest w
  viable_start = (
    λ v. (v.forest, λ a m x b. covered a x b (v.open_arcs a m)),
    λ (f, p). record { within = λ a m. absurd (none a m); forest = f; open_arcs = λ a m. inr (begun p a m) },
  )

pub reaches_projective_forests : ReachesProjectiveForests
reaches_projective_forests n w small good =
    let (to, from) = viable_reaches lawful viability w (arises_start small) (subst (λ (k : ℕ). GoodTable k w) (sym (length-replicate n bare)) good) in
    let (r, s) = viable_start n w small good in
    (λ t. r (to t), λ f. from (s f))
