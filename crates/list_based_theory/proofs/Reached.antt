-- What is viable is what can be reached.
use Rattle.std.proofs.Common.{◌≡◌, ℕ, ◌+◌, ◌-◌, ◌≤◌, true, ◌⊎◌, List, length, None, Option, ap, ◌∙◌, inl, inr, arith}
use mathlib.Core.List.Memᴰ
use Rattle.std.proofs.lemmas.Bool.{ltb-true, cond-true, cond-false}
use Rattle.treebank.specs.declared.arcs.Arc.{Arc}
use Rattle.treebank.specs.declared.moves.Move.{Move}
use Rattle.treebank.specs.declared.rows.Row.{Row}
use Rattle.treebank.specs.Tables.{arc, GoodTable, is_good_table, table_arcs}
use Rattle.treebank.specs.Trees.{◌∈◌, Acyclic, Fresh, SameArcs}
use Rattle.treebank.proofs.Ways.{above_sub}
use Rattle.treebank.proofs.Goodness.{table_fits, not_good}
use Rattle.transition.proofs.Forests.{arcs_forest}
use Rattle.arc_store.specs.Drawing.{put}
use Rattle.arc_store.proofs.Putting.{put_fresh}
use Rattle.arc_store.proofs.Verdicts.{none_either}
use Rattle.guidance.specs.Guides.{Guides}
use Rattle.guidance.specs.Viability.{Viability, ViableExactly}
use Rattle.guidance.proofs.Viably.{viable_guides, viable_exactly}
use Rattle.list_based_theory.specs.Configurations.{Configuration, configuration, words, start, finished}
use Rattle.list_based_theory.specs.Moves.{list_based}
use Rattle.list_based_theory.specs.Viable.{low, high, Ahead, Viable}
use Rattle.list_based_theory.proofs.Accepted.{Makes, makes}
use Rattle.list_based_theory.proofs.Kept.{Kept, kept}
use Rattle.list_based_theory.proofs.Lawful.{lawful}
use Rattle.list_based_theory.proofs.Advised.{on_any}

-- finished, viable says that the arcs are the table's
module _ {c : Configuration} (k : Kept c) (e : finished c ≡ true) (w : List Row) (good : GoodTable (words c) w) where
  ends_same : Viable c w → SameArcs (table_arcs c.rows) (table_arcs w)
  ends_same v a = (v.into a, λ m. at m (v.ahead a m))
    where
      at : a ∈ table_arcs w → (a ∈ table_arcs c.rows) ⊎ Ahead c.front c.left a → a ∈ table_arcs c.rows
      at m (inl p) = p
      at m (inr (inl p)) = let f = (table_fits (words c) w good k.small a m).0 in let b = f.word.1 in let h = f.head in absurd (omega (arith, ltb-true (words c) c.front e))
      at m (inr (inr (p, q))) = let f = (table_fits (words c) w good k.small a m).0 in let b = f.word.1 in let h = f.head in absurd (omega (arith, ltb-true (words c) c.front e))

  same_ends : Acyclic (table_arcs c.rows) → SameArcs (table_arcs c.rows) (table_arcs w) → Viable c w
  same_ends acyclic s = record { forest = λ x p. acyclic x (above_sub (λ b. (s b).1) p); into = λ a. (s a).0; ahead = λ a m. inl ((s a).1 m) }

-- a move back
ahead_down : {b k : ℕ} (a : Arc) → Ahead b (k - 1) a → Ahead b k a
ahead_down a (inl p) = inl p
ahead_down a (inr (p, q)) = inr (p, omega arith)

ahead_shift : {b : ℕ} (k : ℕ) (a : Arc) → Ahead (b + 1) (b + 1) a → Ahead b k a
ahead_shift k a (inl p) = inl (omega arith)
ahead_shift k a (inr (p, q)) = inl (omega arith)

undrawn : {b k t : ℕ} {w : List Row} (rows : List Row) (x : Arc) → length rows ≤ 100 → Fresh (length rows) (table_arcs rows) x → 1 ≤ k → high x ≡ b → low x ≡ k - 1 →
    Viable (configuration b (k - 1) (t + 1) (put rows x)) w → Viable (configuration b k t rows) w
undrawn {b} {k} rows x small fresh some p q v = record { forest = v.forest; into = λ a m. v.into a ((put_fresh rows x small fresh a).1 (Memᴰ.tail m)); ahead = λ a m. at a (v.ahead a m) }
  where
    old : (a : Arc) → (a ≡ x) ⊎ (a ∈ table_arcs rows) → (a ∈ table_arcs rows) ⊎ Ahead b k a
    old a (inl e) = inr (inr (ap high e ∙ p, omega (arith, ap low e)))
    old a (inr m) = inl m

    at : (a : Arc) → (a ∈ table_arcs (put rows x)) ⊎ Ahead b (k - 1) a → (a ∈ table_arcs rows) ⊎ Ahead b k a
    at a (inl m) = old a (Memᴰ.cases_cons ((put_fresh rows x small fresh a).0 m))
    at a (inr t) = inr (ahead_down a t)

back : {c d : Configuration} {m : Move} {a : Option Arc} (w : List Row) → Makes c m a d → Kept c → Viable d w → Viable c w
back w (Makes.shift {b = b} {k = k} {w = rows} h) kept v = record { forest = v.forest; into = v.into; ahead = λ a m. at a (v.ahead a m) }
  where
    at : (a : Arc) → (a ∈ table_arcs rows) ⊎ Ahead (b + 1) (b + 1) a → (a ∈ table_arcs rows) ⊎ Ahead b k a
    at a (inl m) = inl m
    at a (inr t) = inr (ahead_shift k a t)
back w (Makes.left {b = b} {k = k} {l = l} {w = rows} h g f) kept v = let e = kept.lists in undrawn rows (arc b l (k - 1)) kept.small f g (omega arith) (omega arith) v
back w (Makes.right {b = b} {k = k} {l = l} {w = rows} h g f) kept v = let e = kept.lists in undrawn rows (arc (k - 1) l b) kept.small f g (omega arith) (omega arith) v
back w (Makes.pass {b = b} {k = k} {w = rows} h g) kept v = record { forest = v.forest; into = v.into; ahead = λ a m. at a (v.ahead a m) }
  where
    at : (a : Arc) → (a ∈ table_arcs rows) ⊎ Ahead b (k - 1) a → (a ∈ table_arcs rows) ⊎ Ahead b k a
    at a (inl m) = inl m
    at a (inr t) = inr (ahead_down a t)

pub viability : Viability list_based start Viable
viability = record {
  ends = λ {c} w h good e. (ends_same (kept h) e w good, same_ends (kept h) e w good (arcs_forest lawful h).acyclic);
  back = λ {c} w m a h good v x. back w (makes c m a v) (kept h) x;
  on = λ {c} w h good u x. on_any c w good (kept h) u x;
}

-- the law of advice
pub guides : Guides list_based start
guides = viable_guides lawful viability (λ c w e. cond-true (finished c) None _ e)
    (λ c w f. none_either (finished c) (cond-false (is_good_table (words c) w) _ None (not_good (words c) w f)))

-- reachable, viable and made by the advice are one
pub exactly : ViableExactly list_based start Viable
exactly = viable_exactly lawful viability guides
