-- A move is permitted just where Nivre has a transition, and leads where that leads.
use Rattle.std.proofs.Common.{◌≡◌, ℕ, ◌+◌, ◌-◌, ◌<◌, ◌≤◌, false, List, ◌∷◌, length, Some, None, Ok, Err, Option, sym, refl, ap, ◌∙◌, subst, inl, arith, MatchResult}
use mathlib.Core.List.Memᴰ
use Rattle.std.specs.List.{range_with_len}
use Rattle.std.proofs.lemmas.Bool.{le-ltb, and_right, cond-false}
use Rattle.treebank.specs.declared.arcs.Arc.{Arc}
use Rattle.treebank.specs.declared.moves.Move.{Move}
use Rattle.treebank.specs.declared.moves.Move.TheVariants.{Shift, LeftArc, RightArc}
use Rattle.treebank.specs.declared.rows.Row.{Row}
use Rattle.treebank.specs.Tables.{arc, table_arcs}
use Rattle.treebank.specs.Trees.{Fresh}
use Rattle.transition.specs.Meaning.{Verdict}
use Rattle.transition.specs.Verdicts.{drawn}
use Rattle.transition.specs.Runs.{Arises}
use Rattle.arc_store.specs.Drawing.{put}
use Rattle.arc_store.proofs.Counting.{buffer_next, counts_from}
use Rattle.arc_store.proofs.Freshness.{fresh_verdict}
use Rattle.arc_store.proofs.Putting.{put_length, put_fresh}
use Rattle.arc_standard_theory.specs.Configurations.{Configuration, configuration, words, start, root_alone, finished, emptied}
use Rattle.arc_standard_theory.specs.Moves.{verdict, next, arc_standard}
use Rattle.arc_standard_theory.specs.Nivre.{Triple, triple, Transition, shown, AsDefined}
use Rattle.arc_standard_theory.proofs.Accepted.{Makes, makes}
use Rattle.arc_store.proofs.Verdicts.{impossible}
use Rattle.arc_standard_theory.proofs.Kept.{Kept, kept, In, none_above}

-- every accepted move is a transition
accepted : {c d : Configuration} {m : Move} {a : Option Arc} → Makes c m a d → words c ≤ 100 → Transition (shown c) m (shown d)
accepted (Makes.shift {b = b} {st = st} {w = w} h) small =
    subst (λ (β : List ℕ). Transition (triple st β (table_arcs w)) Shift (triple (b ∷ st) (range_with_len (b + 1) (length w + 1 - (b + 1))) (table_arcs w)))
    (sym (buffer_next (length w) b h)) (Transition.shift (λ x. (λ m. m, λ m. m)))
accepted (Makes.left {b = b} {j = j} {i = i} {l = l} {s = s} {w = w} f) small =
    subst (λ (n : ℕ). Transition (triple (j ∷ (i ∷ s)) (range_with_len b (length w + 1 - b)) (table_arcs w)) (LeftArc l) (triple (j ∷ s) (range_with_len b (n + 1 - b)) (table_arcs (put w (arc j l i)))))
    (sym (put_length w (arc j l i))) (Transition.left_arc (λ e. let t = f.joins.word.0 in omega arith) (put_fresh w (arc j l i) small f))
accepted (Makes.right {b = b} {j = j} {i = i} {l = l} {s = s} {w = w} f) small =
    subst (λ (n : ℕ). Transition (triple (j ∷ (i ∷ s)) (range_with_len b (length w + 1 - b)) (table_arcs w)) (RightArc l) (triple (i ∷ s) (range_with_len b (n + 1 - b)) (table_arcs (put w (arc i l j)))))
    (sym (put_length w (arc i l j))) (Transition.right_arc (put_fresh w (arc i l j) small f))

abbrev pub Permits : Configuration → Move → Type 0
Permits c m = (a : Option Arc) × (verdict c m ≡ Ok a)

-- an arc between the two nodes at the top may be drawn
module _ {b j i : ℕ} {s : List ℕ} {w : List Row} (k : Kept (configuration (j ∷ (i ∷ s)) b w)) where
  below_top : (i < j) × (j ≤ length w)
  below_top = let u = k.under in let p = u.0 in let q = u.1.0 in let r = k.upto in (q, omega arith)

  top_in : In (configuration (j ∷ (i ∷ s)) b w) j
  top_in = inl (Memᴰ.head refl)

  second_in : In (configuration (j ∷ (i ∷ s)) b w) i
  second_in = inl (Memᴰ.tail (Memᴰ.head refl))

  pub left_fresh : (l : ℕ) → (i ≡ 0 → ⊥) → Fresh (length w) (table_arcs w) (arc j l i)
  left_fresh l not = let (p, q) = below_top in record {
    joins = record { word = (omega arith, omega arith); head = q };
    headless = k.headless second_in;
    apart = λ e. omega arith;
    not_below = λ u. none_above k u top_in;
  }

  pub right_fresh : (l : ℕ) → Fresh (length w) (table_arcs w) (arc i l j)
  right_fresh l = let (p, q) = below_top in record {
    joins = record { word = (omega arith, q); head = omega arith };
    headless = k.headless top_in;
    apart = λ e. omega arith;
    not_below = λ u. none_above k u second_in;
  }

  pub left_permits : (l : ℕ) → (i ≡ 0 → ⊥) → Permits (configuration (j ∷ (i ∷ s)) b w) (LeftArc l)
  left_permits l not = (Some (arc j l i), ap drawn (fresh_verdict w (arc j l i) (left_fresh l not)))

  pub right_permits : (l : ℕ) → Permits (configuration (j ∷ (i ∷ s)) b w) (RightArc l)
  right_permits l = (Some (arc i l j), ap drawn (fresh_verdict w (arc i l j) (right_fresh l)))

-- where there is a transition the move is permitted
permitted : (c : Configuration) {t u : Triple} {m : Move} → Kept c → Transition t m u → t ≡ shown c → Permits c m
permitted c k (Transition.shift {i = i} {β = β} same) e =
    let (l, first) = counts_from c.front (words c + 1 - c.front) i β (ap (λ (x : Triple). x.B) e) in
    let f : emptied c ≡ false = le-ltb (words c) c.front (omega arith) in
    (None, cond-false (finished c) _ _ (and_right (root_alone c.stack) (emptied c) f) ∙ cond-false (emptied c) _ _ f)
permitted c k (Transition.left_arc {i = i} {j = j} {l = l} {σ = σ} not same) e =
    subst (λ (d : Configuration). Permits d (LeftArc l)) stacked (left_permits (subst Kept (sym stacked) k) l not)
  where
    stacked : configuration (j ∷ (i ∷ σ)) c.front c.rows ≡ c
    stacked = ap (λ (x : List ℕ). configuration x c.front c.rows) (ap (λ (x : Triple). x.Σ) e)
permitted c k (Transition.right_arc {i = i} {j = j} {l = l} {σ = σ} same) e =
    subst (λ (d : Configuration). Permits d (RightArc l)) stacked (right_permits (subst Kept (sym stacked) k) l)
  where
    stacked : configuration (j ∷ (i ∷ σ)) c.front c.rows ≡ c
    stacked = ap (λ (x : List ℕ). configuration x c.front c.rows) (ap (λ (x : Triple). x.Σ) e)

-- an answered move is as defined
pub defined : (c d : Configuration) (m : Move) (v : Verdict) → Arises arc_standard start c → v ≡ verdict c m → MatchResult v (λ _. d ≡ next c m) (λ _. d ≡ c) → AsDefined c m v d
defined c d m (Ok a) h e n = subst (λ (x : Configuration). Transition (shown c) m (shown x)) (sym n) (accepted (makes c m a (sym e)) (kept h).small)
defined c d m (Err f) h e n = (λ t s. let (a, p) = permitted c (kept h) s refl in impossible (e ∙ p), n)
