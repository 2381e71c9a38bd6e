-- A move is permitted just where Nivre has a transition, and leads where that leads.
use Rattle.std.proofs.Common.{◌≡◌, ℕ, ◌+◌, ◌-◌, ◌<◌, false, List, [], ◌∷◌, length, is_some, Some, None, Ok, Err, Option, sym, refl, ap, ◌∙◌, subst, arith, MatchResult}
use mathlib.Core.List.Memᴰ
use Rattle.std.specs.List.{range_with_len}
use Rattle.std.proofs.lemmas.Bool.{ne_eqb, cond-true, cond-false}
use Rattle.treebank.specs.declared.arcs.Arc.{Arc}
use Rattle.treebank.specs.declared.moves.Move.{Move}
use Rattle.treebank.specs.declared.moves.Move.TheVariants.{Shift, LeftArc, RightArc, Reduce}
use Rattle.treebank.specs.declared.rows.Row.{Row}
use Rattle.treebank.specs.Tables.{arc, arc_into, table_arcs}
use Rattle.treebank.specs.Trees.{◌∈◌, Fresh}
use Rattle.treebank.proofs.Said.{mem_into, table_words}
use Rattle.treebank.proofs.Ways.{last_arc}
use Rattle.transition.specs.Meaning.{Verdict}
use Rattle.transition.specs.Verdicts.{drawn}
use Rattle.transition.specs.Runs.{Arises}
use Rattle.arc_store.specs.Drawing.{put}
use Rattle.arc_store.proofs.Counting.{counting_next, counts_from}
use Rattle.arc_store.proofs.Freshness.{fresh_verdict}
use Rattle.arc_store.proofs.Putting.{put_length, put_fresh}
use Rattle.arc_store.proofs.Verdicts.{impossible}
use Rattle.arc_eager_theory.specs.Configurations.{Configuration, configuration, words, start, finished, front}
use Rattle.arc_eager_theory.specs.Moves.{verdict, next, arc_eager}
use Rattle.arc_eager_theory.specs.Nivre.{Triple, triple, Headed, Transition, shown, AsDefined}
use Rattle.arc_eager_theory.proofs.Chains.{desc_below, above_mem}
use Rattle.arc_eager_theory.proofs.Kept.{Permitted, permitted, Kept, kept, inside}

-- the buffer without its first word
buffer_next : (n d : ℕ) → d < n → range_with_len (d + 1) (n - d) ≡ (d + 1) ∷ range_with_len (d + 1 + 1) (n - (d + 1))
buffer_next n d l = counting_next (d + 1) (n - d) (omega arith) ∙ (let e : n - d - 1 ≡ n - (d + 1) = omega arith in ap (λ (x : ℕ). (d + 1) ∷ range_with_len (d + 1 + 1) x) e)

-- every accepted move is a transition
module _ (d : ℕ) (rows : List Row) (inner : d < length rows) where
  shown_buffer : range_with_len (d + 1) (length rows - d) ≡ (d + 1) ∷ range_with_len (d + 1 + 1) (length rows - (d + 1))
  shown_buffer = buffer_next (length rows) d inner

  accepted : (i : ℕ) (s : List ℕ) (m : Move) (o : Option Arc) → Kept (configuration (i ∷ s) d rows) → Permitted (configuration (i ∷ s) d rows) m o →
      Transition (shown (configuration (i ∷ s) d rows)) m (shown (next (configuration (i ∷ s) d rows) m))
  accepted i s m o k Permitted.shift =
      subst (λ (β : List ℕ). Transition (triple (i ∷ s) β (table_arcs rows)) Shift (triple ((d + 1) ∷ (i ∷ s)) (range_with_len (d + 1 + 1) (length rows - (d + 1))) (table_arcs rows))) (sym shown_buffer)
      (Transition.shift (λ x. (λ n. n, λ n. n)))
  accepted i s m o k (Permitted.left {l = l} f) =
      subst (λ (n : ℕ). Transition (triple (i ∷ s) (range_with_len (d + 1) (length rows - d)) (table_arcs rows)) (LeftArc l) (triple s (range_with_len (d + 1) (n - d)) (table_arcs (put rows (arc (d + 1) l i)))))
      (sym (put_length rows (arc (d + 1) l i)))
      (subst (λ (β : List ℕ). Transition (triple (i ∷ s) β (table_arcs rows)) (LeftArc l) (triple s β (table_arcs (put rows (arc (d + 1) l i))))) (sym shown_buffer)
      (Transition.left_arc (λ e. let t = f.joins.word.0 in omega arith) (λ (a, n, e). f.headless a n e) (put_fresh rows (arc (d + 1) l i) k.small f)))
  accepted i s m o k (Permitted.right {l = l} f) =
      subst (λ (n : ℕ). Transition (triple (i ∷ s) (range_with_len (d + 1) (length rows - d)) (table_arcs rows)) (RightArc l) (triple ((d + 1) ∷ (i ∷ s)) (range_with_len (d + 1 + 1) (n - (d + 1))) (table_arcs (put rows (arc i l (d + 1))))))
      (sym (put_length rows (arc i l (d + 1))))
      (subst (λ (β : List ℕ). Transition (triple (i ∷ s) β (table_arcs rows)) (RightArc l) (triple ((d + 1) ∷ (i ∷ s)) (range_with_len (d + 1 + 1) (length rows - (d + 1))) (table_arcs (put rows (arc i l (d + 1)))))) (sym shown_buffer)
      (Transition.right_arc (put_fresh rows (arc i l (d + 1)) k.small f)))
  accepted i s m o k (Permitted.reduce {a = a} n e) =
      subst (λ (β : List ℕ). Transition (triple (i ∷ s) β (table_arcs rows)) Reduce (triple s β (table_arcs rows))) (sym shown_buffer)
      (Transition.reduce (a, n, e) (λ x. (λ q. q, λ q. q)))

accepted_any : (st : List ℕ) (d : ℕ) (rows : List Row) (m : Move) (o : Option Arc) → Kept (configuration st d rows) → d < length rows → Permitted (configuration st d rows) m o →
    Transition (shown (configuration st d rows)) m (shown (next (configuration st d rows) m))
accepted_any [] d rows m o k inner p = absurd (let e = k.desc in omega arith)
accepted_any (i ∷ s) d rows m o k inner p = accepted d rows inner i s m o k p

abbrev pub Permits : Configuration → Move → Type 0
Permits c m = (a : Option Arc) × (verdict c m ≡ Ok a)

-- an arc between the top and the buffer's first word may be drawn
module _ {d i : ℕ} {s : List ℕ} {rows : List Row} (k : Kept (configuration (i ∷ s) d rows)) (inner : d < length rows) where
  open_yet : finished (configuration (i ∷ s) d rows) ≡ false
  open_yet = ne_eqb d (length rows) (λ e. omega arith)

  no_head : (a : Arc) → a ∈ table_arcs rows → a.word ≡ d + 1 → ⊥
  no_head a m e = let b = k.buffer a m in omega arith

  pub left_fresh : (l : ℕ) → (i ≡ 0 → ⊥) → (Headed (table_arcs rows) i → ⊥) → Fresh (length rows) (table_arcs rows) (arc (d + 1) l i)
  left_fresh l not free = let t = k.desc.0 in record {
    joins = record { word = (omega arith, omega arith); head = omega arith };
    headless = λ a m e. free (a, m, e);
    apart = λ e. omega arith;
    not_below = λ u. let (a, m, e) = last_arc u in no_head a m e;
  }

  pub right_fresh : (l : ℕ) → Fresh (length rows) (table_arcs rows) (arc i l (d + 1))
  right_fresh l = let t = k.desc.0 in record {
    joins = record { word = (omega arith, omega arith); head = omega arith };
    headless = no_head;
    apart = λ e. omega arith;
    not_below = λ u. let b = desc_below (d + 1) (i ∷ s) k.desc (d + 1) (above_mem (table_arcs rows) (d + 1) (i ∷ s) k.desc k.chain (λ a m. (table_words rows a m).0) u (Memᴰ.head refl)) in omega arith;
  }

  pub left_permits : (l : ℕ) → Fresh (length rows) (table_arcs rows) (arc (d + 1) l i) → verdict (configuration (i ∷ s) d rows) (LeftArc l) ≡ Ok (Some (arc (d + 1) l i))
  left_permits l f = cond-false (finished (configuration (i ∷ s) d rows)) _ _ open_yet ∙ ap drawn (fresh_verdict rows (arc (d + 1) l i) f)

  pub right_permits : (l : ℕ) → verdict (configuration (i ∷ s) d rows) (RightArc l) ≡ Ok (Some (arc i l (d + 1)))
  right_permits l = cond-false (finished (configuration (i ∷ s) d rows)) _ _ open_yet ∙ ap drawn (fresh_verdict rows (arc i l (d + 1)) (right_fresh l))

  pub reduce_permits : (a : Arc) → a ∈ table_arcs rows → a.word ≡ i → verdict (configuration (i ∷ s) d rows) Reduce ≡ Ok None
  reduce_permits a m e = cond-false (finished (configuration (i ∷ s) d rows)) _ _ open_yet ∙ cond-true (is_some (arc_into rows i)) _ _ (ap is_some (ap (arc_into rows) (sym e) ∙ mem_into rows m))

-- where the buffer has a word
front_word : (c : Configuration) (j : ℕ) (β : List ℕ) → j ∷ β ≡ range_with_len (front c) (words c - c.done) → (c.done < words c) × (j ≡ front c)
front_word c j β e = let (l, f) = counts_from (front c) (words c - c.done) j β e in (omega arith, f)

-- where there is a transition the move is permitted
allowed : (c : Configuration) {t u : Triple} {m : Move} → Kept c → Transition t m u → t ≡ shown c → Permits c m
allowed c k (Transition.shift {j = j} {β = β} same) e =
    let (l, f) = front_word c j β (ap (λ (x : Triple). x.B) e) in
    (None, cond-false (finished c) _ _ (ne_eqb c.done (words c) (λ z. omega arith)))
allowed c k (Transition.left_arc {i = i} {j = j} {l = l} {σ = σ} {β = β} {before = before} not free same) e =
    let (inner, f) = front_word c j β (ap (λ (x : Triple). x.B) e) in
    subst (λ (x : Configuration). Permits x (LeftArc l)) stacked (
      Some (arc (c.done + 1) l i),
      left_permits (subst Kept (sym stacked) k) inner l (left_fresh (subst Kept (sym stacked) k) inner l not (subst (λ (as' : List Arc). Headed as' i → ⊥) (ap (λ (x : Triple). x.arcs) e) free)),
    )
  where
    stacked : configuration (i ∷ σ) c.done c.rows ≡ c
    stacked = ap (λ (x : List ℕ). configuration x c.done c.rows) (ap (λ (x : Triple). x.Σ) e)
allowed c k (Transition.right_arc {i = i} {j = j} {l = l} {σ = σ} {β = β} same) e =
    let (inner, f) = front_word c j β (ap (λ (x : Triple). x.B) e) in
    subst (λ (x : Configuration). Permits x (RightArc l)) stacked (Some (arc i l (c.done + 1)), right_permits (subst Kept (sym stacked) k) inner l)
  where
    stacked : configuration (i ∷ σ) c.done c.rows ≡ c
    stacked = ap (λ (x : List ℕ). configuration x c.done c.rows) (ap (λ (x : Triple). x.Σ) e)
allowed c k (Transition.reduce {i = i} {j = j} {σ = σ} {β = β} headed same) e =
    let (inner, f) = front_word c j β (ap (λ (x : Triple). x.B) e) in
    let (a, m, t) = subst (λ (as' : List Arc). Headed as' i) (ap (λ (x : Triple). x.arcs) e) headed in
    subst (λ (x : Configuration). Permits x Reduce) stacked (None, reduce_permits (subst Kept (sym stacked) k) inner a m t)
  where
    stacked : configuration (i ∷ σ) c.done c.rows ≡ c
    stacked = ap (λ (x : List ℕ). configuration x c.done c.rows) (ap (λ (x : Triple). x.Σ) e)

-- an answered move is as defined
pub defined : (c d : Configuration) (m : Move) (v : Verdict) → Arises arc_eager start c → v ≡ verdict c m → MatchResult v (λ _. d ≡ next c m) (λ _. d ≡ c) → AsDefined c m v d
defined c d m (Ok a) h e n =
    let (u, p) = permitted c m a (sym e) in
    subst (λ (x : Configuration). Transition (shown c) m (shown x)) (sym n) (accepted_any c.stack c.done c.rows m a (kept h) (inside (kept h) u) p)
defined c d m (Err f) h e n = (λ t s. let (a, p) = allowed c (kept h) s refl in impossible (e ∙ p), n)
