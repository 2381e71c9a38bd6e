-- What is viable ends in the table's arcs, and goes back over each permitted move.
use Rattle.std.proofs.Common.{◌≡◌, ℕ, ◌+◌, ◌<◌, ◌≤◌, min, max, true, ◌⊎◌, ◌↔◌, List, [], ◌∷◌, Option, sym, refl, ◌∙◌, subst, inl, inr, arith}
use mathlib.Core.List.Memᴰ
use mathlib.Core.List.{Memᴰ}
use Rattle.std.proofs.lemmas.Bool.{cases_eq, eqb-true}
use Rattle.treebank.specs.declared.arcs.Arc.{Arc}
use Rattle.treebank.specs.declared.moves.Move.{Move}
use Rattle.treebank.specs.declared.rows.Row.{Row}
use Rattle.treebank.specs.Tables.{arc, GoodTable, table_arcs}
use Rattle.treebank.specs.Trees.{◌∈◌, Above, Acyclic, Between, SameArcs}
use Rattle.treebank.proofs.Said.{table_words}
use Rattle.treebank.proofs.Ways.{above_sub}
use Rattle.treebank.proofs.Goodness.{table_fits}
use Rattle.arc_store.specs.Drawing.{put}
use Rattle.arc_store.proofs.Putting.{put_fresh}
use Rattle.arc_eager_theory.specs.Configurations.{Configuration, configuration, words, finished, top}
use Rattle.arc_eager_theory.specs.Moves.{next}
use Rattle.arc_eager_theory.specs.Viable.{InPlay, Open, Viable}
use Rattle.arc_eager_theory.proofs.Chains.{Desc, desc_below, top_most, top_under}
use Rattle.arc_eager_theory.proofs.Kept.{Permitted, Kept}

-- a shift leaves the nodes in play
pub shift_in : (d : ℕ) (st : List ℕ) (y : ℕ) → InPlay (d + 1) ((d + 1) ∷ st) y → InPlay d st y
shift_in d st y (inr p) = inr (omega arith)
shift_in d st y (inl m) = at (Memᴰ.cases_cons m)
  where
    at : (y ≡ d + 1) ⊎ Memᴰ y st → InPlay d st y
    at (inl e) = inr (omega arith)
    at (inr n) = inl n

pub shift_out : (d : ℕ) (st : List ℕ) (y : ℕ) → InPlay d st y → InPlay (d + 1) ((d + 1) ∷ st) y
shift_out d st y (inl m) = inl (Memᴰ.tail m)
shift_out d st y (inr p) = at (cases_eq y (d + 1))
  where
    at : (y ≡ d + 1) ⊎ (y ≡ d + 1 → ⊥) → InPlay (d + 1) ((d + 1) ∷ st) y
    at (inl e) = inl (Memᴰ.head e)
    at (inr e) = inr (omega arith)

pub pop_in : (d i : ℕ) (s : List ℕ) (y : ℕ) → InPlay d s y → InPlay d (i ∷ s) y
pop_in d i s y (inl m) = inl (Memᴰ.tail m)
pop_in d i s y (inr p) = inr p

open_shift : {d : ℕ} {st : List ℕ} {wanted : List Arc} {a : Arc} → Open (d + 1) ((d + 1) ∷ st) wanted a → Open d st wanted a
open_shift {d} {st} {a = a} o = record {
  head = shift_in d st a.head o.head;
  word = shift_in d st a.word o.word;
  later = let l = o.later in omega arith;
  between = λ y p b. o.between y (shift_out d st y p) b;
}

-- a word right beside its head comes under what the head comes under
beside : (d : ℕ) (st : List ℕ) (wanted : List Arc) (x : Arc) → x ∈ wanted → InPlay d st x.head → ((y : ℕ) → InPlay d st y → (y ≤ min x.head x.word) ⊎ (max x.head x.word ≤ y)) →
    (a : Arc) → a ∈ wanted → Open d st wanted a → Between a.head x.word a.word → Above wanted a.head x.word
beside d st wanted x m p none a n o b = at (cases_eq x.head a.head) (cases_eq x.head a.word)
  where
    between : Between a.head x.word a.word → (x.head ≡ a.head → ⊥) → (x.head ≡ a.word → ⊥) → Between a.head x.head a.word
    between (inl q) e f = let u = none a.head o.head in let v = none a.word o.word in inl (omega arith, omega arith)
    between (inr q) e f = let u = none a.head o.head in let v = none a.word o.word in inr (omega arith, omega arith)

    at : (x.head ≡ a.head) ⊎ (x.head ≡ a.head → ⊥) → (x.head ≡ a.word) ⊎ (x.head ≡ a.word → ⊥) → Above wanted a.head x.word
    at (inl e) f = subst (λ (h : ℕ). Above wanted h x.word) e (Above.one m)
    at (inr e) (inl f) = Above.more (subst (Above wanted a.head) (sym f) (Above.one n)) m
    at (inr e) (inr f) = Above.more (o.between x.head p (between b e f)) m

open_pop : (d i : ℕ) (s : List ℕ) (wanted : List Arc) (x : Arc) → x ∈ wanted → x.word ≡ i → InPlay d s x.head → ((y : ℕ) → InPlay d s y → (y ≤ min x.head x.word) ⊎ (max x.head x.word ≤ y)) →
    (a : Arc) → a ∈ wanted → Open d s wanted a → Open d (i ∷ s) wanted a
open_pop d i s wanted x m e p none a n o = record {
  head = pop_in d i s a.head o.head;
  word = pop_in d i s a.word o.word;
  later = o.later;
  between = λ y q b. at y b q;
}
  where
    mem : (y : ℕ) → Between a.head y a.word → (y ≡ i) ⊎ Memᴰ y s → Above wanted a.head y
    mem y b (inl f) = let g : x.word ≡ y = e ∙ sym f in subst (Above wanted a.head) g (beside d s wanted x m p none a n o (subst (λ (z : ℕ). Between a.head z a.word) (sym g) b))
    mem y b (inr q) = o.between y (inl q) b

    at : (y : ℕ) → Between a.head y a.word → InPlay d (i ∷ s) y → Above wanted a.head y
    at y b (inl q) = mem y b (Memᴰ.cases_cons q)
    at y b (inr q) = o.between y (inr q) b

-- an arc between the top of the stack and the first word of the buffer is still to come
open_new : (d i : ℕ) (s : List ℕ) (wanted : List Arc) (x : Arc) → Desc (d + 1) (i ∷ s) → ((x.head ≡ i) × (x.word ≡ d + 1)) ⊎ ((x.head ≡ d + 1) × (x.word ≡ i)) → Open d (i ∷ s) wanted x
open_new d i s wanted x h ends = record {
  head = at x.head (first ends);
  word = at x.word (second ends);
  later = let l = h.0 in omega arith;
  between = λ y p b. absurd (none y b p);
}
  where
    first : ((x.head ≡ i) × (x.word ≡ d + 1)) ⊎ ((x.head ≡ d + 1) × (x.word ≡ i)) → (x.head ≡ i) ⊎ (x.head ≡ d + 1)
    first (inl e) = inl e.0
    first (inr e) = inr e.0

    second : ((x.head ≡ i) × (x.word ≡ d + 1)) ⊎ ((x.head ≡ d + 1) × (x.word ≡ i)) → (x.word ≡ i) ⊎ (x.word ≡ d + 1)
    second (inl e) = inr e.1
    second (inr e) = inl e.1

    at : (y : ℕ) → (y ≡ i) ⊎ (y ≡ d + 1) → InPlay d (i ∷ s) y
    at y (inl e) = inl (Memᴰ.head e)
    at y (inr e) = inr (omega arith)

    none : (y : ℕ) → Between x.head y x.word → InPlay d (i ∷ s) y → ⊥
    none y b (inl m) = let t = top_most (d + 1) (i ∷ s) h y m in let l = h.0 in omega arith
    none y b (inr p) = let l = h.0 in omega arith

-- one arc more on the way back
arc_back : (w : List Row) (x : Arc) {c : Configuration} {d : ℕ} {st : List ℕ} → SameArcs (table_arcs (put c.rows x)) (x ∷ table_arcs c.rows) → Viable (configuration st d (put c.rows x)) w →
    Open c.done c.stack (table_arcs w) x → ((a : Arc) → a ∈ table_arcs w → Open d st (table_arcs w) a → Open c.done c.stack (table_arcs w) a) → Viable c w
arc_back w x {c} {d} {st} same v new old = record { within = λ a m. v.within a ((same a).1 (Memᴰ.tail m)); forest = v.forest; open_arcs = λ a m. at a m (v.open_arcs a m) }
  where
    drawn : (a : Arc) → (a ≡ x) ⊎ (a ∈ table_arcs c.rows) → (a ∈ table_arcs c.rows) ⊎ Open c.done c.stack (table_arcs w) a
    drawn a (inl e) = inr (subst (Open c.done c.stack (table_arcs w)) (sym e) new)
    drawn a (inr m) = inl m

    at : (a : Arc) → a ∈ table_arcs w → (a ∈ table_arcs (put c.rows x)) ⊎ Open d st (table_arcs w) a → (a ∈ table_arcs c.rows) ⊎ Open c.done c.stack (table_arcs w) a
    at a m (inl n) = drawn a (Memᴰ.cases_cons ((same a).0 n))
    at a m (inr o) = inr (old a m o)

plain_back : (w : List Row) {c : Configuration} {d : ℕ} {st : List ℕ} → Viable (configuration st d c.rows) w →
    ((a : Arc) → a ∈ table_arcs w → Open d st (table_arcs w) a → Open c.done c.stack (table_arcs w) a) → Viable c w
plain_back w {c} {d} {st} v old = record { within = v.within; forest = v.forest; open_arcs = λ a m. at a m (v.open_arcs a m) }
  where
    at : (a : Arc) → a ∈ table_arcs w → (a ∈ table_arcs c.rows) ⊎ Open d st (table_arcs w) a → (a ∈ table_arcs c.rows) ⊎ Open c.done c.stack (table_arcs w) a
    at a m (inl n) = inl n
    at a m (inr o) = inr (old a m o)

module _ (d : ℕ) (rows w : List Row) where
  back_on : (i : ℕ) (s : List ℕ) (m : Move) (o : Option Arc) → Kept (configuration (i ∷ s) d rows) → Permitted (configuration (i ∷ s) d rows) m o → Viable (next (configuration (i ∷ s) d rows) m) w → Viable (configuration (i ∷ s) d rows) w
  back_on i s m o k Permitted.shift v = plain_back w {c = configuration (i ∷ s) d rows} v (λ a p q. open_shift q)
  back_on i s m o k (Permitted.left {l = l} f) v =
      let x = arc (d + 1) l i in
      let same = put_fresh rows x k.small f in
      arc_back w x {c = configuration (i ∷ s) d rows} same v (open_new d i s (table_arcs w) x k.desc (inr (refl, refl)))
      (λ a p q. open_pop d i s (table_arcs w) x (v.within x ((same x).1 (Memᴰ.head refl))) refl (inr (omega arith)) near a p q)
    where
      near : (y : ℕ) → InPlay d s y → (y ≤ min (d + 1) i) ⊎ (max (d + 1) i ≤ y)
      near y (inl m) = let t = k.desc.0 in let b = desc_below i s k.desc.1 y m in inl (omega arith)
      near y (inr m) = let t = k.desc.0 in inr (omega arith)
  back_on i s m o k (Permitted.right {l = l} f) v =
      let x = arc i l (d + 1) in
      arc_back w x {c = configuration (i ∷ s) d rows} (put_fresh rows x k.small f) v (open_new d i s (table_arcs w) x k.desc (inl (refl, refl))) (λ a p q. open_shift q)
  back_on i s m o k (Permitted.reduce {a = x} p e) v =
      plain_back w {c = configuration (i ∷ s) d rows} v (λ a u q. open_pop d i s (table_arcs w) x (v.within x p) e (inl (subst (λ (z : ℕ). Memᴰ z s) (sym under_it) ups.1)) near a u q)
    where
      under_it : x.head ≡ top s
      under_it = k.chain.0 x p e

      ups : (top s < i) × Memᴰ (top s) s
      ups = top_under i s k.desc.1 (let f = (table_words rows x p).0 in omega arith)

      near : (y : ℕ) → InPlay d s y → (y ≤ min x.head x.word) ⊎ (max x.head x.word ≤ y)
      near y (inl m) = let t = under_it in let u = ups.0 in let b = top_most i s k.desc.1 y m in inl (omega arith)
      near y (inr m) = let t = under_it in let u = ups.0 in let r = k.desc.0 in inr (omega arith)

  pub back : (st : List ℕ) (m : Move) (o : Option Arc) → Kept (configuration st d rows) → Permitted (configuration st d rows) m o → Viable (next (configuration st d rows) m) w → Viable (configuration st d rows) w
  back [] m o k p v = absurd (let e = k.desc in omega arith)
  back (i ∷ s) m o k p v = back_on i s m o k p v

pub ends : {c : Configuration} (w : List Row) → Kept c → Acyclic (table_arcs c.rows) → GoodTable (words c) w → finished c ≡ true → Viable c w ↔ SameArcs (table_arcs c.rows) (table_arcs w)
ends {c} w k acyclic good e = (
  λ v a. (v.within a, λ m. at a m (v.open_arcs a m)),
  λ s. record {
    within = λ a. (s a).0;
    forest = λ x p. acyclic x (above_sub (λ b. (s b).1) p);
    open_arcs = λ a m. inl ((s a).1 m);
  },
)
  where
    at : (a : Arc) → a ∈ table_arcs w → (a ∈ table_arcs c.rows) ⊎ Open c.done c.stack (table_arcs w) a → a ∈ table_arcs c.rows
    at a m (inl p) = p
    at a m (inr o) =
        let (joins, label) = table_fits (words c) w good k.small a m in
        let hi = joins.word.1 in let up = joins.head in let l = o.later in
        absurd (omega (arith, eqb-true c.done (words c) e))
