-- The way on from a viable configuration: an arc of the table between the two nodes is drawn, or they are apart.
use Rattle.std.proofs.Common.{◌≡◌, ℕ, ◌+◌, ◌<◌, ◌≤◌, ◌⊎◌, List, ◌∷◌, sym, ap, ◌∙◌, subst, inl, inr, arith}
use mathlib.Core.List.Memᴰ
use Rattle.std.proofs.lemmas.Bool.{cases_eq}
use Rattle.treebank.specs.declared.arcs.Arc.{Arc}
use Rattle.treebank.specs.declared.rows.Row.{Row}
use Rattle.treebank.specs.Tables.{arc, GoodTable, table_arcs}
use Rattle.treebank.specs.Trees.{◌∈◌, Heads, Acyclic, Fresh}
use Rattle.treebank.proofs.Said.{table_single}
use Rattle.treebank.proofs.Ways.{above_sub, no_way_back, no_loop, no_pair}
use Rattle.treebank.proofs.Goodness.{table_fits}
use Rattle.arc_store.specs.Drawing.{put}
use Rattle.arc_store.proofs.Putting.{put_fresh}
use Rattle.list_based_theory.specs.Configurations.{Configuration, configuration, words, last}
use Rattle.list_based_theory.specs.Moves.{passed_on}
use Rattle.list_based_theory.specs.Viable.{low, high, Ahead, Viable}
use Rattle.list_based_theory.proofs.Kept.{Kept, Behind}

-- an arc by its ends
pub heads_of : {W : List Arc} (a : Arc) {h d : ℕ} → a ∈ W → a.head ≡ h → a.word ≡ d → Heads W h d
heads_of {W} a m p q = (a.label, subst (λ (x : Arc). x ∈ W) (λ t. arc (p t) a.label (q t)) m)

pub arc_ends : {W : List Arc} (a : Arc) → a ∈ W → Heads W (high a) (low a) ⊎ Heads W (low a) (high a)
arc_ends {W} a m = at (cases_eq a.head (high a))
  where
    at : (a.head ≡ high a) ⊎ (a.head ≡ high a → ⊥) → Heads W (high a) (low a) ⊎ Heads W (low a) (high a)
    at (inl e) = inl (heads_of a m e (omega arith))
    at (inr e) = inr (heads_of a m (omega arith) (omega arith))

-- in a forest two arcs between the same nodes are into the same word
same_word : {W : List Arc} → Acyclic W → (a x : Arc) → a ∈ W → x ∈ W → high a ≡ high x → low a ≡ low x → (a.word ≡ x.word) ⊎ (a.word ≡ x.word → ⊥) → a.word ≡ x.word
same_word acyclic a x m n p q (inl e) = e
same_word acyclic a x m n p q (inr e) = absurd (no_pair {a = a} {b = x} acyclic m n (omega arith) (omega arith))

module _ (c : Configuration) (w : List Row) (k : Kept c) (good : GoodTable (words c) w) (v : Viable c w) where
  -- an arc of the table between the last node of the first list and the first word of the buffer
  module _ (some : 1 ≤ c.left) (x : Arc) (m : x ∈ table_arcs w) (p : high x ≡ c.front) (q : low x ≡ last c) where
    not_drawn : (b : Arc) → b ∈ table_arcs c.rows → b ≡ x → ⊥
    not_drawn b i e = at (k.passed b i)
      where
        at : Behind c.front c.left b → ⊥
        at (inl r) = omega (arith, ap high e)
        at (inr (r, s)) = omega (arith, ap low e)

    pub arc_fresh : Fresh (words c) (table_arcs c.rows) x
    arc_fresh = record {
      joins = (table_fits (words c) w good k.small x m).0;
      headless = λ b i e. not_drawn b i (table_single w b x (v.into b i) m e);
      apart = no_loop {a = x} v.forest m;
      not_below = λ u. no_way_back {a = x} v.forest m (above_sub v.into u);
    }

    pub arc_viable : Viable (passed_on c (put c.rows x)) w
    arc_viable = record { forest = v.forest; into = λ a i. old a (Memᴰ.cases_cons ((put_fresh c.rows x k.small arc_fresh a).0 i)); ahead = λ a i. at a i (v.ahead a i) }
      where
        old : (a : Arc) → (a ≡ x) ⊎ (a ∈ table_arcs c.rows) → a ∈ table_arcs w
        old a (inl e) = subst (λ (b : Arc). b ∈ table_arcs w) (sym e) m
        old a (inr i) = v.into a i

        new : (a : Arc) → a ∈ (x ∷ table_arcs c.rows) → (a ∈ table_arcs (put c.rows x)) ⊎ Ahead c.front (last c) a
        new a i = inl ((put_fresh c.rows x k.small arc_fresh a).1 i)

        near : (a : Arc) → a ∈ table_arcs w → high a ≡ c.front → low a < c.left → (low a ≡ last c) ⊎ (low a ≡ last c → ⊥) → (a ∈ table_arcs (put c.rows x)) ⊎ Ahead c.front (last c) a
        near a i r s (inl e) = new a (Memᴰ.head (table_single w a x i m (same_word v.forest a x i m (r ∙ sym p) (e ∙ sym q) (cases_eq a.word x.word))))
        near a i r s (inr e) = inr (inr (r, omega arith))

        at : (a : Arc) → a ∈ table_arcs w → (a ∈ table_arcs c.rows) ⊎ Ahead c.front c.left a → (a ∈ table_arcs (put c.rows x)) ⊎ Ahead c.front (last c) a
        at a i (inl j) = new a (Memᴰ.tail j)
        at a i (inr (inl r)) = inr (inl r)
        at a i (inr (inr (r, s))) = near a i r s (cases_eq (low a) (last c))

  -- no arc of the table joins the two
  module _ (far : Heads (table_arcs w) c.front (last c) ⊎ Heads (table_arcs w) (last c) c.front → ⊥) where
    none_near : (a : Arc) → a ∈ table_arcs w → high a ≡ c.front → low a ≡ last c → ⊥
    none_near a i r s = far (subst (λ (t : ℕ × ℕ). Heads (table_arcs w) t.0 t.1 ⊎ Heads (table_arcs w) t.1 t.0) (λ u. (r u, s u)) (arc_ends a i))

    pub pass_viable : Viable (passed_on c c.rows) w
    pass_viable = record { forest = v.forest; into = v.into; ahead = λ a i. at a i (v.ahead a i) }
      where
        near : (a : Arc) → a ∈ table_arcs w → high a ≡ c.front → low a < c.left → (low a ≡ last c) ⊎ (low a ≡ last c → ⊥) → (a ∈ table_arcs c.rows) ⊎ Ahead c.front (last c) a
        near a i r s (inl e) = absurd (none_near a i r e)
        near a i r s (inr e) = inr (inr (r, omega arith))

        at : (a : Arc) → a ∈ table_arcs w → (a ∈ table_arcs c.rows) ⊎ Ahead c.front c.left a → (a ∈ table_arcs c.rows) ⊎ Ahead c.front (last c) a
        at a i (inl j) = inl j
        at a i (inr (inl r)) = inr (inl r)
        at a i (inr (inr (r, s))) = near a i r s (cases_eq (low a) (last c))

  -- no arc of the table joins the first word of the buffer to a node of the first list
  pub shift_viable : ((x : ℕ) → x < c.left → Heads (table_arcs w) c.front x ⊎ Heads (table_arcs w) x c.front → ⊥) → Viable (configuration (c.front + 1) (c.front + 1) (c.made + 1) c.rows) w
  shift_viable none = record { forest = v.forest; into = v.into; ahead = λ a i. at a i (v.ahead a i) }
    where
      far : (a : Arc) → a ∈ table_arcs w → c.front < high a → (high a ≡ c.front + 1) ⊎ (high a ≡ c.front + 1 → ⊥) → Ahead (c.front + 1) (c.front + 1) a
      far a i r (inl e) = let l = no_loop {a = a} v.forest i in inr (e, omega arith)
      far a i r (inr e) = inl (omega arith)

      at : (a : Arc) → a ∈ table_arcs w → (a ∈ table_arcs c.rows) ⊎ Ahead c.front c.left a → (a ∈ table_arcs c.rows) ⊎ Ahead (c.front + 1) (c.front + 1) a
      at a i (inl j) = inl j
      at a i (inr (inl r)) = inr (far a i r (cases_eq (high a) (c.front + 1)))
      at a i (inr (inr (r, s))) = absurd (none (low a) s (subst (λ (t : ℕ). Heads (table_arcs w) t (low a) ⊎ Heads (table_arcs w) (low a) t) r (arc_ends a i)))
