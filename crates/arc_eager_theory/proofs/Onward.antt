-- The advice stays within what is viable.
use Rattle.std.proofs.Common.{◌≡◌, ℕ, ◌+◌, ◌<◌, ◌≤◌, max, ◌⊎◌, List, ◌∷◌, sym, refl, ap, ◌∙◌, subst, inl, inr, arith}
use mathlib.Core.List.Memᴰ
use mathlib.Core.List.{Memᴰ}
use Rattle.std.proofs.lemmas.Bool.{cases_eq, cases_lt}
use Rattle.treebank.specs.declared.arcs.Arc.{Arc}
use Rattle.treebank.specs.declared.rows.Row.{Row}
use Rattle.treebank.specs.Tables.{table_arcs}
use Rattle.treebank.specs.Trees.{◌∈◌, Above, SameArcs}
use Rattle.treebank.proofs.Said.{table_single, table_words}
use Rattle.treebank.proofs.Ways.{last_arc, no_circle, no_way_back, no_loop, no_pair, peel_arc}
use Rattle.arc_store.specs.Drawing.{put}
use Rattle.arc_eager_theory.specs.Configurations.{configuration}
use Rattle.arc_eager_theory.specs.Viable.{InPlay, Open, Viable}
use Rattle.arc_eager_theory.proofs.Chains.{desc_below, top_low, chain_mem}
use Rattle.arc_eager_theory.proofs.Kept.{Kept}
use Rattle.arc_eager_theory.proofs.Back.{shift_in, shift_out, pop_in}

-- what is in play, one by one
in_cases : (d i : ℕ) (s : List ℕ) (y : ℕ) → InPlay d (i ∷ s) y → (y ≡ i) ⊎ InPlay d s y
in_cases d i s y (inr p) = inr (inr p)
in_cases d i s y (inl m) = at (Memᴰ.cases_cons m)
  where
    at : (y ≡ i) ⊎ Memᴰ y s → (y ≡ i) ⊎ InPlay d s y
    at (inl e) = inl e
    at (inr n) = inr (inl n)

pop_out : (d i : ℕ) (s : List ℕ) (y : ℕ) → InPlay d (i ∷ s) y → (y ≡ i → ⊥) → InPlay d s y
pop_out d i s y p e = at (in_cases d i s y p)
  where
    at : (y ≡ i) ⊎ InPlay d s y → InPlay d s y
    at (inl f) = absurd (e f)
    at (inr q) = q

-- an arc that the next word does not end is still to come after that word
open_on : {d : ℕ} {st : List ℕ} {wanted : List Arc} {a : Arc} → Open d st wanted a → d + 1 < max a.head a.word → Open (d + 1) ((d + 1) ∷ st) wanted a
open_on {d} {st} {a = a} o l = record {
  head = shift_out d st a.head o.head;
  word = shift_out d st a.word o.word;
  later = l;
  between = λ y p b. o.between y (shift_in d st y p) b;
}

-- an arc that does not end in the top is still to come after the top is gone
open_off : {d i : ℕ} {s : List ℕ} {wanted : List Arc} {a : Arc} → Open d (i ∷ s) wanted a → (a.head ≡ i → ⊥) → (a.word ≡ i → ⊥) → Open d s wanted a
open_off {d} {i} {s} {a = a} o p q = record {
  head = pop_out d i s a.head o.head p;
  word = pop_out d i s a.word o.word q;
  later = o.later;
  between = λ y r b. o.between y (pop_in d i s y r) b;
}

-- the arc joins the first word of the buffer to a node of the list
abbrev pub Joined : ℕ → List ℕ → Arc → Type 0
Joined d s a = ((a.word ≡ d + 1) × Memᴰ a.head s) ⊎ ((a.head ≡ d + 1) × Memᴰ a.word s)

module _ (d i : ℕ) (s : List ℕ) (rows w : List Row) (k : Kept (configuration (i ∷ s) d rows)) (v : Viable (configuration (i ∷ s) d rows) w) where
  -- what may be said of an arc of the table
  abbrev Wanted : Arc → Type 0
  Wanted a = a ∈ table_arcs w

  abbrev Coming : Arc → Type 0
  Coming a = Open d (i ∷ s) (table_arcs w) a

  low_top : i < d + 1
  low_top = k.desc.0

  deep : (y : ℕ) → Memᴰ y s → y < i
  deep y m = desc_below i s k.desc.1 y m

  top_in : InPlay d (i ∷ s) i
  top_in = inl (Memᴰ.head refl)

  front_in : InPlay d (i ∷ s) (d + 1)
  front_in = inr (omega arith)

  -- an arc that is to come from the top goes past the first word of the buffer
  past : (b : Arc) → Coming b → b.head ≡ i → (b.word ≡ d + 1 → ⊥) → Above (table_arcs w) i (d + 1)
  past b o e f =
      let l = low_top in let t = o.later in
      subst (λ (h : ℕ). Above (table_arcs w) h (d + 1)) e (o.between (d + 1) front_in (inl (omega arith, omega arith)))

  within_more : (x : Arc) → Wanted x → (a : Arc) → (a ≡ x) ⊎ (a ∈ table_arcs rows) → Wanted a
  within_more x m a (inl e) = subst Wanted (sym e) m
  within_more x m a (inr j) = v.within a j

  -- the first word of the buffer is the head of the top
  module _ (x : Arc) (m : Wanted x) (h : x.head ≡ d + 1) (e : x.word ≡ i) where
    -- no arc enters the top yet
    pub left_free : (b : Arc) → b ∈ table_arcs rows → b.word ≡ i → ⊥
    left_free b j q =
        let same : b ≡ x = table_single w b x (v.within b j) m (q ∙ sym e) in
        let r : b.head ≡ d + 1 = ap (λ (a : Arc). a.head) same ∙ h in
        let t = k.chain.0 b j q in let u = top_low i s k.desc.1 in let l = low_top in omega arith

    left_head : (b : Arc) → Wanted b → Coming b → b.head ≡ i → (b.word ≡ d + 1) ⊎ (b.word ≡ d + 1 → ⊥) → ⊥
    left_head b j o f (inl t) = no_pair v.forest m j (f ∙ sym e) (t ∙ sym h)
    left_head b j o f (inr t) = no_way_back v.forest m (subst (λ (y : ℕ). Above (table_arcs w) y x.head) (sym e) (subst (Above (table_arcs w) i) (sym h) (past b o f t)))

    pub left_viable : SameArcs (table_arcs (put rows x)) (x ∷ table_arcs rows) → Viable (configuration s d (put rows x)) w
    left_viable same = record { within = λ a j. within_more x m a (Memᴰ.cases_cons ((same a).0 j)); forest = v.forest; open_arcs = λ a j. at a j (v.open_arcs a j) }
      where
        off : (a : Arc) → Wanted a → Coming a → (a.word ≡ i) ⊎ (a.word ≡ i → ⊥) → (a ∈ table_arcs (put rows x)) ⊎ Open d s (table_arcs w) a
        off a j o (inl f) = inl ((same a).1 (Memᴰ.head (table_single w a x j m (f ∙ sym e))))
        off a j o (inr f) = inr (open_off o (λ t. left_head a j o t (cases_eq a.word (d + 1))) f)

        at : (a : Arc) → Wanted a → (a ∈ table_arcs rows) ⊎ Coming a → (a ∈ table_arcs (put rows x)) ⊎ Open d s (table_arcs w) a
        at a j (inl q) = inl ((same a).1 (Memᴰ.tail q))
        at a j (inr o) = off a j o (cases_eq a.word i)

  -- the top is the head of the first word of the buffer
  module _ (x : Arc) (m : Wanted x) (h : x.head ≡ i) (e : x.word ≡ d + 1) where
    pub right_viable : SameArcs (table_arcs (put rows x)) (x ∷ table_arcs rows) → Viable (configuration ((d + 1) ∷ (i ∷ s)) (d + 1) (put rows x)) w
    right_viable same = record { within = λ a j. within_more x m a (Memᴰ.cases_cons ((same a).0 j)); forest = v.forest; open_arcs = λ a j. at a j (v.open_arcs a j) }
      where
        under : (a : Arc) → Wanted a → Coming a → a.head ≡ d + 1 → a.word < d + 1 → (a.word ≡ i) ⊎ InPlay d s a.word → ⊥
        under a j o f l (inl t) = no_pair v.forest m j (f ∙ sym e) (t ∙ sym h)
        under a j o f l (inr (inl t)) =
            let q = deep a.word t in let r = low_top in
            let up : Above (table_arcs w) a.head i = o.between i top_in (inr (q, omega arith)) in
            no_way_back v.forest m (subst (Above (table_arcs w) x.word) (sym h) (subst (λ (y : ℕ). Above (table_arcs w) y i) (f ∙ sym e) up))
        under a j o f l (inr (inr t)) = omega arith

        late : (a : Arc) → Wanted a → Coming a → (a.word ≡ d + 1 → ⊥) → (d + 1 < max a.head a.word) ⊎ (max a.head a.word ≤ d + 1) → d + 1 < max a.head a.word
        late a j o f (inl l) = l
        late a j o f (inr l) = let t = o.later in absurd (under a j o (omega arith) (omega arith) (in_cases d i s a.word o.word))

        off : (a : Arc) → Wanted a → Coming a → (a.word ≡ d + 1) ⊎ (a.word ≡ d + 1 → ⊥) → (a ∈ table_arcs (put rows x)) ⊎ Open (d + 1) ((d + 1) ∷ (i ∷ s)) (table_arcs w) a
        off a j o (inl f) = inl ((same a).1 (Memᴰ.head (table_single w a x j m (f ∙ sym e))))
        off a j o (inr f) = inr (open_on o (late a j o f (cases_lt (d + 1) (max a.head a.word))))

        at : (a : Arc) → Wanted a → (a ∈ table_arcs rows) ⊎ Coming a → (a ∈ table_arcs (put rows x)) ⊎ Open (d + 1) ((d + 1) ∷ (i ∷ s)) (table_arcs w) a
        at a j (inl q) = inl ((same a).1 (Memᴰ.tail q))
        at a j (inr o) = off a j o (cases_eq a.word (d + 1))

  -- an arc that joins the first word of the buffer to a node under the top goes over the top
  over_top : (y : Arc) → Wanted y → Joined d s y → Coming y → Above (table_arcs w) y.head i
  over_top y m (inl (e, q)) o = let t = deep y.head q in let l = low_top in o.between i top_in (inl (t, omega arith))
  over_top y m (inr (e, q)) o = let t = deep y.word q in let l = low_top in o.between i top_in (inr (t, omega arith))

  joined_comes : (y : Arc) → Wanted y → Joined d s y → Coming y
  joined_comes y m p = at p (v.open_arcs y m)
    where
      at : Joined d s y → (y ∈ table_arcs rows) ⊎ Coming y → Coming y
      at p (inr o) = o
      at (inl (e, q)) (inl j) = let t = k.buffer y j in absurd (omega arith)
      at (inr (e, q)) (inl j) = let t = desc_below (d + 1) (i ∷ s) k.desc y.head (chain_mem (table_arcs rows) (d + 1) (i ∷ s) k.desc k.chain y j (table_words rows y j).0 (Memᴰ.tail q)) in absurd (omega arith)

  -- no arc of the table leads from the top to the first word of the buffer
  module _ (no_right : (a : Arc) → Wanted a → a.head ≡ i → a.word ≡ d + 1 → ⊥) where
    -- the top has a head, and the first word of the buffer is joined to a node under the top
    module _ (x : Arc) (q : x ∈ table_arcs rows) (e : x.word ≡ i) (y : Arc) (m : Wanted y) (j : Joined d s y) where
      round : Above (table_arcs w) i (d + 1) → Joined d s y → ⊥
      round up (inl (f, p)) = at (peel_arc (table_single w) up y m f)
        where
          at : (i ≡ y.head) ⊎ Above (table_arcs w) i y.head → ⊥
          at (inl t) = let l = deep y.head p in omega arith
          at (inr t) = no_circle v.forest t (over_top y m j (joined_comes y m j))
      round up (inr (f, p)) = no_circle v.forest up (subst (λ (h : ℕ). Above (table_arcs w) h i) f (over_top y m j (joined_comes y m j)))

      pub reduce_viable : Viable (configuration s d rows) w
      reduce_viable = record { within = v.within; forest = v.forest; open_arcs = λ a t. at a t (v.open_arcs a t) }
        where
          off : (a : Arc) → Wanted a → Coming a → (a.word ≡ i) ⊎ (a.word ≡ i → ⊥) → (a ∈ table_arcs rows) ⊎ Open d s (table_arcs w) a
          off a t o (inl f) = inl (subst (λ (b : Arc). b ∈ table_arcs rows) (table_single w x a (v.within x q) t (e ∙ sym f)) q)
          off a t o (inr f) = inr (open_off o (λ r. round (past a o r (no_right a t r)) j) f)

          at : (a : Arc) → Wanted a → (a ∈ table_arcs rows) ⊎ Coming a → (a ∈ table_arcs rows) ⊎ Open d s (table_arcs w) a
          at a t (inl r) = inl r
          at a t (inr o) = off a t o (cases_eq a.word i)

    -- nor back, and the top has no head where the first word of the buffer is joined to a node under the top
    module _ (no_left : (a : Arc) → Wanted a → a.head ≡ d + 1 → a.word ≡ i → ⊥) (bare : (y : Arc) → Wanted y → Joined d s y → (x : Arc) → x ∈ table_arcs rows → x.word ≡ i → ⊥) where
      -- the head that the top is to have is behind the first word of the buffer
      behind : (e : Arc) → Wanted e → e.word ≡ i → Coming e → (d + 1 < e.head) × Above (table_arcs w) e.head (d + 1)
      behind e m f o =
          let t = o.later in let l = low_top in
          let r : e.head ≡ d + 1 → ⊥ = λ h. no_left e m h f in
          let q : d + 1 < e.head = omega arith in
          (q, o.between (d + 1) front_in (inr (omega arith, q)))

      clash : (b : Arc) → Wanted b → Joined d s b → Above (table_arcs w) b.head i → ⊥
      clash b m j up =
          let (e, r, f) = last_arc up in
          at e r f (v.open_arcs e r)
        where
          close : (e : Arc) → (d + 1 < e.head) × Above (table_arcs w) e.head (d + 1) → (b.head ≡ e.head) ⊎ Above (table_arcs w) b.head e.head → Joined d s b → ⊥
          close e (l, g) (inl t) (inl (f, p)) = let q = deep b.head p in let z = low_top in omega arith
          close e (l, g) (inl t) (inr (f, p)) = omega arith
          close e (l, g) (inr t) (inl (f, p)) = ring (peel_arc (table_single w) g b m f)
            where
              ring : (e.head ≡ b.head) ⊎ Above (table_arcs w) e.head b.head → ⊥
              ring (inl u) = let q = deep b.head p in let z = low_top in omega arith
              ring (inr u) = no_circle v.forest t u
          close e (l, g) (inr t) (inr (f, p)) = no_circle v.forest t (subst (Above (table_arcs w) e.head) (sym f) g)

          at : (e : Arc) → Wanted e → e.word ≡ i → (e ∈ table_arcs rows) ⊎ Coming e → ⊥
          at e r f (inl q) = bare b m j e q f
          at e r f (inr o) = close e (behind e r f o) (peel_arc (table_single w) up e r f) j

      pub shift_viable : Viable (configuration ((d + 1) ∷ (i ∷ s)) (d + 1) rows) w
      shift_viable = record { within = v.within; forest = v.forest; open_arcs = λ a t. at a t (v.open_arcs a t) }
        where
          from : (a : Arc) → Wanted a → Coming a → a.word ≡ d + 1 → a.head < d + 1 → (a.head ≡ i) ⊎ InPlay d s a.head → ⊥
          from a t o e l (inl f) = no_right a t f e
          from a t o e l (inr (inl p)) = clash a t (inl (e, p)) (over_top a t (inl (e, p)) o)
          from a t o e l (inr (inr p)) = omega arith

          into : (a : Arc) → Wanted a → Coming a → a.head ≡ d + 1 → a.word < d + 1 → (a.word ≡ i) ⊎ InPlay d s a.word → ⊥
          into a t o e l (inl f) = no_left a t e f
          into a t o e l (inr (inl p)) = clash a t (inr (e, p)) (over_top a t (inr (e, p)) o)
          into a t o e l (inr (inr p)) = omega arith

          early : (a : Arc) → Wanted a → Coming a → max a.head a.word ≤ d + 1 → (a.word ≡ d + 1) ⊎ (a.word ≡ d + 1 → ⊥) → ⊥
          early a t o l (inl e) = let r = no_loop v.forest t in from a t o e (omega arith) (in_cases d i s a.head o.head)
          early a t o l (inr e) = let r = o.later in into a t o (omega arith) (omega arith) (in_cases d i s a.word o.word)

          late : (a : Arc) → Wanted a → Coming a → (d + 1 < max a.head a.word) ⊎ (max a.head a.word ≤ d + 1) → d + 1 < max a.head a.word
          late a t o (inl l) = l
          late a t o (inr l) = absurd (early a t o l (cases_eq a.word (d + 1)))

          at : (a : Arc) → Wanted a → (a ∈ table_arcs rows) ⊎ Coming a → (a ∈ table_arcs rows) ⊎ Open (d + 1) ((d + 1) ∷ (i ∷ s)) (table_arcs w) a
          at a t (inl q) = inl q
          at a t (inr o) = inr (open_on o (late a t o (cases_lt (d + 1) (max a.head a.word))))
