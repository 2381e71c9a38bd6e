-- The way on from a viable configuration with two nodes or more on the stack.
use Rattle.std.proofs.Common.{◌≡◌, ℕ, ◌+◌, ◌<◌, ◌≤◌, ◌⊎◌, List, ◌∷◌, sym, refl, subst, inl, inr, arith}
use mathlib.Core.List.Memᴰ
use mathlib.Core.List.{Memᴰ}
use Rattle.treebank.specs.declared.arcs.Arc.{Arc}
use Rattle.std.proofs.lemmas.Bool.{cases_eq}
use Rattle.treebank.specs.Trees.{Heads, Above, Acyclic, SingleHeaded}
use Rattle.treebank.proofs.Ways.{above_trans, above_one, peel, no_circle, no_turn, no_self}
use Rattle.arc_standard_theory.proofs.Descending.{Under, under_mem, Place, place, play_second, play_top, play_not_second, play_not_top, play_shift, play_unshift}
use Rattle.arc_standard_theory.specs.Viable.{Play, Joined, Rest, Total}

module _ {W : List Arc} (single : SingleHeaded W) (acyclic : Acyclic W) {n b j i : ℕ} {s : List ℕ} (u : Under b (j ∷ (i ∷ s))) (r : Rest W n (j ∷ (i ∷ s)) b) where
  at_j : Play n (j ∷ (i ∷ s)) b j
  at_j = inl (Memᴰ.head refl)

  at_i : Play n (j ∷ (i ∷ s)) b i
  at_i = inl (Memᴰ.tail (Memᴰ.head refl))

  -- below i nothing waits, if i goes below j
  left_none : {d : ℕ} → Heads W j i → Heads W i d → Place n s i j b d → ⊥
  left_none g h (Place.low {x = d} m l) = no_turn acyclic g (r.spine.0 d i (Memᴰ.tail m) (Memᴰ.head refl) l (inr h))
  left_none g h Place.second = no_self acyclic h
  left_none g h Place.top = no_turn acyclic g (above_one h)
  left_none g h (Place.later l k) = let p = u.0 in let q = u.1.0 in no_turn acyclic g (r.cover h (inr (l, k)) at_j (inl (omega arith, omega arith)))

  pub on_left : Heads W j i → Rest W n (j ∷ s) b
  on_left f = record {
    closed = λ {h} {d} g p. play_not_second (λ e. left_none f (subst (λ (x : ℕ). Heads W x d) e g) (place u (play_second p))) (place u (r.closed g (play_second p)));
    cover = λ g p q t. r.cover g (play_second p) (play_second q) t;
    spine = ((λ x y m k l t. r.spine.0 x y (Memᴰ.tail m) (Memᴰ.tail k) l t), r.spine.1.1);
  }

  pub on_right : ((d : ℕ) → Heads W j d → Play n (j ∷ (i ∷ s)) b d → ⊥) → Rest W n (i ∷ s) b
  on_right none = record {
    closed = λ {h} {d} g p. play_not_top (λ e. none d (subst (λ (x : ℕ). Heads W x d) e g) (play_top p)) (place u (r.closed g (play_top p)));
    cover = λ g p q t. r.cover g (play_top p) (play_top q) t;
    spine = r.spine.1;
  }

  -- from here on i does not go below j
  module _ (total : Total n W) (upto : b ≤ n + 1) (apart : Heads W j i → ⊥) where
    t0 : {y : ℕ} → Heads W y i → Place n s i j b y → Above W i j ⊎ ((b ≤ y) × Above W y j)
    t0 g (Place.low {x = y} m l) = inl (r.spine.0 y i (Memᴰ.tail m) (Memᴰ.head refl) l (inl g))
    t0 g Place.second = no_self acyclic g
    t0 g Place.top = absurd (apart g)
    t0 g (Place.later l k) = let p = u.0 in let q = u.1.0 in inr (l, r.cover g at_i at_j (inr (omega arith, omega arith)))

    -- the head of i, if i is a word
    head_i : 1 ≤ i → (y : ℕ) × Heads W y i × (Above W i j ⊎ ((b ≤ y) × Above W y j))
    head_i l = let p = u.0 in let q = u.1.0 in let (y, g) = total i l (omega arith) in (y, g, t0 g (place u (r.closed g at_i)))

    -- what waits below j is in the buffer
    t1 : {x : ℕ} → Heads W j x → Place n s i j b x → (b ≤ x) × (x ≤ n)
    t1 g (Place.low {x = x} m l) = at (head_i (omega arith))
      where
        over : Above W j i
        over = let q = u.1.0 in r.cover g (inl (Memᴰ.tail (Memᴰ.tail m))) at_i (inr (omega arith, omega arith))

        up : {y : ℕ} → b ≤ y → Above W y j → (y ≡ j) ⊎ Above W j y → (b ≤ x) × (x ≤ n)
        up k p (inl e) = absurd (let q = u.0 in omega arith)
        up k p (inr q) = no_circle acyclic p q

        at : ((y : ℕ) × Heads W y i × (Above W i j ⊎ ((b ≤ y) × Above W y j))) → (b ≤ x) × (x ≤ n)
        at (y, h, inl p) = no_circle acyclic p over
        at (y, h, inr (k, p)) = up k p (peel single over h)
    t1 g Place.second = absurd (apart g)
    t1 g Place.top = no_self acyclic g
    t1 g (Place.later l k) = (l, k)

    -- a head of j before j is i
    t2 : {x : ℕ} → Heads W x j → Place n s i j b x → x < j → x ≡ i
    t2 g (Place.low {x = x} m l) _ = at (head_i (omega arith))
      where
        over : Above W x i
        over = let q = u.1.0 in r.cover g at_j at_i (inl (omega arith, omega arith))

        one : (x ≡ i) ⊎ Above W i x → x ≡ i
        one (inl e) = e
        one (inr p) = no_circle acyclic p over

        two : {y : ℕ} → b ≤ y → (x ≡ y) ⊎ Above W y x → (y ≡ x) ⊎ Above W x y → x ≡ i
        two k (inl e) o = absurd (let q = u.0 in let p = u.1.0 in omega arith)
        two k (inr p) (inl e) = absurd (let q = u.0 in let p = u.1.0 in omega arith)
        two k (inr p) (inr q) = no_circle acyclic p q

        at : ((y : ℕ) × Heads W y i × (Above W i j ⊎ ((b ≤ y) × Above W y j))) → x ≡ i
        at (y, h, inl p) = one (peel single p g)
        at (y, h, inr (k, p)) = two k (peel single p g) (peel single over h)
    t2 g Place.second l = refl
    t2 g Place.top l = absurd (omega arith)
    t2 g (Place.later l k) q = absurd (let p = u.0 in omega arith)

    module _ (waits : Heads W i j → (d : ℕ) × Heads W j d × Play n (j ∷ (i ∷ s)) b d) where
      -- j has its head before it, so the buffer's first word stands below j
      first : {y : ℕ} → Heads W y j → y < j → (b ≤ n) × Above W j b
      first {y} g l = at (waits (subst (λ (x : ℕ). Heads W x j) (t2 g (place u (r.closed g at_j)) l) g))
        where
          under : {d : ℕ} → Heads W j d → b ≤ d → d ≤ n → (b ≡ d) ⊎ (b ≡ d → ⊥) → Above W j b
          under g l k (inl e) = subst (Above W j) (sym e) (above_one g)
          under {d} g l k (inr f) =
              let q = u.0 in
              let lt : b < d = omega arith in
              r.cover g (inr (l, k)) (inr (omega arith, omega arith)) (inl (q, lt))

          at : ((d : ℕ) × Heads W j d × Play n (j ∷ (i ∷ s)) b d) → (b ≤ n) × Above W j b
          at (d, h, p) = let (l, k) = t1 h (place u p) in (omega arith, under h l k (cases_eq b d))

      -- the head of j, and where the buffer's first word stands
      head_j : (y : ℕ) × Heads W y j × (((b ≤ n) × Above W j b) ⊎ ((b ≤ y) × (y ≤ n)))
      head_j = let p = u.0 in let q = u.1.0 in let (y, g) = total j (omega arith) (omega arith) in (y, g, at g (place u (r.closed g at_j)))
        where
          at : {y : ℕ} → Heads W y j → Place n s i j b y → ((b ≤ n) × Above W j b) ⊎ ((b ≤ y) × (y ≤ n))
          at g (Place.low m l) = inl (first g (let q = u.1.0 in omega arith))
          at g Place.second = inl (first g u.1.0)
          at g Place.top = no_self acyclic g
          at g (Place.later l k) = inr (l, k)

      -- the buffer is not empty
      pub on_word : b ≤ n
      on_word = at head_j.2
        where
          at : {y : ℕ} → ((b ≤ n) × Above W j b) ⊎ ((b ≤ y) × (y ≤ n)) → b ≤ n
          at (inl (l, p)) = l
          at (inr (l, k)) = omega arith

      shift_spine : (x y : ℕ) → Memᴰ x (j ∷ (i ∷ s)) → Memᴰ y (j ∷ (i ∷ s)) → x < y → Joined W x y → Above W y b
      shift_spine x y m k l t = at (Memᴰ.cases_cons m) (Memᴰ.cases_cons k)
        where
          joined : Joined W x j → x < j → Above W j b
          joined (inl g) l = (first g l).1
          joined (inr g) l = absurd (let h = (t1 g (place u (inl m))).0 in let q = u.0 in omega arith)

          over : {z : ℕ} → Heads W z j → b ≤ z → z ≤ n → (b ≡ z) ⊎ (b ≡ z → ⊥) → Above W y z → Above W y b
          over g lo hi (inl e) p = subst (Above W y) (sym e) p
          over {z} g lo hi (inr f) p =
              let q = u.0 in
              let lt : b < z = omega arith in
              above_trans p (r.cover g at_j (inr (omega arith, omega arith)) (inr (q, lt)))

          below : {z : ℕ} → y < j → Heads W z j → b ≤ z → z ≤ n → (z ≡ y) ⊎ Above W y z → Above W y b
          below a g lo hi (inl e) = absurd (let q = u.0 in omega arith)
          below {z} a g lo hi (inr p) = over g lo hi (cases_eq b z) p

          further : y < j → Above W y j → ((z : ℕ) × Heads W z j × (((b ≤ n) × Above W j b) ⊎ ((b ≤ z) × (z ≤ n)))) → Above W y b
          further a p (z, g, inl (lo, q)) = above_trans p q
          further a p (z, g, inr (lo, hi)) = below a g lo hi (peel single p g)

          at : (x ≡ j) ⊎ Memᴰ x (i ∷ s) → (y ≡ j) ⊎ Memᴰ y (i ∷ s) → Above W y b
          at (inl e) (inl f) = absurd (omega arith)
          at (inl e) (inr q) = absurd (let o = under_mem j (i ∷ s) u.1 q in omega arith)
          at (inr p) (inl f) = subst (λ (z : ℕ). Above W z b) (sym f) (joined (subst (Joined W x) f t) (omega arith))
          at (inr p) (inr q) = further (under_mem j (i ∷ s) u.1 q) (r.spine.0 x y p q l t) head_j

      pub on_shift : Rest W n (b ∷ (j ∷ (i ∷ s))) (b + 1)
      on_shift = record {
        closed = λ g p. play_shift (r.closed g (play_unshift on_word p));
        cover = λ g p q t. r.cover g (play_unshift on_word p) (play_unshift on_word q) t;
        spine = (shift_spine, r.spine);
      }
