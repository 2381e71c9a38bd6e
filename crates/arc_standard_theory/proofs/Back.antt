-- A move back from a viable configuration.
use Rattle.std.proofs.Common.{◌≡◌, ℕ, ◌+◌, ◌<◌, ◌≤◌, ◌⊎◌, List, ◌∷◌, sym, refl, subst, inl, inr, arith}
use mathlib.Core.List.Memᴰ
use mathlib.Core.List.{Memᴰ}
use Rattle.treebank.specs.declared.arcs.Arc.{Arc}
use Rattle.std.proofs.lemmas.Bool.{cases_eq}
use Rattle.treebank.specs.Trees.{Heads, Above, Between, SingleHeaded}
use Rattle.treebank.proofs.Ways.{above_one, above_more, one_head}
use Rattle.arc_standard_theory.proofs.Descending.{Under, under_mem, Place, place, play_second, play_top, play_not_second, play_not_top, play_shift, play_unshift}
use Rattle.arc_standard_theory.specs.Viable.{Play, Joined, Rest}

-- before a Shift
pub back_shift : {W : List Arc} {n b : ℕ} {st : List ℕ} → b ≤ n → Rest W n (b ∷ st) (b + 1) → Rest W n st b
back_shift h r = record {
  closed = λ g p. play_unshift h (r.closed g (play_shift p));
  cover = λ g p q t. r.cover g (play_shift p) (play_shift q) t;
  spine = r.spine.1;
}

-- before a Left-Arc
module _ {W : List Arc} (single : SingleHeaded W) {n b j i : ℕ} {s : List ℕ} (u : Under b (j ∷ (i ∷ s))) (drawn : Heads W j i) (r : Rest W n (j ∷ s) b) where
  left_gone : {x : ℕ} → Play n (j ∷ s) b x → x ≡ i → ⊥
  left_gone (inl (Memᴰ.head e)) f = let t = u.1.0 in omega arith
  left_gone (inl (Memᴰ.tail m)) f = let t = under_mem i s u.1.1 m in omega arith
  left_gone (inr (p, q)) f = let t = u.1.0 in let k = u.0 in omega arith

  left_closed : {h d : ℕ} → Heads W h d → Place n s i j b d → Play n (j ∷ (i ∷ s)) b h
  left_closed g (Place.low m l) = play_second (r.closed g (inl (Memᴰ.tail m)))
  left_closed {h} g Place.second = inl (Memᴰ.head (one_head single g drawn))
  left_closed g Place.top = play_second (r.closed g (inl (Memᴰ.head refl)))
  left_closed g (Place.later l k) = play_second (r.closed g (inr (l, k)))

  -- nothing is in play between the top two
  left_gap : {x h : ℕ} → h ≡ j → Place n s i j b x → Between h x i → ⊥
  left_gap e (Place.low m l) (inl t) = let k = u.1.0 in omega arith
  left_gap e (Place.low m l) (inr t) = omega arith
  left_gap e Place.second (inl t) = omega arith
  left_gap e Place.second (inr t) = omega arith
  left_gap e Place.top (inl t) = omega arith
  left_gap e Place.top (inr t) = omega arith
  left_gap e (Place.later l k) (inl t) = let q = u.0 in let p = u.1.0 in omega arith
  left_gap e (Place.later l k) (inr t) = let q = u.0 in omega arith

  -- an arc over i goes over j, or is joined to j
  left_up : {h d : ℕ} → Heads W h d → Play n (j ∷ s) b d → Place n s i j b d → h < i → i < d → Above W h i
  left_up g p (Place.low m l) lo hi = absurd (omega arith)
  left_up g p Place.second lo hi = absurd (omega arith)
  left_up g p Place.top lo hi = above_more (above_one g) drawn
  left_up g p (Place.later l k) lo hi = let q = u.0 in let e = u.1.0 in above_more (r.cover g p (inl (Memᴰ.head refl)) (inl (omega arith, omega arith))) drawn

  left_down : {h d : ℕ} → Heads W h d → Play n (j ∷ s) b d → Place n s i j b h → d < i → i < h → Above W h i
  left_down g p (Place.low m l) lo hi = absurd (omega arith)
  left_down g p Place.second lo hi = absurd (omega arith)
  left_down g p Place.top lo hi = above_one drawn
  left_down g p (Place.later l k) lo hi = let q = u.0 in let e = u.1.0 in above_more (r.cover g p (inl (Memᴰ.head refl)) (inr (omega arith, omega arith))) drawn

  left_over : {h d : ℕ} → Heads W h d → Play n (j ∷ s) b d → Between h i d → Above W h i
  left_over g p (inl (lo, hi)) = left_up g p (place u (play_second p)) lo hi
  left_over g p (inr (lo, hi)) = left_down g p (place u (play_second (r.closed g p))) lo hi

  left_cover : {h d x : ℕ} → Heads W h d → Play n (j ∷ (i ∷ s)) b d → Play n (j ∷ (i ∷ s)) b x → Between h x d → Above W h x
  left_cover {h} {d} {x} g p q t = at (cases_eq d i) (cases_eq x i)
    where
      at : (d ≡ i) ⊎ (d ≡ i → ⊥) → (x ≡ i) ⊎ (x ≡ i → ⊥) → Above W h x
      at (inl e) o = absurd (left_gap (one_head single (subst (Heads W h) e g) drawn) (place u q) (subst (Between h x) e t))
      at (inr f) (inl e) = subst (Above W h) (sym e) (left_over g (play_not_second f (place u p)) (subst (λ (y : ℕ). Between h y d) e t))
      at (inr f) (inr k) = r.cover g (play_not_second f (place u p)) (play_not_second k (place u q)) t

  -- i is joined to no node below it
  left_apart : {v : ℕ} → Memᴰ v s → Joined W v i → ⊥
  left_apart m (inl g) = let e = one_head single g drawn in let t = under_mem i s u.1.1 m in let k = u.1.0 in omega arith
  left_apart m (inr g) = left_gone (r.closed g (inl (Memᴰ.tail m))) refl

  left_spine : (x y : ℕ) → Memᴰ x (i ∷ s) → Memᴰ y (i ∷ s) → x < y → Joined W x y → Above W y j
  left_spine x y m k l t = at (Memᴰ.cases_cons m) (Memᴰ.cases_cons k)
    where
      at : (x ≡ i) ⊎ Memᴰ x s → (y ≡ i) ⊎ Memᴰ y s → Above W y j
      at (inl e) (inl f) = absurd (omega arith)
      at (inl e) (inr n) = absurd (let q = under_mem i s u.1.1 n in omega arith)
      at (inr n) (inl f) = absurd (left_apart n (subst (Joined W x) f t))
      at (inr n) (inr q) = r.spine.0 x y n q l t

  pub back_left : Rest W n (j ∷ (i ∷ s)) b
  back_left = record {
    closed = λ g p. left_closed g (place u p);
    cover = λ g p q t. left_cover g p q t;
    spine = (left_spine, ((λ x y m k l t. above_more (r.spine.0 x y m k l t) drawn), r.spine.1));
  }

-- before a Right-Arc
module _ {W : List Arc} (single : SingleHeaded W) {n b j i : ℕ} {s : List ℕ} (u : Under b (j ∷ (i ∷ s))) (drawn : Heads W i j) (r : Rest W n (i ∷ s) b) where
  right_closed : {h d : ℕ} → Heads W h d → Place n s i j b d → Play n (j ∷ (i ∷ s)) b h
  right_closed g (Place.low m l) = play_top (r.closed g (inl (Memᴰ.tail m)))
  right_closed g Place.second = play_top (r.closed g (inl (Memᴰ.head refl)))
  right_closed g Place.top = inl (Memᴰ.tail (Memᴰ.head (one_head single g drawn)))
  right_closed g (Place.later l k) = play_top (r.closed g (inr (l, k)))

  right_gap : {x h : ℕ} → h ≡ i → Place n s i j b x → Between h x j → ⊥
  right_gap e (Place.low m l) (inl t) = omega arith
  right_gap e (Place.low m l) (inr t) = let k = u.1.0 in omega arith
  right_gap e Place.second (inl t) = omega arith
  right_gap e Place.second (inr t) = omega arith
  right_gap e Place.top (inl t) = omega arith
  right_gap e Place.top (inr t) = omega arith
  right_gap e (Place.later l k) (inl t) = let q = u.0 in omega arith
  right_gap e (Place.later l k) (inr t) = let q = u.0 in let p = u.1.0 in omega arith

  -- an arc over j goes over i, or is joined to i
  right_up : {h d : ℕ} → Heads W h d → Play n (i ∷ s) b d → Place n s i j b h → h < j → j < d → Above W h j
  right_up g p (Place.low m l) lo hi = let e = u.1.0 in above_more (r.cover g p (inl (Memᴰ.head refl)) (inl (omega arith, omega arith))) drawn
  right_up g p Place.second lo hi = above_one drawn
  right_up g p Place.top lo hi = absurd (omega arith)
  right_up g p (Place.later l k) lo hi = absurd (let q = u.0 in omega arith)

  right_down : {h d : ℕ} → Heads W h d → Play n (i ∷ s) b d → Place n s i j b d → d < j → j < h → Above W h j
  right_down g p (Place.low m l) lo hi = let e = u.1.0 in above_more (r.cover g p (inl (Memᴰ.head refl)) (inr (omega arith, omega arith))) drawn
  right_down g p Place.second lo hi = above_more (above_one g) drawn
  right_down g p Place.top lo hi = absurd (omega arith)
  right_down g p (Place.later l k) lo hi = absurd (let q = u.0 in omega arith)

  right_over : {h d : ℕ} → Heads W h d → Play n (i ∷ s) b d → Between h j d → Above W h j
  right_over g p (inl (lo, hi)) = right_up g p (place u (play_top (r.closed g p))) lo hi
  right_over g p (inr (lo, hi)) = right_down g p (place u (play_top p)) lo hi

  right_cover : {h d x : ℕ} → Heads W h d → Play n (j ∷ (i ∷ s)) b d → Play n (j ∷ (i ∷ s)) b x → Between h x d → Above W h x
  right_cover {h} {d} {x} g p q t = at (cases_eq d j) (cases_eq x j)
    where
      at : (d ≡ j) ⊎ (d ≡ j → ⊥) → (x ≡ j) ⊎ (x ≡ j → ⊥) → Above W h x
      at (inl e) o = absurd (right_gap (one_head single (subst (Heads W h) e g) drawn) (place u q) (subst (Between h x) e t))
      at (inr f) (inl e) = subst (Above W h) (sym e) (right_over g (play_not_top f (place u p)) (subst (λ (y : ℕ). Between h y d) e t))
      at (inr f) (inr k) = r.cover g (play_not_top f (place u p)) (play_not_top k (place u q)) t

  right_spine : (x y : ℕ) → Memᴰ x (i ∷ s) → Memᴰ y (i ∷ s) → x < y → Joined W x y → Above W y j
  right_spine x y m k l t = at (Memᴰ.cases_cons m) (Memᴰ.cases_cons k)
    where
      at : (x ≡ i) ⊎ Memᴰ x s → (y ≡ i) ⊎ Memᴰ y s → Above W y j
      at o (inl f) = subst (λ (z : ℕ). Above W z j) (sym f) (above_one drawn)
      at (inl e) (inr n) = absurd (let q = under_mem i s u.1.1 n in omega arith)
      at (inr n) (inr q) = above_more (r.spine.0 x y n q l t) drawn

  pub back_right : Rest W n (j ∷ (i ∷ s)) b
  back_right = record {
    closed = λ g p. right_closed g (place u p);
    cover = λ g p q t. right_cover g p q t;
    spine = (right_spine, r.spine);
  }
