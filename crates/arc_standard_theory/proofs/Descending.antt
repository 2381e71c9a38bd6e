-- Stacks that descend, and the nodes in play: those on the stack or in the buffer.
use Rattle.std.proofs.Common.{◌≡◌, ℕ, ◌+◌, ◌<◌, ◌≤◌, ◌⊎◌, List, [], ◌∷◌, sym, refl, subst, inl, inr, arith}
use mathlib.Core.List.Memᴰ
use mathlib.Core.List.{Memᴰ}
use Rattle.std.proofs.lemmas.Bool.{cases_lt}
use Rattle.arc_standard_theory.specs.Viable.{Play}

-- strictly descending from below b
abbrev pub Under : ℕ → List ℕ → Type 0
Under b [] = Unit {0}
Under b (x ∷ st) = (x < b) × Under x st

pub under_mem : (b : ℕ) (st : List ℕ) {x : ℕ} → Under b st → Memᴰ x st → x < b
under_mem b [] u m = absurd (Memᴰ.not-nil m)
under_mem b (y ∷ st) u (Memᴰ.head e) = let t = u.0 in omega arith
under_mem b (y ∷ st) u (Memᴰ.tail m) = let t = under_mem y st u.1 m in let k = u.0 in omega arith

pub under_more : (a b : ℕ) (st : List ℕ) → a ≤ b → Under a st → Under b st
under_more a b [] l u = tt
under_more a b (x ∷ st) l u = (let t = u.0 in omega arith, u.1)

-- where a node in play stands, seen from the two nodes at the top
pub data Place (n : ℕ) (s : List ℕ) (i j b : ℕ) : ℕ → Type 0 where
  low : {x : ℕ} → Memᴰ x s → x < i → Place n s i j b x
  second : Place n s i j b i
  top : Place n s i j b j
  later : {x : ℕ} → b ≤ x → x ≤ n → Place n s i j b x

module _ {n b j i : ℕ} {s : List ℕ} (u : Under b (j ∷ (i ∷ s))) where
  pub place : {x : ℕ} → Play n (j ∷ (i ∷ s)) b x → Place n s i j b x
  place {x} (inl m) = at (Memᴰ.cases_cons m)
    where
      under : (x ≡ i) ⊎ Memᴰ x s → Place n s i j b x
      under (inl e) = subst (Place n s i j b) (sym e) Place.second
      under (inr k) = Place.low k (under_mem i s u.1.1 k)

      at : (x ≡ j) ⊎ Memᴰ x (i ∷ s) → Place n s i j b x
      at (inl e) = subst (Place n s i j b) (sym e) Place.top
      at (inr k) = under (Memᴰ.cases_cons k)
  place (inr (l, k)) = Place.later l k

-- the stack without its second, or without its top
pub play_second : {n b j i x : ℕ} {s : List ℕ} → Play n (j ∷ s) b x → Play n (j ∷ (i ∷ s)) b x
play_second (inl (Memᴰ.head e)) = inl (Memᴰ.head e)
play_second (inl (Memᴰ.tail m)) = inl (Memᴰ.tail (Memᴰ.tail m))
play_second (inr k) = inr k

pub play_top : {n b j x : ℕ} {s : List ℕ} → Play n s b x → Play n (j ∷ s) b x
play_top (inl m) = inl (Memᴰ.tail m)
play_top (inr k) = inr k

pub play_not_second : {n b j i x : ℕ} {s : List ℕ} → (x ≡ i → ⊥) → Place n s i j b x → Play n (j ∷ s) b x
play_not_second not (Place.low m l) = inl (Memᴰ.tail m)
play_not_second not Place.second = absurd (not refl)
play_not_second not Place.top = inl (Memᴰ.head refl)
play_not_second not (Place.later l k) = inr (l, k)

pub play_not_top : {n b j i x : ℕ} {s : List ℕ} → (x ≡ j → ⊥) → Place n s i j b x → Play n (i ∷ s) b x
play_not_top not (Place.low m l) = inl (Memᴰ.tail m)
play_not_top not Place.second = inl (Memᴰ.head refl)
play_not_top not Place.top = absurd (not refl)
play_not_top not (Place.later l k) = inr (l, k)

-- a Shift keeps what is in play
pub play_shift : {n b x : ℕ} {st : List ℕ} → Play n st b x → Play n (b ∷ st) (b + 1) x
play_shift (inl m) = inl (Memᴰ.tail m)
play_shift {n} {b} {x} {st} (inr (l, k)) = at (cases_lt b x)
  where
    at : (b < x) ⊎ (x ≤ b) → Play n (b ∷ st) (b + 1) x
    at (inl h) = inr (omega arith, k)
    at (inr h) = inl (Memᴰ.head (omega arith))

pub play_unshift : {n b x : ℕ} {st : List ℕ} → b ≤ n → Play n (b ∷ st) (b + 1) x → Play n st b x
play_unshift h (inl (Memᴰ.head e)) = inr (omega arith, omega arith)
play_unshift h (inl (Memᴰ.tail m)) = inl m
play_unshift h (inr (l, k)) = inr (omega arith, k)
