-- Stacks that fall down to the root, and chains of heads on them.
use Rattle.std.proofs.Common.{◌≡◌, ℕ, suc, ◌<◌, ◌≤◌, ◌⊎◌, List, [], ◌∷◌, length, sym, refl, ap, subst, inl, inr, arith}
use mathlib.Core.List.Memᴰ
use mathlib.Core.List.{Memᴰ}
use Rattle.treebank.specs.declared.arcs.Arc.{Arc}
use Rattle.treebank.specs.Trees.{◌∈◌, Above}
use Rattle.arc_eager_theory.specs.Configurations.{top, under}

-- a stack falls from b down to 0
abbrev pub Desc : ℕ → List ℕ → Type 0
Desc b [] = b ≡ 0
Desc b (x ∷ st) = (x < b) × Desc x st

-- a node of the stack that has a head has it right under it
abbrev pub Chain : List Arc → List ℕ → Type 0
Chain arcs [] = Unit {0}
Chain arcs (x ∷ st) = ((a : Arc) → a ∈ arcs → a.word ≡ x → a.head ≡ top st) × Chain arcs st

pub desc_below : (b : ℕ) (st : List ℕ) → Desc b st → (x : ℕ) → Memᴰ x st → x < b
desc_below b [] h x m = absurd (Memᴰ.not-nil m)
desc_below b (y ∷ st) (l, h) x m = at (Memᴰ.cases_cons m) (desc_below y st h x)
  where
    at : (x ≡ y) ⊎ Memᴰ x st → (Memᴰ x st → x < y) → x < b
    at (inl e) rest = omega arith
    at (inr n) rest = let r = rest n in omega arith

pub top_most : (b : ℕ) (st : List ℕ) → Desc b st → (x : ℕ) → Memᴰ x st → x ≤ top st
top_most b [] h x m = absurd (Memᴰ.not-nil m)
top_most b (y ∷ st) (l, h) x m = at (Memᴰ.cases_cons m)
  where
    at : (x ≡ y) ⊎ Memᴰ x st → x ≤ y
    at (inl e) = omega arith
    at (inr n) = let r = desc_below y st h x n in omega arith

pub top_under : (b : ℕ) (st : List ℕ) → Desc b st → 1 ≤ b → (top st < b) × Memᴰ (top st) st
top_under b [] h l = absurd (omega arith)
top_under b (y ∷ st) (p, h) l = (p, Memᴰ.head refl)

pub top_low : (b : ℕ) (st : List ℕ) → Desc b st → top st ≤ b
top_low b [] h = omega arith
top_low b (y ∷ st) (p, h) = omega arith

-- the head of a node on the stack is on the stack, or the node is the lowest
pub chain_mem : (arcs : List Arc) (b : ℕ) (st : List ℕ) → Desc b st → Chain arcs st → (a : Arc) → a ∈ arcs → 1 ≤ a.word → Memᴰ a.word st → Memᴰ a.head st
chain_mem arcs b [] h c a m l n = absurd (Memᴰ.not-nil n)
chain_mem arcs b (y ∷ st) (p, h) (q, c) a m l n = at (Memᴰ.cases_cons n) (chain_mem arcs y st h c a m l)
  where
    at : (a.word ≡ y) ⊎ Memᴰ a.word st → (Memᴰ a.word st → Memᴰ a.head st) → Memᴰ a.head (y ∷ st)
    at (inl e) rest = Memᴰ.tail (subst (λ (x : ℕ). Memᴰ x st) (sym (q a m e)) (top_under y st h (omega arith)).1)
    at (inr k) rest = Memᴰ.tail (rest k)

-- what stands above a node of the stack is on the stack
pub above_mem : (arcs : List Arc) (b : ℕ) (st : List ℕ) → Desc b st → Chain arcs st → ((a : Arc) → a ∈ arcs → 1 ≤ a.word) → {x y : ℕ} → Above arcs x y → Memᴰ y st → Memᴰ x st
above_mem arcs b st h c low (Above.one {a = a} m) n = chain_mem arcs b st h c a m (low a m) n
above_mem arcs b st h c low (Above.more {a = a} p m) n = above_mem arcs b st h c low p (chain_mem arcs b st h c a m (low a m) n)

-- arcs into words that are not on the stack leave the chain
pub chain_more : (arcs more : List Arc) (x : Arc) (b : ℕ) (st : List ℕ) → ((a : Arc) → a ∈ more → a ∈ (x ∷ arcs)) → Desc b st → b ≤ x.word → Chain arcs st → Chain more st
chain_more arcs more x b [] same h l c = tt
chain_more arcs more x b (y ∷ st) same (p, h) l (q, c) = (λ a m e. at a e (Memᴰ.cases_cons (same a m)), chain_more arcs more x y st same h (omega arith) c)
  where
    at : (a : Arc) → a.word ≡ y → (a ≡ x) ⊎ (a ∈ arcs) → a.head ≡ top st
    at a e (inl i) = let j : a.word ≡ x.word = ap (λ (b : Arc). b.word) i in absurd (omega arith)
    at a e (inr m) = q a m e

pub under_desc : (b : ℕ) (st : List ℕ) → Desc b st → 1 ≤ b → Desc (top st) (under st)
under_desc b [] h l = refl
under_desc b (y ∷ st) (p, h) l = h

pub under_chain : (arcs : List Arc) (st : List ℕ) → Chain arcs st → Chain arcs (under st)
under_chain arcs [] c = tt
under_chain arcs (y ∷ st) c = c.1

pub desc_up : (b d : ℕ) (st : List ℕ) → Desc b st → b < d → 1 ≤ b → Desc d st
desc_up b d [] h l p = absurd (omega arith)
desc_up b d (y ∷ st) (q, h) l p = (omega arith, h)

pub under_length : (b : ℕ) (st : List ℕ) → Desc b st → 1 ≤ b → length st ≡ suc (length (under st))
under_length b [] h l = absurd (omega arith)
under_length b (y ∷ st) h l = refl
