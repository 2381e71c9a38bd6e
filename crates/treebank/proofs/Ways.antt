-- Ways down and up through arcs.
use Rattle.std.proofs.Common.{◌≡◌, ℕ, ◌⊎◌, List, sym, refl, ap, subst, inl, inr}
use Rattle.treebank.specs.declared.arcs.Arc.{Arc}
use Rattle.treebank.specs.Tables.{arc}
use Rattle.treebank.specs.Trees.{◌∈◌, Heads, Above, Acyclic, SingleHeaded}

pub above_trans : {arcs : List Arc} {x y z : ℕ} → Above arcs x y → Above arcs y z → Above arcs x z
above_trans p (Above.one m) = Above.more p m
above_trans p (Above.more q m) = Above.more (above_trans p q) m

-- what stands above in fewer arcs does in more
pub above_sub : {arcs more : List Arc} {x y : ℕ} → ((b : Arc) → b ∈ arcs → b ∈ more) → Above arcs x y → Above more x y
above_sub sub (Above.one {a = b} m) = Above.one (sub b m)
above_sub sub (Above.more {a = b} p m) = Above.more (above_sub sub p) (sub b m)

-- whatever stands above a word does so by an arc into that word
pub last_arc : {arcs : List Arc} {x y : ℕ} → Above arcs x y → (a : Arc) × (a ∈ arcs) × (a.word ≡ y)
last_arc (Above.one {a = b} m) = (b, m, refl)
last_arc (Above.more {a = b} p m) = (b, m, refl)

module _ {W : List Arc} where
  pub above_one : {h d : ℕ} → Heads W h d → Above W h d
  above_one {h} {d} (l, m) = Above.one {a = arc h l d} m

  pub above_more : {x h d : ℕ} → Above W x h → Heads W h d → Above W x d
  above_more {x} {h} {d} p (l, m) = Above.more {a = arc h l d} p m

  module _ (single : SingleHeaded W) where
    pub one_head : {h g d : ℕ} → Heads W h d → Heads W g d → h ≡ g
    one_head {h} {g} {d} (k, m) (l, n) = ap (λ (a : Arc). a.head) (single (arc h k d) (arc g l d) m n refl)

    -- what stands above a word is its head or stands above its head
    pub peel : {y x z : ℕ} → Above W y x → Heads W z x → (z ≡ y) ⊎ Above W y z
    peel {z = z} (Above.one {a = a} m) (l, n) = inl (sym (ap (λ (b : Arc). b.head) (single a (arc z l a.word) m n refl)))
    peel {y = y} {z = z} (Above.more {a = a} p m) (l, n) = inr (subst (Above W y) (ap (λ (b : Arc). b.head) (single a (arc z l a.word) m n refl)) p)

  -- in a forest nothing turns back
  module _ (acyclic : Acyclic W) where
    pub no_circle : {x y : ℕ} {A : Type 0} → Above W x y → Above W y x → A
    no_circle {x} p q = absurd (acyclic x (above_trans p q))

    pub no_turn : {x y : ℕ} {A : Type 0} → Heads W x y → Above W y x → A
    no_turn h q = no_circle (above_one h) q

    pub no_self : {x : ℕ} {A : Type 0} → Heads W x x → A
    no_self {x} h = absurd (acyclic x (above_one h))

  -- the same, arc by arc
  pub no_way_back : {a : Arc} → Acyclic W → a ∈ W → Above W a.word a.head → ⊥
  no_way_back {a = a} acyclic m p = acyclic a.word (Above.more p m)

  pub no_loop : {a : Arc} → Acyclic W → a ∈ W → a.head ≡ a.word → ⊥
  no_loop {a = a} acyclic m e = acyclic a.head (subst (Above W a.head) (sym e) (Above.one m))

  pub no_pair : {a b : Arc} → Acyclic W → a ∈ W → b ∈ W → b.head ≡ a.word → b.word ≡ a.head → ⊥
  no_pair {a = a} {b = b} acyclic m n e f = no_way_back {a = a} acyclic m (subst (λ (x : ℕ). Above W x a.head) e (subst (Above W b.head) f (Above.one n)))

  pub peel_arc : {x y : ℕ} → SingleHeaded W → Above W x y → (a : Arc) → a ∈ W → a.word ≡ y → (x ≡ a.head) ⊎ Above W x a.head
  peel_arc single (Above.one {a = b} m) a n e = inl (ap (λ (c : Arc). c.head) (single b a m n (sym e)))
  peel_arc single (Above.more {x = x} {a = b} p m) a n e = inr (subst (λ (c : Arc). Above W x c.head) (single b a m n (sym e)) p)
