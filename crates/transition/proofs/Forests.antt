-- One fresh arc more leaves a dependency forest, so the arcs of every configuration are one.
use Rattle.std.proofs.Common.{◌≡◌, ℕ, ◌≤◌, ◌⊎◌, List, [], ◌∷◌, Some, None, Ok, Option, sym, refl, ap, ◌∙◌, subst, inl, inr}
use mathlib.Core.List.Memᴰ
use Rattle.treebank.specs.declared.arcs.Arc.{Arc}
use Rattle.treebank.specs.declared.moves.Move.{Move}
use Rattle.treebank.specs.Moves.{Proper}
use Rattle.treebank.specs.Trees.{◌∈◌, Above, Acyclic, SingleHeaded, Rootless, DependencyForest, Fresh}
use Rattle.treebank.proofs.Ways.{above_trans, above_sub}
use Rattle.transition.specs.Meaning.{Meaning}
use Rattle.transition.specs.Runs.{Arises}
use Rattle.transition.specs.Laws.{Laws}
use Rattle.transition.proofs.Running.{arises_keeps}

-- a way down of no arc or more
abbrev Down : List Arc → ℕ → ℕ → Type 0
Down arcs x y = (x ≡ y) ⊎ Above arcs x y

module _ {arcs : List Arc} where
  below_arc : {x : ℕ} {b : Arc} → Down arcs x b.head → b ∈ arcs → Above arcs x b.word
  below_arc {b = b} (inl e) m = subst (λ (x : ℕ). Above arcs x b.word) (sym e) (Above.one m)
  below_arc (inr p) m = Above.more p m

  down_trans : {x y z : ℕ} → Down arcs x y → Down arcs y z → Down arcs x z
  down_trans {z = z} (inl e) q = subst (λ (x : ℕ). Down arcs x z) (sym e) q
  down_trans {x = x} (inr p) (inl e) = inr (subst (λ (z : ℕ). Above arcs x z) e p)
  down_trans (inr p) (inr q) = inr (above_trans p q)

-- with one arc more, a way down is an old one, or goes through that arc
abbrev Through : List Arc → Arc → ℕ → ℕ → Type 0
Through arcs a x y = Above arcs x y ⊎ (Down arcs x a.head × Down arcs a.word y)

module _ {arcs more : List Arc} {a : Arc} (same : (b : Arc) → b ∈ more → b ∈ (a ∷ arcs)) where
  through_one : {b : Arc} {x : ℕ} → Down arcs x b.head → (b ≡ a) ⊎ (b ∈ arcs) → Through arcs a x b.word
  through_one {x = x} d (inl e) = inr (subst (λ (b : Arc). Down arcs x b.head) e d, inl (sym (ap (λ (b : Arc). b.word) e)))
  through_one d (inr m) = inl (below_arc d m)

  through_more : {b : Arc} {x : ℕ} → Through arcs a x b.head → (b ≡ a) ⊎ (b ∈ arcs) → Through arcs a x b.word
  through_more (inl p) m = through_one (inr p) m
  through_more (inr p) (inl e) = inr (p.0, inl (sym (ap (λ (b : Arc). b.word) e)))
  through_more (inr p) (inr m) = inr (p.0, inr (below_arc p.1 m))

  through : {x y : ℕ} → Above more x y → Through arcs a x y
  through (Above.one {a = b} m) = through_one (inl refl) (Memᴰ.cases_cons (same b m))
  through (Above.more {a = b} p m) = through_more (through p) (Memᴰ.cases_cons (same b m))

  acyclic_more : Acyclic arcs → (a.head ≡ a.word → ⊥) → (Above arcs a.word a.head → ⊥) → Acyclic more
  acyclic_more old apart below x p = go (through p)
    where
      back : Down arcs a.word a.head → ⊥
      back (inl e) = apart (sym e)
      back (inr q) = below q

      go : Through arcs a x x → ⊥
      go (inl q) = old x q
      go (inr q) = back (down_trans q.1 q.0)

  single_more : SingleHeaded arcs → ((b : Arc) → b ∈ arcs → b.word ≡ a.word → ⊥) → SingleHeaded more
  single_more old headless b c p q w = go (Memᴰ.cases_cons (same b p)) (Memᴰ.cases_cons (same c q))
    where
      go : (b ≡ a) ⊎ (b ∈ arcs) → (c ≡ a) ⊎ (c ∈ arcs) → b ≡ c
      go (inl e) (inl f) = e ∙ sym f
      go (inl e) (inr n) = absurd (headless c n (sym w ∙ ap (λ (b : Arc). b.word) e))
      go (inr m) (inl f) = absurd (headless b m (w ∙ ap (λ (b : Arc). b.word) f))
      go (inr m) (inr n) = old b c m n w

  rootless_more : Rootless arcs → 1 ≤ a.word → Rootless more
  rootless_more old word b p = go (Memᴰ.cases_cons (same b p))
    where
      go : (b ≡ a) ⊎ (b ∈ arcs) → 1 ≤ b.word
      go (inl e) = subst (λ (c : Arc). 1 ≤ c.word) (sym e) word
      go (inr m) = old b m

pub forest_none : {arcs : List Arc} → arcs ≡ [] → DependencyForest arcs
forest_none {arcs} e = record {
  acyclic = λ x p. no_way p;
  single_headed = λ a b m n w. absurd (empty m);
  rootless = λ a m. absurd (empty m);
}
  where
    empty : {a : Arc} → a ∈ arcs → ⊥
    empty {a} m = Memᴰ.not-nil (subst (λ (l : List Arc). a ∈ l) e m)

    no_way : {x y : ℕ} → Above arcs x y → ⊥
    no_way (Above.one m) = empty m
    no_way (Above.more p m) = empty m

pub forest_fewer : {arcs more : List Arc} → ((b : Arc) → b ∈ more → b ∈ arcs) → DependencyForest arcs → DependencyForest more
forest_fewer sub s = record {
  acyclic = λ x p. s.acyclic x (above_sub sub p);
  single_headed = λ a b m n w. s.single_headed a b (sub a m) (sub b n) w;
  rootless = λ a m. s.rootless a (sub a m);
}

pub forest_more : {n : ℕ} {arcs more : List Arc} {a : Arc} → ((b : Arc) → b ∈ more → b ∈ (a ∷ arcs)) → Fresh n arcs a → DependencyForest arcs → DependencyForest more
forest_more into f s = record {
  acyclic = acyclic_more into s.acyclic f.apart f.not_below;
  single_headed = single_more into s.single_headed f.headless;
  rootless = rootless_more into s.rootless f.joins.word.0;
}

module _ {M : Meaning} {start : ℕ → M.Config} (laws : Laws M start) where
  forest_next : (c : M.Config) (m : Move) (a : Option Arc) → Arises M start c → Proper m → M.verdict c m ≡ Ok a → DependencyForest (M.arcs c) → DependencyForest (M.arcs (M.next c m))
  forest_next c m None h p v s = forest_fewer (λ b. ((laws.drawing m None h v).1 b).0) s
  forest_next c m (Some a) h p v s =
      let (l, adds, fresh) = laws.drawing m (Some a) h v in
      forest_more (λ b. (adds b).0) fresh s

  pub arcs_forest : {c : M.Config} → Arises M start c → DependencyForest (M.arcs c)
  arcs_forest h = arises_keeps start (λ c. DependencyForest (M.arcs c)) forest_next (λ n k. forest_none (laws.beginning n k).bare) h
