-- The laws of One-Root.
use Rattle.std.specs.Prelude.{◌≡◌, ℕ, zero, suc, ◌+◌, ◌≤◌, Bool, true, false, cond, ◌&&◌, ◌⊎◌, List, ◌∷◌, Some, None, Option, ◌==◌, ◌≢◌, refl}
use Rattle.std.proofs.Common.{sym, ap, subst, ◌∙◌, inl, inr, arith, add-one}
use mathlib.Core.List.Memᴰ
use Rattle.std.proofs.lemmas.Bool.{and_parts, and_cases, or_cases, or_from, or_left, or_right, eqb-true, eqb-false, eq-eqb, both_ways, cases_eq, cond-false}
use Rattle.treebank.specs.declared.arcs.Arc.{Arc}
use Rattle.treebank.specs.declared.refusals.Refusal.TheVariants.{SecondRootArc, ForeignMove}
use Rattle.treebank.specs.Trees.{◌∈◌, DependencyForest, Fresh}
use Rattle.transition.specs.Laws.{ArcInto}
use Rattle.layers_theory.specs.Rules.{Tells, RuleLaws}
use Rattle.layers.specs.OneRoots.{OneRooted, from_root, root_taken, one_root}

module _ (into : ℕ → Option Arc) where
  pub taken_none : (n : ℕ) → root_taken into n ≡ false → from_root (into (n + 1)) ≡ false → root_taken into (n + 1) ≡ false
  taken_none n e f = rw add-one (or_from (root_taken into n) _ e (rw add-one at f))

  pub taken_at : (n d : ℕ) → 1 ≤ d → d ≤ n → from_root (into d) ≡ true → root_taken into n ≡ true
  taken_at zero d lo hi e = absurd (omega arith)
  taken_at (suc n) d lo hi e = at (cases_eq d (suc n)) (λ l. taken_at n d lo l e)
    where
      at : (d ≡ suc n) ⊎ (d ≢ suc n) → (d ≤ n → root_taken into n ≡ true) → root_taken into (suc n) ≡ true
      at (inl same) rest = or_right (root_taken into n) _ (subst (λ (k : ℕ). from_root (into k) ≡ true) same e)
      at (inr other) rest = or_left (root_taken into n) _ (rest (omega arith))

  -- some word has an arc from the root
  abbrev Rooted : ℕ → Type 0
  Rooted n = (d : ℕ) × (a : Arc) × (into d ≡ Some a) × (a.head ≡ 0)

  told_root : (d : ℕ) (o : Option Arc) → into d ≡ o → from_root o ≡ true → (a : Arc) × (into d ≡ Some a) × (a.head ≡ 0)
  told_root d None e t = absurd (both_ways false refl t)
  told_root d (Some a) e t = (a, e, eqb-true a.head 0 t)

  taken_rooted : (n : ℕ) → root_taken into n ≡ true → Rooted n
  taken_rooted zero t = absurd (both_ways false refl t)
  taken_rooted (suc n) t = at (or_cases (root_taken into n) _ t) (taken_rooted n)
    where
      at : (root_taken into n ≡ true) ⊎ (from_root (into (suc n)) ≡ true) → (root_taken into n ≡ true → Rooted n) → Rooted (suc n)
      at (inl u) rest = rest u
      at (inr u) rest = let (a, e, h) = told_root (suc n) (into (suc n)) refl u in (suc n, a, e, h)

module _ (n : ℕ) (arcs : List Arc) (into : ℕ → Option Arc) (forest : DependencyForest arcs) (tells : Tells n arcs into) where
  -- an arc from the root is told of
  root_told : (a : Arc) → a ∈ arcs → a.head ≡ 0 → root_taken into n ≡ true
  root_told a m r = at (into a.word) refl (tells a.word)
    where
      at : (o : Option Arc) → into a.word ≡ o → ArcInto n arcs a.word o → root_taken into n ≡ true
      at None e none = absurd (none a m refl)
      at (Some b) e (k, w, lo, hi) =
          let same : b ≡ a = forest.single_headed b a k m w in
          taken_at into n a.word lo hi (ap from_root (e ∙ ap (λ (x : Arc). Some x) same) ∙ eq-eqb a.head 0 r)

  -- what is told of is an arc from the root
  told_rooted : root_taken into n ≡ true → (a : Arc) × (a ∈ arcs) × (a.head ≡ 0)
  told_rooted t =
      let (d, a, e, r) = taken_rooted into n t in
      (a, (subst (ArcInto n arcs d) e (tells d)).0, r)

  one_more : (a : Arc) → (a.head == 0 && root_taken into n) ≡ false → OneRooted arcs → OneRooted (a ∷ arcs)
  one_more a free old b c p q r s = at (Memᴰ.cases_cons p) (Memᴰ.cases_cons q)
    where
      alone : (x : Arc) → x ∈ arcs → x.head ≡ 0 → a.head ≢ 0
      alone x m h i = no_second (and_cases (a.head == 0) (root_taken into n) free)
        where
          no_second : ((a.head == 0) ≡ false) ⊎ (root_taken into n ≡ false) → ⊥
          no_second (inl f) = eqb-false a.head 0 f i
          no_second (inr f) = both_ways (root_taken into n) f (root_told x m h)

      head_of : (x : Arc) → x ≡ a → x.head ≡ 0 → a.head ≡ 0
      head_of x e h = ap (λ (y : Arc). y.head) (sym e) ∙ h

      at : (b ≡ a) ⊎ (b ∈ arcs) → (c ≡ a) ⊎ (c ∈ arcs) → b ≡ c
      at (inl e) (inl f) = e ∙ sym f
      at (inl e) (inr m) = absurd (alone c m s (head_of b e r))
      at (inr m) (inl f) = absurd (alone b m r (head_of c f s))
      at (inr m) (inr k) = old b c m k r s

  one_less : (a : Arc) → Fresh n arcs a → OneRooted (a ∷ arcs) → (b : Bool) → (a.head == 0 && root_taken into n) ≡ b → b ≡ false
  one_less a fresh all true e =
      let (h, t) = and_parts (a.head == 0) (root_taken into n) e in
      let (c, m, r) = told_rooted t in
      let same : c ≡ a = all c a (Memᴰ.tail m) (Memᴰ.head refl) r (eqb-true a.head 0 h) in
      absurd (fresh.headless c m (ap (λ (x : Arc). x.word) same))
  one_less a fresh all false e = refl

unobjected : (b : Bool) → cond b (Some SecondRootArc) None ≡ None → b ≡ false
unobjected true e = cc
unobjected false e = refl

not_foreign : (b : Bool) → cond b (Some SecondRootArc) None ≢ Some ForeignMove
not_foreign true e = cc
not_foreign false e = cc

pub root_lawful : RuleLaws one_root
root_lawful = record {
  none = λ s a b m. absurd (Memᴰ.not-nil m);
  fewer = λ s xs ys within all a b m k. all a b (within a m) (within b k);
  exact = λ s n arcs into a few forest tells fresh old. (
    λ e. one_more n arcs into forest tells a (unobjected (a.head == 0 && root_taken into n) e) old,
    λ all. cond-false (a.head == 0 && root_taken into n) (Some SecondRootArc) None (one_less n arcs into forest tells a fresh all (a.head == 0 && root_taken into n) refl),
  );
  own = λ s n into a e. not_foreign (a.head == 0 && root_taken into n) e;
}
