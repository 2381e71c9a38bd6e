-- Verdicts under a rule.
use Rattle.std.proofs.Common.{◌≡◌, ℕ, ◌+◌, ◌≤◌, Bool, true, false, cond, ltb, ◌↔◌, Some, None, Ok, Err, Option, sym, refl, ap, ◌∙◌, arith}
use Rattle.treebank.specs.declared.arcs.Arc.{Arc}
use Rattle.treebank.specs.declared.refusals.Refusal.{Refusal}
use Rattle.treebank.specs.declared.refusals.Refusal.TheVariants.{ForeignMove}
use Rattle.transition.specs.declared.faults.Fault.{Fault}
use Rattle.transition.specs.Meaning.{Verdict}
use Rattle.transition.specs.Laws.{Foreign}
use Rattle.layers_theory.specs.Layers.{higher, unless_objected, ruled}

higher_by : (b : Bool) (h : ℕ) → h ≤ cond b (h + 1) h
higher_by true h = omega arith
higher_by false h = omega arith

pub not_lower : (h : ℕ) → h ≤ higher h
not_lower h = higher_by (ltb h 255) h

-- the rule has nothing against the arc, if there is one
abbrev pub Unopposed : (Arc → Option Refusal) → Option Arc → Type 0
Unopposed objection None = Unit {0}
Unopposed objection (Some a) = objection a ≡ None

module _ (level : ℕ) (objection : Arc → Option Refusal) where
  -- what is permitted under the rule is permitted below, and the rule has nothing against it
  pub permitted_below : (v : Verdict) (a : Option Arc) → ruled level objection v ≡ Ok a → (v ≡ Ok a) × Unopposed objection a
  permitted_below (Err f) a e = cc
  permitted_below (Ok None) None e = (refl, tt)
  permitted_below (Ok None) (Some a) e = cc
  permitted_below (Ok (Some x)) a e = by (objection x) refl a e
    where
      by : (o : Option Refusal) → objection x ≡ o → (a : Option Arc) → unless_objected level x o ≡ Ok a → (◌≡◌ {A = Verdict} (Ok (Some x)) (Ok a)) × Unopposed objection a
      by None f None e = cc
      by None f (Some a) e = let s : x ≡ a = cc in (ap (λ (y : Arc). Ok (Some y)) s, ap objection (sym s) ∙ f)
      by (Some why) f a e = cc

  pub permitted_above : (v : Verdict) (a : Option Arc) → v ≡ Ok a → Unopposed objection a → ruled level objection v ≡ Ok a
  permitted_above v None e u = ap (ruled level objection) e
  permitted_above v (Some a) e u = ap (ruled level objection) e ∙ ap (unless_objected level a) u

  -- a refusal is that of what stands below, or the rule's at this level
  pub level_of : (v : Verdict) (low : ℕ) → low ≤ level → ((f : Fault) → v ≡ Err f → f.level ≤ low) → (f : Fault) → ruled level objection v ≡ Err f → f.level ≤ level
  level_of (Err g) low l below f e = let s : g ≡ f = cc in omega (arith, below f (ap (λ (x : Fault). Err x) s))
  level_of (Ok None) low l below f e = cc
  level_of (Ok (Some x)) low l below f e = by (objection x) e
    where
      by : (o : Option Refusal) → unless_objected level x o ≡ Err f → f.level ≤ level
      by None e = cc
      by (Some why) e = let s : level ≡ f.level = cc in omega arith

  -- no rule calls a move another system's
  pub foreign_of : ((a : Arc) → objection a ≡ Some ForeignMove → ⊥) → (v : Verdict) → Foreign (ruled level objection v) ↔ Foreign v
  foreign_of own (Err f) = (λ e. e, λ e. e)
  foreign_of own (Ok None) = (λ e. e, λ e. e)
  foreign_of own (Ok (Some x)) = (by (objection x) refl, λ e. absurd e)
    where
      by : (o : Option Refusal) → objection x ≡ o → Foreign (unless_objected level x o) → ⊥
      by None f e = e
      by (Some why) f e = own x (f ∙ ap (λ (y : Refusal). Some y) e)
