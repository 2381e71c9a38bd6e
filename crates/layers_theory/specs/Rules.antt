-- A rule on arcs, and its laws.
use Rattle.std.specs.Prelude.{◌≡◌, ℕ, ◌≤◌, ◌↔◌, List, [], ◌∷◌, Some, None, Option, ◌≢◌}
use Rattle.treebank.specs.declared.arcs.Arc.{Arc}
use Rattle.treebank.specs.declared.refusals.Refusal.{Refusal}
use Rattle.treebank.specs.declared.refusals.Refusal.TheVariants.{ForeignMove}
use Rattle.treebank.specs.Trees.{◌∈◌, DependencyForest, Fresh}
use Rattle.transition.specs.Laws.{ArcInto}

-- the arcs that a rule with the tables t allows, and why it objects to one arc more, by the word count and the arc into each word
pub record Ruling (T : Type 0) : Type 1 where
  pub Allows : T → List Arc → Type 0
  pub objection : T → ℕ → (ℕ → Option Arc) → Arc → Option Refusal

-- the arc into each word is told as the arcs of n words have it
abbrev pub Tells : ℕ → List Arc → (ℕ → Option Arc) → Type 0
Tells n arcs into = (d : ℕ) → ArcInto n arcs d (into d)

pub record RuleLaws {T : Type 0} (R : Ruling T) : Type 0 where
  -- it allows no arcs, and fewer where it allows more
  pub none : (t : T) → R.Allows t []
  pub fewer : (t : T) (xs ys : List Arc) → ((a : Arc) → a ∈ xs → a ∈ ys) → R.Allows t ys → R.Allows t xs
  -- beside arcs that it allows, it objects to a fresh arc exactly where it does not allow that one too
  pub exact : (t : T) (n : ℕ) (arcs : List Arc) (into : ℕ → Option Arc) (a : Arc) → n ≤ 100 → DependencyForest arcs → Tells n arcs into → Fresh n arcs a → R.Allows t arcs →
      (R.objection t n into a ≡ None) ↔ R.Allows t (a ∷ arcs)
  -- it never says that the move is another system's
  pub own : (t : T) (n : ℕ) (into : ℕ → Option Arc) (a : Arc) → R.objection t n into a ≢ Some ForeignMove
