-- Nivre's definition of the arc-standard transitions, and that the moves are these.
use Rattle.std.specs.Prelude.{◌≡◌, ℕ, ◌+◌, ◌-◌, List, ◌∷◌, Ok, Err, ◌≢◌}
use Rattle.std.specs.List.{range_with_len}
use Rattle.treebank.specs.declared.arcs.Arc.{Arc}
use Rattle.treebank.specs.declared.moves.Move.{Move}
use Rattle.treebank.specs.declared.moves.Move.TheVariants.{Shift, LeftArc, RightArc}
use Rattle.treebank.specs.Tables.{arc, table_arcs}
use Rattle.treebank.specs.Trees.{SameArcs}
use Rattle.transition.specs.Meaning.{Verdict}
use Rattle.arc_standard_theory.specs.Configurations.{Configuration, words}

-- a stack with its top first, a buffer, and a set of arcs
pub record Triple : Type 0 where
  pub Σ : List ℕ
  pub B : List ℕ
  pub arcs : List Arc

abbrev pub triple : List ℕ → List ℕ → List Arc → Triple
triple σ β as' = record { Σ = σ; B = β; arcs = as' }

-- one transition between two triples; `Same-arcs now (a ∷ before)` adds the arc a to the set
pub data Transition : Triple → Move → Triple → Type 0 where
  shift : {i : ℕ} {σ β : List ℕ} {before now : List Arc} → SameArcs now before →
      Transition (triple σ (i ∷ β) before) Shift (triple (i ∷ σ) β now)
  left_arc : {i j l : ℕ} {σ β : List ℕ} {before now : List Arc} → (i ≢ 0) → SameArcs now (arc j l i ∷ before) →
      Transition (triple (j ∷ (i ∷ σ)) β before) (LeftArc l) (triple (j ∷ σ) β now)
  right_arc : {i j l : ℕ} {σ β : List ℕ} {before now : List Arc} → SameArcs now (arc i l j ∷ before) →
      Transition (triple (j ∷ (i ∷ σ)) β before) (RightArc l) (triple (i ∷ σ) β now)

-- a configuration as a triple: its buffer is the words from the front on
abbrev pub shown : Configuration → Triple
shown c = triple c.stack (range_with_len c.front (words c + 1 - c.front)) (table_arcs c.rows)

-- an accepted move is a transition, and one is refused only where there is none
abbrev pub AsDefined : Configuration → Move → Verdict → Configuration → Type 0
AsDefined c m (Ok a) d = Transition (shown c) m (shown d)
AsDefined c m (Err f) d = ((t : Triple) → Transition (shown c) m t → ⊥) × (d ≡ c)
