-- Nivre's definition of the arc-eager transitions, and that the moves are these.
use Rattle.std.specs.Prelude.{◌≡◌, ℕ, ◌-◌, List, ◌∷◌, Ok, Err, ◌≢◌}
use Rattle.std.specs.List.{range_with_len}
use Rattle.treebank.specs.declared.arcs.Arc.{Arc}
use Rattle.treebank.specs.declared.moves.Move.{Move}
use Rattle.treebank.specs.declared.moves.Move.TheVariants.{Shift, LeftArc, RightArc, Reduce}
use Rattle.treebank.specs.Tables.{arc, table_arcs}
use Rattle.treebank.specs.Trees.{◌∈◌, SameArcs}
use Rattle.transition.specs.Meaning.{Verdict}
use Rattle.arc_eager_theory.specs.Configurations.{Configuration, words, front}

-- a stack with its top first, a buffer, and a set of arcs
pub record Triple : Type 0 where
  pub Σ : List ℕ
  pub B : List ℕ
  pub arcs : List Arc

abbrev pub triple : List ℕ → List ℕ → List Arc → Triple
triple σ β as' = record { Σ = σ; B = β; arcs = as' }

-- some arc enters the node
abbrev pub Headed : List Arc → ℕ → Type 0
Headed arcs i = (a : Arc) × (a ∈ arcs) × (a.word ≡ i)

-- one transition between two triples while the buffer has a word; `Same-arcs now (a ∷ before)` adds the arc a to the set
pub data Transition : Triple → Move → Triple → Type 0 where
  shift : {j : ℕ} {σ β : List ℕ} {before now : List Arc} → SameArcs now before →
      Transition (triple σ (j ∷ β) before) Shift (triple (j ∷ σ) β now)
  left_arc : {i j l : ℕ} {σ β : List ℕ} {before now : List Arc} → (i ≢ 0) → (Headed before i → ⊥) → SameArcs now (arc j l i ∷ before) →
      Transition (triple (i ∷ σ) (j ∷ β) before) (LeftArc l) (triple σ (j ∷ β) now)
  right_arc : {i j l : ℕ} {σ β : List ℕ} {before now : List Arc} → SameArcs now (arc i l j ∷ before) →
      Transition (triple (i ∷ σ) (j ∷ β) before) (RightArc l) (triple (j ∷ (i ∷ σ)) β now)
  reduce : {i j : ℕ} {σ β : List ℕ} {before now : List Arc} → Headed before i → SameArcs now before →
      Transition (triple (i ∷ σ) (j ∷ β) before) Reduce (triple σ (j ∷ β) now)

-- a configuration as a triple: its buffer is the words behind those done
abbrev pub shown : Configuration → Triple
shown c = triple c.stack (range_with_len (front c) (words c - c.done)) (table_arcs c.rows)

-- an accepted move is a transition, and one is refused only where there is none
abbrev pub AsDefined : Configuration → Move → Verdict → Configuration → Type 0
AsDefined c m (Ok a) d = Transition (shown c) m (shown d)
AsDefined c m (Err f) d = ((t : Triple) → Transition (shown c) m t → ⊥) × (d ≡ c)
