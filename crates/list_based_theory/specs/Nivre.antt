-- Nivre's definition of the list-based transitions, and that the moves are these.
use Rattle.std.specs.Prelude.{◌≡◌, ℕ, ◌+◌, ◌-◌, List, [], ◌∷◌, ◌++◌, Ok, Err, ◌≢◌}
use Rattle.std.specs.List.{range_with_len}
use Rattle.treebank.specs.declared.arcs.Arc.{Arc}
use Rattle.treebank.specs.declared.moves.Move.{Move}
use Rattle.treebank.specs.declared.moves.Move.TheVariants.{Shift, LeftArc, RightArc, NoArc}
use Rattle.treebank.specs.Tables.{arc, table_arcs}
use Rattle.treebank.specs.Trees.{◌∈◌, Above, SameArcs}
use Rattle.transition.specs.Meaning.{Verdict}
use Rattle.list_based_theory.specs.Configurations.{Configuration, words}

-- two lists of nodes, a buffer, and a set of arcs
pub record Quadruple : Type 0 where
  pub λ₁ : List ℕ
  pub λ₂ : List ℕ
  pub B : List ℕ
  pub arcs : List Arc

abbrev pub quadruple : List ℕ → List ℕ → List ℕ → List Arc → Quadruple
quadruple first second β as' = record { λ₁ = first; λ₂ = second; B = β; arcs = as' }

-- no arc enters the node
abbrev pub HeadlessIn : List Arc → ℕ → Type 0
HeadlessIn arcs d = (a : Arc) → a ∈ arcs → a.word ≢ d

infixl 60 ◌then◌
-- the list with one node more at its end
abbrev pub ◌then◌ : List ℕ → ℕ → List ℕ
xs then i = xs ++ (i ∷ [])

-- one transition between two quadruples; `Same-arcs now (a ∷ before)` adds the arc a to the set
pub data Transition : Quadruple → Move → Quadruple → Type 0 where
  shift : {j : ℕ} {first second β : List ℕ} {before now : List Arc} → SameArcs now before →
      Transition (quadruple first second (j ∷ β) before) Shift (quadruple (first ++ (second then j)) [] β now)
  left_arc : {i j l : ℕ} {first second β : List ℕ} {before now : List Arc} →
      (i ≢ 0) → HeadlessIn before i → (Above before i j → ⊥) → SameArcs now (arc j l i ∷ before) →
      Transition (quadruple (first then i) second (j ∷ β) before) (LeftArc l) (quadruple first (i ∷ second) (j ∷ β) now)
  right_arc : {i j l : ℕ} {first second β : List ℕ} {before now : List Arc} →
      HeadlessIn before j → (Above before j i → ⊥) → SameArcs now (arc i l j ∷ before) →
      Transition (quadruple (first then i) second (j ∷ β) before) (RightArc l) (quadruple first (i ∷ second) (j ∷ β) now)
  no_arc : {i j : ℕ} {first second β : List ℕ} {before now : List Arc} → SameArcs now before →
      Transition (quadruple (first then i) second (j ∷ β) before) NoArc (quadruple first (i ∷ second) (j ∷ β) now)

-- a configuration as a quadruple
abbrev pub shown : Configuration → Quadruple
shown c = quadruple (range_with_len 0 c.left) (range_with_len c.left (c.front - c.left)) (range_with_len c.front (words c + 1 - c.front)) (table_arcs c.rows)

-- an accepted move is a transition, and one is refused only where there is none
abbrev pub AsDefined : Configuration → Move → Verdict → Configuration → Type 0
AsDefined c m (Ok a) d = Transition (shown c) m (shown d)
AsDefined c m (Err f) d = ((t : Quadruple) → Transition (shown c) m t → ⊥) × (d ≡ c)
