-- Runs of moves, and what they reach.
use Rattle.std.specs.Prelude.{◌≡◌, ℕ, ◌≤◌, true, List, [], ◌∷◌, Ok, Option}
use Rattle.treebank.specs.declared.arcs.Arc.{Arc}
use Rattle.treebank.specs.declared.moves.Move.{Move}
use Rattle.treebank.specs.declared.rows.Row.{Row}
use Rattle.treebank.specs.Moves.{Proper}
use Rattle.treebank.specs.Tables.{table_arcs}
use Rattle.treebank.specs.Trees.{SameArcs}
use Rattle.transition.specs.Meaning.{Meaning}

-- proper moves made one after the other, each permitted in its turn
pub data Run (M : Meaning) : M.Config → List Move → M.Config → Type 0 where
  stay : {c : M.Config} → Run M c [] c
  move : {c d : M.Config} {m : Move} {ms : List Move} {a : Option Arc} →
      Proper m → M.verdict c m ≡ Ok a → Run M (M.next c m) ms d → Run M c (m ∷ ms) d

-- the configuration after a list of moves, permitted or not
abbrev pub after : (M : Meaning) → M.Config → List Move → M.Config
after M c [] = c
after M c (m ∷ ms) = after M (M.next c m) ms

-- a table can be reached: some run ends finished with exactly its arcs
abbrev pub Reaches : (M : Meaning) → M.Config → List Row → Type 0
Reaches M c w = (ms : List Move) × (d : M.Config) × Run M c ms d × (M.finished d ≡ true) × SameArcs (M.arcs d) (table_arcs w)

-- a configuration that begin and accepted steps give
abbrev pub Arises : (M : Meaning) → (ℕ → M.Config) → M.Config → Type 0
Arises M start c = (n : ℕ) × (n ≤ 100) × (ms : List Move) × Run M (start n) ms c
