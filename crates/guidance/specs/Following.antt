-- Following the advice.
use Rattle.std.specs.Prelude.{◌≡◌, ℕ, true, false, ◌↔◌, List, [], ◌∷◌, Some, Ok, Option}
use Rattle.treebank.specs.declared.arcs.Arc.{Arc}
use Rattle.treebank.specs.declared.moves.Move.{Move}
use Rattle.treebank.specs.declared.rows.Row.{Row}
use Rattle.treebank.specs.Moves.{Proper}
use Rattle.treebank.specs.Tables.{GoodTable, table_arcs}
use Rattle.treebank.specs.Trees.{SameArcs}
use Rattle.transition.specs.Meaning.{Meaning}
use Rattle.transition.specs.Runs.{Reaches, Arises}

-- the advice for the table names these moves, each permitted in its turn, and ends finished
pub data Follows (M : Meaning) (w : List Row) : M.Config → List Move → M.Config → Type 0 where
  done : {c : M.Config} → M.finished c ≡ true → Follows M w c [] c
  step : {c d : M.Config} {m : Move} {ms : List Move} {a : Option Arc} →
      M.finished c ≡ false → M.advice c w ≡ Some m → Proper m → M.verdict c m ≡ Ok a → Follows M w (M.next c m) ms d → Follows M w c (m ∷ ms) d

-- following the advice ends finished with exactly the table's arcs
abbrev pub Derives : (M : Meaning) → M.Config → List Row → Type 0
Derives M c w = (ms : List Move) × (d : M.Config) × Follows M w c ms d × SameArcs (M.arcs d) (table_arcs w)

-- a good table can be reached exactly where the advice makes it
abbrev pub LedExactly : (M : Meaning) → (ℕ → M.Config) → Type 0
LedExactly M start = (c : M.Config) (w : List Row) → Arises M start c → GoodTable (M.words c) w → Reaches M c w ↔ Derives M c w
