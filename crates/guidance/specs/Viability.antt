-- A relation of configurations and tables that turns out to be reachability.
use Rattle.std.specs.Prelude.{◌≡◌, ℕ, true, false, ◌↔◌, List, Some, Ok, Option}
use Rattle.treebank.specs.declared.arcs.Arc.{Arc}
use Rattle.treebank.specs.declared.moves.Move.{Move}
use Rattle.treebank.specs.declared.rows.Row.{Row}
use Rattle.treebank.specs.Moves.{Proper}
use Rattle.treebank.specs.Tables.{GoodTable, table_arcs}
use Rattle.treebank.specs.Trees.{SameArcs}
use Rattle.transition.specs.Meaning.{Meaning}
use Rattle.transition.specs.Runs.{Reaches, Arises}
use Rattle.guidance.specs.Following.{Derives}

-- the advice names a permitted move that stays within the relation
abbrev pub GoesOn : (M : Meaning) → (M.Config → List Row → Type 0) → M.Config → List Row → Type 0
GoesOn M Viable c w = (m : Move) × (a : Option Arc) × (M.advice c w ≡ Some m) × Proper m × (M.verdict c m ≡ Ok a) × Viable (M.next c m) w

-- finished, it says that the arcs are the table's; it goes back over every permitted move; the advice stays within it
pub record Viability (M : Meaning) (start : ℕ → M.Config) (Viable : M.Config → List Row → Type 0) : Type 0 where
  pub ends : {c : M.Config} (w : List Row) → Arises M start c → GoodTable (M.words c) w → M.finished c ≡ true → Viable c w ↔ SameArcs (M.arcs c) (table_arcs w)
  pub back : {c : M.Config} (w : List Row) (m : Move) (a : Option Arc) → Arises M start c → GoodTable (M.words c) w → M.verdict c m ≡ Ok a → Viable (M.next c m) w → Viable c w
  pub on : {c : M.Config} (w : List Row) → Arises M start c → GoodTable (M.words c) w → M.finished c ≡ false → Viable c w → GoesOn M Viable c w

-- then it is reachability, and what following the advice makes
abbrev pub ViableExactly : (M : Meaning) → (ℕ → M.Config) → (M.Config → List Row → Type 0) → Type 0
ViableExactly M start Viable =
    (c : M.Config) (w : List Row) → Arises M start c → GoodTable (M.words c) w → (Reaches M c w ↔ Viable c w) × (Viable c w ↔ Derives M c w)
