-- A class of tables that a system reaches from a new start, and no other.
use Rattle.std.specs.Prelude.{◌≡◌, ℕ, ◌<◌, ◌≤◌, true, ◌⊎◌, ◌↔◌, List, length}
use Rattle.treebank.specs.declared.moves.Move.{Move}
use Rattle.treebank.specs.declared.rows.Row.{Row}
use Rattle.treebank.specs.declared.refusals.Refusal.TheVariants.{TooManyWords, BadRow, Unreachable}
use Rattle.treebank.specs.Tables.{GoodTable, table_arcs}
use Rattle.treebank.specs.Trees.{SameArcs}
use Rattle.transition.specs.Meaning.{Meaning}
use Rattle.transition.specs.Runs.{Run, Reaches}
use Rattle.guidance.specs.declared.errors.BuildError.{BuildError}
use Rattle.guidance.specs.declared.errors.BuildError.TheVariants.{Refused, NoMemory}
use Rattle.guidance.specs.Following.{Follows}

-- the good tables that can be reached are exactly those of the class
abbrev pub ReachesExactly : (M : Meaning) → (ℕ → M.Config) → (List Row → Type 0) → Type 0
ReachesExactly M start Class = (n : ℕ) (w : List Row) → n ≤ 100 → GoodTable n w → Reaches M (start n) w ↔ Class w

-- the table is of the class, and the moves, which the advice names, lead from a new start to a finished configuration with exactly its arcs
pub record Makes (M : Meaning) (start : ℕ → M.Config) (Class : List Row → Type 0) (w : List Row) (ms : List Move) : Type 0 where
  pub good : (length w ≤ 100) × GoodTable (length w) w
  pub class : Class w
  pub run : (d : M.Config) × Follows M w (start (length w)) ms d × Run M (start (length w)) ms d × (M.finished d ≡ true) × SameArcs (M.arcs d) (table_arcs w)

-- over 100 rows, else a row that is not good, else a table not of the class; or memory was wanting
abbrev pub MakesNot : (List Row → Type 0) → List Row → BuildError → Type 0
MakesNot Class w (Refused why) =
    ((100 < length w) × (why ≡ TooManyWords))
    ⊎ (((length w ≤ 100) × (GoodTable (length w) w → ⊥) × (why ≡ BadRow))
    ⊎ ((length w ≤ 100) × GoodTable (length w) w × (Class w → ⊥) × (why ≡ Unreachable)))
MakesNot Class w NoMemory = (length w ≤ 100) × GoodTable (length w) w
