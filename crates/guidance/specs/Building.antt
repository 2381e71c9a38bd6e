-- Building a table from the start.
use Rattle.std.specs.Prelude.{◌≡◌, ℕ, ◌<◌, ◌≤◌, true, ◌⊎◌, List, ◌++◌, length}
use Rattle.treebank.specs.declared.moves.Move.{Move}
use Rattle.treebank.specs.declared.rows.Row.{Row}
use Rattle.treebank.specs.declared.refusals.Refusal.TheVariants.{TooManyWords, BadRow, Unreachable}
use Rattle.treebank.specs.Tables.{GoodTable, arc_into, table_arcs}
use Rattle.treebank.specs.Trees.{SameArcs}
use Rattle.transition.specs.Meaning.{Meaning}
use Rattle.transition.specs.Runs.{Run, Reaches}
use Rattle.guidance.specs.declared.errors.BuildError.{BuildError}
use Rattle.guidance.specs.declared.errors.BuildError.TheVariants.{Refused, NoMemory}
use Rattle.guidance.specs.Following.{Follows}

-- into each of n words the configuration and the table have the same arc
abbrev pub Agrees : (M : Meaning) → M.Config → ℕ → List Row → Type 0
Agrees M c n w = (d : ℕ) → 1 ≤ d → d ≤ n → M.arc_into c d ≡ arc_into w d

-- the moves are those that the advice names; they lead from the start to the configuration, which is finished with exactly the table's arcs
pub record Built (M : Meaning) (start : ℕ → M.Config) (w : List Row) (ms : List Move) (d : M.Config) : Type 0 where
  pub good : (length w ≤ 100) × GoodTable (length w) w
  pub follows : Follows M w (start (length w)) ms d
  pub run : Run M (start (length w)) ms d
  pub finished : M.finished d ≡ true
  pub same : SameArcs (M.arcs d) (table_arcs w)

-- following the advice from the start has come to the configuration by these moves: to follow it further is to follow it from the start;
-- and the table can still be reached if it could be
pub record Led (M : Meaning) (start : ℕ → M.Config) (reliable : Type 0) (n : ℕ) (w : List Row) (ms : List Move) (d : M.Config) : Type 0 where
  pub run : Run M (start n) ms d
  pub onward : {xs : List Move} {e : M.Config} → Follows M w d xs e → Follows M w (start n) (ms ++ xs) e
  pub still : reliable → Reaches M (start n) w → Reaches M d w

-- following the advice came to nothing: where it is reliable the table cannot be reached
abbrev pub Stuck : (M : Meaning) → (ℕ → M.Config) → Type 0 → ℕ → List Row → BuildError → Type 0
Stuck M start reliable n w (Refused why) = (why ≡ Unreachable) × (reliable → Reaches M (start n) w → ⊥)
Stuck M start reliable n w NoMemory = Unit {0}

-- refused before the system was touched, or after, and then begun anew: over 100 rows, else a row that is not good, else stuck
abbrev pub NotBuilt : {S : Type 0} (M : Meaning) → (S → M.Config) → (ℕ → M.Config) → Type 0 → List Row → S → BuildError → S → Type 0
NotBuilt M conf start reliable w s e t =
    ((100 < length w) × (e ≡ Refused TooManyWords) × (t ≡ s))
    ⊎ (((length w ≤ 100) × (GoodTable (length w) w → ⊥) × (e ≡ Refused BadRow) × (t ≡ s))
    ⊎ ((length w ≤ 100) × GoodTable (length w) w × Stuck M start reliable (length w) w e × (conf t ≡ start (length w))))
