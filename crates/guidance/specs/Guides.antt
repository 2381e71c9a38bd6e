-- The law of advice.
use Rattle.std.specs.Prelude.{◌≡◌, ℕ, true, false, List, Some, None, Ok, Option}
use Rattle.treebank.specs.declared.arcs.Arc.{Arc}
use Rattle.treebank.specs.declared.moves.Move.{Move}
use Rattle.treebank.specs.declared.rows.Row.{Row}
use Rattle.treebank.specs.Moves.{Proper}
use Rattle.treebank.specs.Tables.{GoodTable}
use Rattle.transition.specs.Meaning.{Meaning}
use Rattle.transition.specs.Runs.{Reaches, Arises}

-- the answer is a permitted move after which the table can still be reached
abbrev pub Leads : (M : Meaning) → M.Config → List Row → Option Move → Type 0
Leads M c w r = (m : Move) × (a : Option Arc) × (r ≡ Some m) × Proper m × (M.verdict c m ≡ Ok a) × Reaches M (M.next c m) w

-- a configuration that is not finished, and a good table for it that can be reached
pub record WithinReach (M : Meaning) (start : ℕ → M.Config) (c : M.Config) (w : List Row) : Type 0 where
  pub arises : Arises M start c
  pub unfinished : M.finished c ≡ false
  pub good : GoodTable (M.words c) w
  pub reaches : Reaches M c w

-- the advice leads to every good table that can be reached; it is none when finished and for a table that is not good
pub record Guides (M : Meaning) (start : ℕ → M.Config) : Type 0 where
  pub leads : {c : M.Config} (w : List Row) → WithinReach M start c w → Leads M c w (M.advice c w)
  pub ended : {c : M.Config} (w : List Row) → Arises M start c → M.finished c ≡ true → M.advice c w ≡ None
  pub only_good : {c : M.Config} (w : List Row) → Arises M start c → (GoodTable (M.words c) w → ⊥) → M.advice c w ≡ None
