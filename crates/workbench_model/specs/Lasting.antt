-- What lasts, whatever calls a model serves.
use Rattle.std.specs.Prelude.{◌≡◌, ℕ, ◌+◌, ◌≤◌, true, ◌↔◌, List, length, Ok, Err, ◌≢◌}
use Rattle.treebank.specs.declared.rows.Row.{Row}
use Rattle.treebank.specs.declared.refusals.Refusal.TheVariants.{Unreachable}
use Rattle.treebank.specs.Tables.{table_arcs}
use Rattle.treebank.specs.Trees.{SameArcs}
use Rattle.transition.specs.Meaning.{Meaning, fault}
use Rattle.transition.specs.Runs.{Run, Reaches}
use Rattle.workbench_model.specs.declared.answers.Answer.TheVariants.{Loaded, Made, Removed, CheckpointSet, Committed}
use Rattle.workbench_model.specs.Models.{Model, config}
use Rattle.workbench_model.specs.Serving.{Outcome}
use Rattle.workbench_model.specs.States.{Within}

-- the moves standing are a run from the start
pub record Lawful (M : Meaning) (start : ℕ → M.Config) (b : Model) : Type 0 where
  pub few : b.words ≤ 100
  pub run : Run M (start b.words) b.moves (config M start b)
  pub within : Within b.checkpoint (length b.moves)

-- the moves reported made and removed since the last load
pub record Tally : Type 0 where
  pub made : ℕ
  pub removed : ℕ

abbrev pub no_moves : Tally
no_moves = record { made = 0; removed = 0 }

abbrev pub count : Tally → Outcome → Tally
count t (Ok Loaded) = no_moves
count t (Ok (Made n)) = record { made = t.made + n; removed = t.removed }
count t (Ok (Removed n)) = record { made = t.made; removed = t.removed + n }
count t (Ok CheckpointSet) = t
count t (Ok Committed) = t
count t (Err f) = t

-- each move made stands or was removed
abbrev pub Balanced : Tally → Model → Type 0
Balanced t b = t.made ≡ length b.moves + t.removed

-- a derive of a good table, by what it came to and the configurations before and after it:
-- refused as unreachable exactly where the table cannot be reached, else finished with exactly its arcs
abbrev pub unreachable : Outcome
unreachable = Err (fault Unreachable 0)

pub record Led (M : Meaning) (w : List Row) (c : M.Config) (a : Outcome) (d : M.Config) : Type 0 where
  pub refused : (a ≡ unreachable) ↔ (Reaches M c w → ⊥)
  pub accepted : (a ≢ unreachable) → (n : ℕ) × (a ≡ Ok (Made n)) × (M.finished d ≡ true) × SameArcs (M.arcs d) (table_arcs w)
