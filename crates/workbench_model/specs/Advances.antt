-- Following the advice from where a workbench stands.
use Rattle.std.specs.Prelude.{◌≡◌, ℕ, ◌≤◌, Bool, cond, List, ◌++◌, Some, None}
use Rattle.treebank.specs.declared.moves.Move.{Move}
use Rattle.treebank.specs.declared.rows.Row.{Row}
use Rattle.transition.specs.Meaning.{Meaning}
use Rattle.transition.specs.Runs.{Run}
use Rattle.workbench_model.specs.Derivations.{followed}

-- the moves ms stood in configuration c; now ns stand in d, and the answer says whether the advice led to the end.
-- Where ms were a run from the start, the moves between are those that the advice names
pub record Went (M : Meaning) (start : ℕ → M.Config) (w : List Row) (ms : List Move) (c : M.Config) (end : Bool) (ns : List Move) (d : M.Config) : Type 0 where
  pub made : List Move
  pub longer : ns ≡ ms ++ made
  pub run : Run M c made d
  pub is : (n : ℕ) → n ≤ 100 → Run M (start n) ms c → followed M w (M.remaining c) c ≡ cond end (Some made) None
