-- What follows from the laws alone, of every system that keeps them.
use Rattle.std.specs.Prelude.{◌≡◌, ℕ, ◌+◌, ◌≤◌, List, length}
use Rattle.treebank.specs.declared.moves.Move.{Move}
use Rattle.treebank.specs.Trees.{DependencyForest}
use Rattle.transition.specs.Meaning.{Meaning}
use Rattle.transition.specs.Runs.{Run, Arises}

pub record Theory (M : Meaning) (start : ℕ → M.Config) : Type 0 where
  -- no arc enters the root, no word has two heads, no word stands above itself
  pub forest : {c : M.Config} → Arises M start c → DependencyForest (M.arcs c)
  -- moves made and moves remaining never pass the ceiling
  pub bounded : {n : ℕ} {ms : List Move} {c : M.Config} → n ≤ 100 → Run M (start n) ms c → length ms + M.remaining c ≤ M.ceiling n
  -- the same moves from the same configuration give the same configuration
  pub same : {c d e : M.Config} {ms : List Move} → Run M c ms d → Run M c ms e → d ≡ e
