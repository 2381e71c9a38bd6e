-- The configurations of the list-based system.
use Rattle.std.specs.Prelude.{ℕ, ◌+◌, ◌-◌, ◌*◌, ◌/◌, Bool, List, length, replicate, ◌==◌, nat_lt}
use Rattle.treebank.specs.declared.rows.Row.{Row}
use Rattle.arc_store.specs.Drawing.{bare}

-- the first list is the nodes below `left`, the second list those from there to the front, and the buffer goes from the
-- front to the last word; `made` counts the moves, and the rows say the arcs
pub record Configuration : Type 0 where
  pub front : ℕ
  pub left : ℕ
  pub made : ℕ
  pub rows : List Row

abbrev pub configuration : ℕ → ℕ → ℕ → List Row → Configuration
configuration b k t w = record { front = b; left = k; made = t; rows = w }

abbrev pub words : Configuration → ℕ
words c = length c.rows

-- 0 in the first list, the second list empty, every word in the buffer, no arc
abbrev pub start : ℕ → Configuration
start n = configuration 1 1 0 (replicate n bare)

-- the buffer is empty
abbrev pub finished : Configuration → Bool
finished c = nat_lt (words c) c.front

-- the first list is empty
abbrev pub emptied : Configuration → Bool
emptied c = c.left == 0

-- the last node of the first list
abbrev pub last : Configuration → ℕ
last c = c.left - 1

-- the most moves that so many words take
abbrev pub ceiling : ℕ → ℕ
ceiling n = n * (n + 3) / 2

-- the ceiling less the moves made
abbrev pub remaining : Configuration → ℕ
remaining c = ceiling (words c) - c.made
