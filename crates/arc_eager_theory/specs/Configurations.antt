-- The configurations of arc-eager.
use Rattle.std.specs.Prelude.{ℕ, ◌+◌, ◌-◌, ◌*◌, Bool, List, [], ◌∷◌, drop, length, replicate, ◌==◌}
use Rattle.treebank.specs.declared.rows.Row.{Row}
use Rattle.arc_store.specs.Drawing.{bare}

-- the stack has its top first; the buffer is the words behind `done`; the rows say the arcs
pub record Configuration : Type 0 where
  pub stack : List ℕ
  pub done : ℕ
  pub rows : List Row

abbrev pub configuration : List ℕ → ℕ → List Row → Configuration
configuration st d w = record { stack = st; done = d; rows = w }

abbrev pub words : Configuration → ℕ
words c = length c.rows

-- 0 alone on the stack, every word in the buffer, no arc
abbrev pub start : ℕ → Configuration
start n = configuration (0 ∷ []) 0 (replicate n bare)

-- the buffer is empty, whichever the stack
abbrev pub finished : Configuration → Bool
finished c = c.done == words c

-- the first word of the buffer
abbrev pub front : Configuration → ℕ
front c = c.done + 1

-- the top of a stack, and what is under it
abbrev pub top : List ℕ → ℕ
top [] = 0
top (x ∷ st) = x

abbrev pub under : List ℕ → List ℕ
under st = drop 1 st

-- two moves for each word of the buffer, one for each node of the stack but the root
abbrev pub remaining : Configuration → ℕ
remaining c = 2 * (words c - c.done) + length c.stack - 1
