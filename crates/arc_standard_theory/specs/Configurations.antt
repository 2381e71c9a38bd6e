-- The configurations of arc-standard.
use Rattle.std.specs.Prelude.{ℕ, ◌+◌, ◌-◌, ◌*◌, Bool, false, ◌&&◌, List, [], ◌∷◌, length, replicate, Some, None, Option, ◌==◌, nat_lt}
use Rattle.treebank.specs.declared.rows.Row.{Row}
use Rattle.arc_store.specs.Drawing.{bare}

-- the stack has its top first; the buffer goes from its front to the last word; the rows say the arcs
pub record Configuration : Type 0 where
  pub stack : List ℕ
  pub front : ℕ
  pub rows : List Row

abbrev pub configuration : List ℕ → ℕ → List Row → Configuration
configuration st b w = record { stack = st; front = b; rows = w }

abbrev pub words : Configuration → ℕ
words c = length c.rows

-- 0 alone on the stack, every word in the buffer, no arc
abbrev pub start : ℕ → Configuration
start n = configuration (0 ∷ []) 1 (replicate n bare)

-- the buffer is empty
abbrev pub emptied : Configuration → Bool
emptied c = nat_lt (words c) c.front

-- the stack is 0 alone
abbrev pub root_alone : List ℕ → Bool
root_alone [] = false
root_alone (x ∷ []) = x == 0
root_alone (x ∷ (y ∷ s)) = false

abbrev pub finished : Configuration → Bool
finished c = root_alone c.stack && emptied c

-- the second node of the stack and the top
abbrev pub top_two : List ℕ → Option (ℕ × ℕ)
top_two [] = None
top_two (j ∷ []) = None
top_two (j ∷ (i ∷ s)) = Some (i, j)

-- two moves for each word of the buffer, one for each node of the stack but the root
abbrev pub remaining : Configuration → ℕ
remaining c = 2 * (words c + 1 - c.front) + length c.stack - 1
