-- What each move of arc-standard is permitted for, and what it leads to.
use Rattle.std.specs.Prelude.{ℕ, ◌+◌, ◌*◌, Bool, true, false, cond, List, [], ◌∷◌, Some, None, Ok, Option}
use Rattle.treebank.specs.declared.arcs.Arc.{Arc}
use Rattle.treebank.specs.declared.moves.Move.{Move}
use Rattle.treebank.specs.declared.moves.Move.TheVariants.{Shift, LeftArc, RightArc, Reduce, NoArc}
use Rattle.treebank.specs.declared.rows.Row.{Row}
use Rattle.treebank.specs.declared.refusals.Refusal.TheVariants.{ForeignMove, Finished, TooFewNodes}
use Rattle.treebank.specs.Tables.{arc, arc_into, table_arcs}
use Rattle.transition.specs.Meaning.{Meaning, Verdict}
use Rattle.transition.specs.Verdicts.{refused, drawn}
use Rattle.arc_store.specs.Drawing.{put, arc_verdict}
use Rattle.arc_standard_theory.specs.Configurations.{Configuration, configuration, words, emptied, finished, top_two, remaining}
use Rattle.arc_standard_theory.specs.Advice.{advice}

abbrev pub own : Move → Bool
own Shift = true
own (LeftArc l) = true
own (RightArc l) = true
own Reduce = false
own NoArc = false

-- an arc between the two nodes at the top of the stack
abbrev pub between : List Row → (ℕ → ℕ → Arc) → Option (ℕ × ℕ) → Verdict
between w draw None = refused TooFewNodes
between w draw (Some (i, j)) = drawn (arc_verdict w (draw i j))

-- Left-Arc draws from the top to the second node, Right-Arc from the second node to the top
abbrev pub left_arc : ℕ → ℕ → ℕ → Arc
left_arc l i j = arc j l i

abbrev pub right_arc : ℕ → ℕ → ℕ → Arc
right_arc l i j = arc i l j

abbrev pub unless_finished : Configuration → Verdict → Verdict
unless_finished c v = cond (finished c) (refused Finished) v

abbrev pub verdict : Configuration → Move → Verdict
verdict c Shift = unless_finished c (cond (emptied c) (refused TooFewNodes) (Ok None))
verdict c (LeftArc l) = unless_finished c (between c.rows (left_arc l) (top_two c.stack))
verdict c (RightArc l) = unless_finished c (between c.rows (right_arc l) (top_two c.stack))
verdict c Reduce = refused ForeignMove
verdict c NoArc = refused ForeignMove

-- the dependent leaves the stack
abbrev pub left_next : Configuration → ℕ → List ℕ → Configuration
left_next c l [] = c
left_next c l (j ∷ []) = c
left_next c l (j ∷ (i ∷ s)) = configuration (j ∷ s) c.front (put c.rows (left_arc l i j))

abbrev pub right_next : Configuration → ℕ → List ℕ → Configuration
right_next c l [] = c
right_next c l (j ∷ []) = c
right_next c l (j ∷ (i ∷ s)) = configuration (i ∷ s) c.front (put c.rows (right_arc l i j))

abbrev pub next : Configuration → Move → Configuration
next c Shift = configuration (c.front ∷ c.stack) (c.front + 1) c.rows
next c (LeftArc l) = left_next c l c.stack
next c (RightArc l) = right_next c l c.stack
next c Reduce = c
next c NoArc = c

abbrev pub arc_standard : Meaning
arc_standard = record {
  Config = Configuration;
  words = words;
  arcs = λ c. table_arcs c.rows;
  arc_into = λ c d. arc_into c.rows d;
  finished = finished;
  remaining = remaining;
  verdict = verdict;
  next = next;
  advice = advice;
  own = own;
  ceiling = λ n. 2 * n;
  number = 1;
  height = 0;
}
