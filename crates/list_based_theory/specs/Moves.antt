-- What each move of the list-based system is permitted for, and what it leads to.
use Rattle.std.specs.Prelude.{ℕ, ◌+◌, Bool, true, false, cond, List, None, Ok}
use Rattle.treebank.specs.declared.arcs.Arc.{Arc}
use Rattle.treebank.specs.declared.moves.Move.{Move}
use Rattle.treebank.specs.declared.moves.Move.TheVariants.{Shift, LeftArc, RightArc, Reduce, NoArc}
use Rattle.treebank.specs.declared.rows.Row.{Row}
use Rattle.treebank.specs.declared.refusals.Refusal.TheVariants.{ForeignMove, Finished, TooFewNodes}
use Rattle.treebank.specs.Tables.{arc, arc_into, table_arcs}
use Rattle.transition.specs.Meaning.{Meaning, Verdict}
use Rattle.transition.specs.Verdicts.{refused, drawn}
use Rattle.arc_store.specs.Drawing.{put, arc_verdict}
use Rattle.list_based_theory.specs.Configurations.{Configuration, configuration, words, finished, emptied, last, ceiling, remaining}
use Rattle.list_based_theory.specs.Advice.{advice}

abbrev pub own : Move → Bool
own Shift = true
own (LeftArc l) = true
own (RightArc l) = true
own Reduce = false
own NoArc = true

-- Left-Arc draws from the first word of the buffer to the last node of the first list, Right-Arc the other way round
abbrev pub left_arc : Configuration → ℕ → Arc
left_arc c l = arc c.front l (last c)

abbrev pub right_arc : Configuration → ℕ → Arc
right_arc c l = arc (last c) l c.front

abbrev pub unless_finished : Configuration → Verdict → Verdict
unless_finished c v = cond (finished c) (refused Finished) v

abbrev pub unless_emptied : Configuration → Verdict → Verdict
unless_emptied c v = cond (emptied c) (refused TooFewNodes) v

abbrev pub verdict : Configuration → Move → Verdict
verdict c Shift = unless_finished c (Ok None)
verdict c (LeftArc l) = unless_finished c (unless_emptied c (drawn (arc_verdict c.rows (left_arc c l))))
verdict c (RightArc l) = unless_finished c (unless_emptied c (drawn (arc_verdict c.rows (right_arc c l))))
verdict c Reduce = refused ForeignMove
verdict c NoArc = unless_finished c (unless_emptied c (Ok None))

-- the last node of the first list goes to the front of the second
abbrev pub passed_on : Configuration → List Row → Configuration
passed_on c w = configuration c.front (last c) (c.made + 1) w

-- Shift joins both lists and the first word of the buffer into the first list
abbrev pub next : Configuration → Move → Configuration
next c Shift = configuration (c.front + 1) (c.front + 1) (c.made + 1) c.rows
next c (LeftArc l) = passed_on c (put c.rows (left_arc c l))
next c (RightArc l) = passed_on c (put c.rows (right_arc c l))
next c Reduce = c
next c NoArc = passed_on c c.rows

abbrev pub list_based : Meaning
list_based = record {
  Config = Configuration;
  words = words;
  arcs = λ c. table_arcs c.rows;
  arc_into = λ c d. arc_into c.rows d;
  finished = finished;
  remaining = remaining;
  verdict = verdict;
  next = next;
  advice = advice;
  own = own;
  ceiling = ceiling;
  number = 3;
  height = 0;
}
