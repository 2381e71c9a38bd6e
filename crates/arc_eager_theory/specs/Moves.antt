-- What each move of arc-eager is permitted for, and what it leads to.
use Rattle.std.specs.Prelude.{ℕ, ◌+◌, ◌*◌, Bool, true, false, cond, ◌∷◌, is_some, None, Ok}
use Rattle.treebank.specs.declared.arcs.Arc.{Arc}
use Rattle.treebank.specs.declared.moves.Move.{Move}
use Rattle.treebank.specs.declared.moves.Move.TheVariants.{Shift, LeftArc, RightArc, Reduce, NoArc}
use Rattle.treebank.specs.declared.refusals.Refusal.TheVariants.{ForeignMove, Finished, HasNoHead}
use Rattle.treebank.specs.Tables.{arc, arc_into, table_arcs}
use Rattle.transition.specs.Meaning.{Meaning, Verdict}
use Rattle.transition.specs.Verdicts.{refused, drawn}
use Rattle.arc_store.specs.Drawing.{put, arc_verdict}
use Rattle.arc_eager_theory.specs.Configurations.{Configuration, configuration, words, finished, front, top, under, remaining}
use Rattle.arc_eager_theory.specs.Advice.{advice}

abbrev pub own : Move → Bool
own Shift = true
own (LeftArc l) = true
own (RightArc l) = true
own Reduce = true
own NoArc = false

-- Left-Arc draws from the buffer's first word to the top, Right-Arc from the top to the buffer's first word
abbrev pub left_arc : Configuration → ℕ → Arc
left_arc c l = arc (front c) l (top c.stack)

abbrev pub right_arc : Configuration → ℕ → Arc
right_arc c l = arc (top c.stack) l (front c)

abbrev pub unless_finished : Configuration → Verdict → Verdict
unless_finished c v = cond (finished c) (refused Finished) v

abbrev pub verdict : Configuration → Move → Verdict
verdict c Shift = unless_finished c (Ok None)
verdict c (LeftArc l) = unless_finished c (drawn (arc_verdict c.rows (left_arc c l)))
verdict c (RightArc l) = unless_finished c (drawn (arc_verdict c.rows (right_arc c l)))
verdict c Reduce = unless_finished c (cond (is_some (arc_into c.rows (top c.stack))) (Ok None) (refused HasNoHead))
verdict c NoArc = refused ForeignMove

abbrev pub next : Configuration → Move → Configuration
next c Shift = configuration (front c ∷ c.stack) (c.done + 1) c.rows
next c (LeftArc l) = configuration (under c.stack) c.done (put c.rows (left_arc c l))
next c (RightArc l) = configuration (front c ∷ c.stack) (c.done + 1) (put c.rows (right_arc c l))
next c Reduce = configuration (under c.stack) c.done c.rows
next c NoArc = c

abbrev pub arc_eager : Meaning
arc_eager = record {
  Config = Configuration;
  words = words;
  arcs = λ c. table_arcs c.rows;
  arc_into = λ c d. arc_into c.rows d;
  finished = finished;
  remaining = remaining;
  verdict = verdict;
  next = next;
  advice = advice;
  own = own;
  ceiling = λ n. 2 * n;
  number = 2;
  height = 0;
}
