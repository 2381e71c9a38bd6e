-- Arc-eager keeps the laws.
use Rattle.std.proofs.Common.{◌≡◌, ℕ, ◌≤◌, Bool, true, false, cond, is_some, None, Ok, Option, sym, refl, arith}
use lib.ListN.{length-replicate}
use Rattle.std.proofs.lemmas.Bool.{both_ways, true≢false}
use Rattle.treebank.specs.declared.arcs.Arc.{Arc}
use Rattle.treebank.specs.declared.moves.Move.{Move}
use Rattle.treebank.specs.declared.moves.Move.TheVariants.{Shift, LeftArc, RightArc, Reduce, NoArc}
use Rattle.treebank.specs.declared.refusals.Refusal.TheVariants.{ForeignMove, Finished, HasNoHead}
use Rattle.treebank.specs.Tables.{arc_into}
use Rattle.transition.specs.Verdicts.{refused}
use Rattle.transition.specs.Laws.{Begins, Draws, Laws}
use Rattle.arc_store.specs.Drawing.{bare}
use Rattle.arc_store.proofs.Putting.{put_fresh, none_drawn}
use Rattle.arc_store.proofs.Verdicts.{told_arc, Usual, usual_refusal, usual_test, usual_arc, foreign_exactly, lowest_level}
use Rattle.arc_eager_theory.specs.Configurations.{Configuration, words, start, finished, top}
use Rattle.arc_eager_theory.specs.Moves.{own, left_arc, right_arc, verdict, arc_eager}
use Rattle.arc_eager_theory.proofs.Kept.{Permitted, permitted, kept, inside, falls}

begins : (n : ℕ) → n ≤ 100 → Begins arc_eager n (start n)
begins n h = record {
  words = length-replicate n bare;
  bare = none_drawn 1 n;
  full = omega (arith, length-replicate n bare);
  limit = omega arith;
}

draws : (c : Configuration) (m : Move) (a : Option Arc) → Permitted c m a → words c ≤ 100 → Draws arc_eager c m a
draws c m a Permitted.shift small = (refl, λ x. (λ n. n, λ n. n))
draws c m a (Permitted.left {l = l} f) small = (refl, put_fresh c.rows (left_arc c l) small f, f)
draws c m a (Permitted.right {l = l} f) small = (refl, put_fresh c.rows (right_arc c l) small f, f)
draws c m a (Permitted.reduce n e) small = (refl, λ x. (λ k. k, λ k. k))

usual_reduce : (b : Bool) → Usual (cond b (Ok None) (refused HasNoHead))
usual_reduce true = tt
usual_reduce false = usual_refusal HasNoHead (λ e. omega arith)

usual : (c : Configuration) (m : Move) → own m ≡ true → Usual (verdict c m)
usual c Shift o = usual_test Finished (finished c) _ (λ e. omega arith) tt
usual c (LeftArc l) o = usual_test Finished (finished c) _ (λ e. omega arith) (usual_arc c.rows (left_arc c l))
usual c (RightArc l) o = usual_test Finished (finished c) _ (λ e. omega arith) (usual_arc c.rows (right_arc c l))
usual c Reduce o = usual_test Finished (finished c) _ (λ e. omega arith) (usual_reduce (is_some (arc_into c.rows (top c.stack))))
usual c NoArc o = absurd (true≢false (sym o))

others : (c : Configuration) (m : Move) → own m ≡ false → verdict c m ≡ refused ForeignMove
others c Shift o = absurd (true≢false o)
others c (LeftArc l) o = absurd (true≢false o)
others c (RightArc l) o = absurd (true≢false o)
others c Reduce o = absurd (true≢false o)
others c NoArc o = refl

pub lawful : Laws arc_eager start
lawful = record {
  beginning = begins;
  questions = λ {c} d h. told_arc c.rows d (arc_into c.rows d) refl;
  stepping = λ {c} m a h v. let (e, q) = permitted c m a v in (falls (kept h) (inside (kept h) e) m a q).0;
  drawing = λ {c} m a h v. draws c m a (permitted c m a v).1 (kept h).small;
  falling = λ {c} m a h v. let (e, q) = permitted c m a v in (falls (kept h) (inside (kept h) e) m a q).1;
  stopping = λ {c} m a h e v. both_ways _ (permitted c m a v).0 e;
  foreign = foreign_exactly arc_eager usual others;
  levels = lowest_level arc_eager usual others;
  numbers = (omega arith, omega arith);
}
