-- Arc-standard keeps the laws.
use Rattle.std.proofs.Common.{◌≡◌, ℕ, ◌<◌, ◌≤◌, true, false, List, Some, None, Ok, Option, sym, refl, arith}
use lib.ListN.{length-replicate}
use Rattle.std.proofs.lemmas.Bool.{both_ways, true≢false}
use Rattle.treebank.specs.declared.arcs.Arc.{Arc}
use Rattle.treebank.specs.declared.moves.Move.{Move}
use Rattle.treebank.specs.declared.moves.Move.TheVariants.{Shift, LeftArc, RightArc, Reduce, NoArc}
use Rattle.treebank.specs.declared.rows.Row.{Row}
use Rattle.treebank.specs.declared.refusals.Refusal.TheVariants.{ForeignMove, Finished, TooFewNodes}
use Rattle.treebank.specs.Tables.{arc, arc_into}
use Rattle.transition.specs.Verdicts.{refused}
use Rattle.transition.specs.Laws.{Begins, Draws, Laws}
use Rattle.arc_store.specs.Drawing.{bare}
use Rattle.arc_store.proofs.Putting.{put_length, put_fresh, none_drawn}
use Rattle.arc_standard_theory.specs.Configurations.{Configuration, words, start, finished, emptied, top_two, remaining}
use Rattle.arc_standard_theory.specs.Moves.{own, between, left_arc, right_arc, verdict, next, arc_standard}
use Rattle.arc_store.proofs.Verdicts.{impossible, passed, told_arc, Usual, usual_refusal, usual_test, usual_arc, foreign_exactly, lowest_level}
use Rattle.arc_standard_theory.proofs.Accepted.{Makes, makes}
use Rattle.arc_standard_theory.proofs.Kept.{kept}

begins : (n : ℕ) → n ≤ 100 → Begins arc_standard n (start n)
begins n h = record {
  words = length-replicate n bare;
  bare = none_drawn 1 n;
  full = omega (arith, length-replicate n bare);
  limit = omega arith;
}

draws : {c d : Configuration} {m : Move} {a : Option Arc} → Makes c m a d → d ≡ next c m → words c ≤ 100 → Draws arc_standard c m a
draws (Makes.shift h) e small = (refl, λ x. (λ m. m, λ m. m))
draws (Makes.left {j = j} {i = i} {l = l} {w = w} f) e small = (refl, put_fresh w (arc j l i) small f, f)
draws (Makes.right {j = j} {i = i} {l = l} {w = w} f) e small = (refl, put_fresh w (arc i l j) small f, f)

falls : {c d : Configuration} {m : Move} {a : Option Arc} → Makes c m a d → (words d ≡ words c) × (remaining d < remaining c)
falls (Makes.shift h) = (refl, omega arith)
falls (Makes.left {j = j} {i = i} {l = l} {w = w} f) = let same = put_length w (arc j l i) in (same, omega arith)
falls (Makes.right {j = j} {i = i} {l = l} {w = w} f) = let same = put_length w (arc i l j) in (same, omega arith)

usual_between : (w : List Row) (draw : ℕ → ℕ → Arc) (o : Option (ℕ × ℕ)) → Usual (between w draw o)
usual_between w draw None = usual_refusal TooFewNodes (λ e. omega arith)
usual_between w draw (Some (i, j)) = usual_arc w (draw i j)

usual : (c : Configuration) (m : Move) → own m ≡ true → Usual (verdict c m)
usual c Shift o = usual_test Finished (finished c) _ (λ e. omega arith) (usual_test TooFewNodes (emptied c) _ (λ e. omega arith) tt)
usual c (LeftArc l) o = usual_test Finished (finished c) _ (λ e. omega arith) (usual_between c.rows (left_arc l) (top_two c.stack))
usual c (RightArc l) o = usual_test Finished (finished c) _ (λ e. omega arith) (usual_between c.rows (right_arc l) (top_two c.stack))
usual c Reduce o = absurd (true≢false (sym o))
usual c NoArc o = absurd (true≢false (sym o))

others : (c : Configuration) (m : Move) → own m ≡ false → verdict c m ≡ refused ForeignMove
others c Shift o = absurd (true≢false o)
others c (LeftArc l) o = absurd (true≢false o)
others c (RightArc l) o = absurd (true≢false o)
others c Reduce o = refl
others c NoArc o = refl

stops : (c : Configuration) (m : Move) (a : Option Arc) → finished c ≡ true → verdict c m ≡ Ok a → ⊥
stops c Shift a e v = both_ways (finished c) (passed Finished (finished c) _ v).0 e
stops c (LeftArc l) a e v = both_ways (finished c) (passed Finished (finished c) _ v).0 e
stops c (RightArc l) a e v = both_ways (finished c) (passed Finished (finished c) _ v).0 e
stops c Reduce a e v = impossible v
stops c NoArc a e v = impossible v

pub lawful : Laws arc_standard start
lawful = record {
  beginning = begins;
  questions = λ {c} d h. told_arc c.rows d (arc_into c.rows d) refl;
  stepping = λ {c} m a h v. (falls (makes c m a v)).0;
  drawing = λ {c} m a h v. draws (makes c m a v) refl (kept h).small;
  falling = λ {c} m a h v. (falls (makes c m a v)).1;
  stopping = λ {c} m a h e v. stops c m a e v;
  foreign = foreign_exactly arc_standard usual others;
  levels = lowest_level arc_standard usual others;
  numbers = (omega arith, omega arith);
}
