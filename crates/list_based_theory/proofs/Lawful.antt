-- The list-based system keeps the laws.
use Rattle.std.proofs.Common.{◌≡◌, ℕ, ◌+◌, ◌-◌, ◌<◌, ◌≤◌, true, false, cond, Ok, Option, sym, refl, ap, arith}
use lib.ListN.{length-replicate}
use Rattle.std.proofs.lemmas.Bool.{both_ways, true≢false}
use Rattle.treebank.specs.declared.arcs.Arc.{Arc}
use Rattle.treebank.specs.declared.moves.Move.{Move}
use Rattle.treebank.specs.declared.moves.Move.TheVariants.{Shift, LeftArc, RightArc, Reduce, NoArc}
use Rattle.treebank.specs.declared.refusals.Refusal.TheVariants.{ForeignMove, Finished, TooFewNodes}
use Rattle.treebank.specs.Tables.{arc, arc_into}
use Rattle.transition.specs.Meaning.{Verdict}
use Rattle.transition.specs.Verdicts.{refused}
use Rattle.transition.specs.Laws.{Begins, Draws, Laws}
use Rattle.arc_store.specs.Drawing.{bare}
use Rattle.arc_store.proofs.Putting.{put_length, put_fresh, none_drawn}
use Rattle.arc_store.proofs.Verdicts.{impossible, passed, told_arc, Usual, usual_test, usual_arc, foreign_exactly, lowest_level}
use Rattle.list_based_theory.specs.Configurations.{Configuration, words, start, finished, emptied, ceiling, remaining}
use Rattle.list_based_theory.specs.Moves.{own, left_arc, right_arc, verdict, next, list_based}
use Rattle.list_based_theory.proofs.Accepted.{Makes, makes}
use Rattle.list_based_theory.proofs.Kept.{Kept, kept, ceiling_up}

begins : (n : ℕ) → n ≤ 100 → Begins list_based n (start n)
begins n h = record {
  words = length-replicate n bare;
  bare = none_drawn 1 n;
  full = omega (arith, ap ceiling (length-replicate n bare));
  limit = ceiling_up n 100 h;
}

draws : {c d : Configuration} {m : Move} {a : Option Arc} → Makes c m a d → d ≡ next c m → words c ≤ 100 → Draws list_based c m a
draws (Makes.shift h) e small = (refl, λ x. (λ m. m, λ m. m))
draws (Makes.left {b = b} {k = k} {l = l} {w = w} h g f) e small = (refl, put_fresh w (arc b l (k - 1)) small f, f)
draws (Makes.right {b = b} {k = k} {l = l} {w = w} h g f) e small = (refl, put_fresh w (arc (k - 1) l b) small f, f)
draws (Makes.pass h g) e small = (refl, λ x. (λ m. m, λ m. m))

same_words : {c d : Configuration} {m : Move} {a : Option Arc} → Makes c m a d → (words d ≡ words c) × (d.made ≡ c.made + 1) × (c.front ≤ words c)
same_words (Makes.shift h) = (refl, refl, h)
same_words (Makes.left {b = b} {k = k} {l = l} {w = w} h g f) = (put_length w (arc b l (k - 1)), refl, h)
same_words (Makes.right {b = b} {k = k} {l = l} {w = w} h g f) = (put_length w (arc (k - 1) l b), refl, h)
same_words (Makes.pass h g) = (refl, refl, h)

falls : (c d : Configuration) → Kept c → (words d ≡ words c) × (d.made ≡ c.made + 1) × (c.front ≤ words c) → remaining d < remaining c
falls c d k (same, more, inside) =
    let e : ceiling (words d) ≡ ceiling (words c) = ap ceiling same in
    omega (arith, k.count, ceiling_up c.front (words c) inside)

-- behind the two tests before every move but Shift
usual_both : (c : Configuration) (v : Verdict) → Usual v → Usual (cond (finished c) (refused Finished) (cond (emptied c) (refused TooFewNodes) v))
usual_both c v u = usual_test Finished (finished c) _ (λ e. omega arith) (usual_test TooFewNodes (emptied c) _ (λ e. omega arith) u)

usual : (c : Configuration) (m : Move) → own m ≡ true → Usual (verdict c m)
usual c Shift o = usual_test Finished (finished c) _ (λ e. omega arith) tt
usual c (LeftArc l) o = usual_both c _ (usual_arc c.rows (left_arc c l))
usual c (RightArc l) o = usual_both c _ (usual_arc c.rows (right_arc c l))
usual c Reduce o = absurd (true≢false (sym o))
usual c NoArc o = usual_both c _ tt

others : (c : Configuration) (m : Move) → own m ≡ false → verdict c m ≡ refused ForeignMove
others c Shift o = absurd (true≢false o)
others c (LeftArc l) o = absurd (true≢false o)
others c (RightArc l) o = absurd (true≢false o)
others c Reduce o = refl
others c NoArc o = absurd (true≢false o)

stops : (c : Configuration) (m : Move) (a : Option Arc) → finished c ≡ true → verdict c m ≡ Ok a → ⊥
stops c Shift a e v = both_ways (finished c) (passed Finished (finished c) _ v).0 e
stops c (LeftArc l) a e v = both_ways (finished c) (passed Finished (finished c) _ v).0 e
stops c (RightArc l) a e v = both_ways (finished c) (passed Finished (finished c) _ v).0 e
stops c Reduce a e v = impossible v
stops c NoArc a e v = both_ways (finished c) (passed Finished (finished c) _ v).0 e

pub lawful : Laws list_based start
lawful = record {
  beginning = begins;
  questions = λ {c} d h. told_arc c.rows d (arc_into c.rows d) refl;
  stepping = λ {c} m a h v. (same_words (makes c m a v)).0;
  drawing = λ {c} m a h v. draws (makes c m a v) refl (kept h).small;
  falling = λ {c} m a h v. falls c (next c m) (kept h) (same_words (makes c m a v));
  stopping = λ {c} m a h e v. stops c m a e v;
  foreign = foreign_exactly list_based usual others;
  levels = lowest_level list_based usual others;
  numbers = (omega arith, omega arith);
}
