-- What a permitted move is.
use Rattle.std.proofs.Common.{◌≡◌, ℕ, ◌+◌, ◌-◌, ◌≤◌, cond, List, length, Some, None, Ok, Option, sym, subst, arith}
use Rattle.std.proofs.lemmas.Bool.{ltb-false, eqb-false}
use Rattle.treebank.specs.declared.arcs.Arc.{Arc}
use Rattle.treebank.specs.declared.moves.Move.{Move}
use Rattle.treebank.specs.declared.moves.Move.TheVariants.{Shift, LeftArc, RightArc, Reduce, NoArc}
use Rattle.treebank.specs.declared.rows.Row.{Row}
use Rattle.treebank.specs.declared.refusals.Refusal.TheVariants.{Finished, TooFewNodes}
use Rattle.treebank.specs.Tables.{arc, table_arcs}
use Rattle.treebank.specs.Trees.{Fresh}
use Rattle.transition.specs.Meaning.{Verdict}
use Rattle.transition.specs.Verdicts.{refused}
use Rattle.arc_store.specs.Drawing.{put}
use Rattle.arc_store.proofs.Verdicts.{impossible, passed, stored}
use Rattle.list_based_theory.specs.Configurations.{Configuration, configuration, words, finished, emptied}
use Rattle.list_based_theory.specs.Moves.{left_arc, right_arc, verdict, next}

-- a permitted move, the arc that it draws, and the configuration that it leads to
pub data Makes : Configuration → Move → Option Arc → Configuration → Type 0 where
  shift : {b k t : ℕ} {w : List Row} → b ≤ length w → Makes (configuration b k t w) Shift None (configuration (b + 1) (b + 1) (t + 1) w)
  left : {b k t l : ℕ} {w : List Row} → b ≤ length w → 1 ≤ k → Fresh (length w) (table_arcs w) (arc b l (k - 1)) →
      Makes (configuration b k t w) (LeftArc l) (Some (arc b l (k - 1))) (configuration b (k - 1) (t + 1) (put w (arc b l (k - 1))))
  right : {b k t l : ℕ} {w : List Row} → b ≤ length w → 1 ≤ k → Fresh (length w) (table_arcs w) (arc (k - 1) l b) →
      Makes (configuration b k t w) (RightArc l) (Some (arc (k - 1) l b)) (configuration b (k - 1) (t + 1) (put w (arc (k - 1) l b)))
  pass : {b k t : ℕ} {w : List Row} → b ≤ length w → 1 ≤ k → Makes (configuration b k t w) NoArc None (configuration b (k - 1) (t + 1) w)

-- the two tests before every move but Shift
open_both : (c : Configuration) (v : Verdict) {a : Option Arc} → cond (finished c) (refused Finished) (cond (emptied c) (refused TooFewNodes) v) ≡ Ok a → (c.front ≤ words c) × (1 ≤ c.left) × (v ≡ Ok a)
open_both c v e =
    let (f, e₁) = passed Finished (finished c) _ e in
    let (t, e₂) = passed TooFewNodes (emptied c) _ e₁ in
    (ltb-false (words c) c.front f, omega (arith, eqb-false c.left 0 t), e₂)

pub makes : (c : Configuration) (m : Move) (a : Option Arc) → verdict c m ≡ Ok a → Makes c m a (next c m)
makes c Shift a e =
    let (f, e₁) = passed Finished (finished c) _ e in
    let i : None ≡ a = cc in
    subst (λ (o : Option Arc). Makes c Shift o (next c Shift)) i (Makes.shift (ltb-false (words c) c.front f))
makes c (LeftArc l) a e =
    let (b, k, v) = open_both c _ e in
    let (same, fresh) = stored c.rows (left_arc c l) a v in
    subst (λ (o : Option Arc). Makes c (LeftArc l) o (next c (LeftArc l))) (sym same) (Makes.left b k fresh)
makes c (RightArc l) a e =
    let (b, k, v) = open_both c _ e in
    let (same, fresh) = stored c.rows (right_arc c l) a v in
    subst (λ (o : Option Arc). Makes c (RightArc l) o (next c (RightArc l))) (sym same) (Makes.right b k fresh)
makes c Reduce a e = impossible e
makes c NoArc a e =
    let (b, k, v) = open_both c _ e in
    let i : None ≡ a = cc in
    subst (λ (o : Option Arc). Makes c NoArc o (next c NoArc)) i (Makes.pass b k)
