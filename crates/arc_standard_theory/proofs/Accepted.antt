-- What a permitted move is.
use Rattle.std.proofs.Common.{◌≡◌, ℕ, ◌+◌, ◌≤◌, List, [], ◌∷◌, length, Some, None, Ok, Option, sym, subst}
use Rattle.std.proofs.lemmas.Bool.{ltb-false}
use Rattle.treebank.specs.declared.arcs.Arc.{Arc}
use Rattle.treebank.specs.declared.moves.Move.{Move}
use Rattle.treebank.specs.declared.moves.Move.TheVariants.{Shift, LeftArc, RightArc, Reduce, NoArc}
use Rattle.treebank.specs.declared.rows.Row.{Row}
use Rattle.treebank.specs.declared.refusals.Refusal.TheVariants.{Finished, TooFewNodes}
use Rattle.treebank.specs.Tables.{arc, table_arcs}
use Rattle.treebank.specs.Trees.{Fresh}
use Rattle.arc_store.specs.Drawing.{put}
use Rattle.arc_store.proofs.Verdicts.{impossible, passed, stored}
use Rattle.arc_standard_theory.specs.Configurations.{Configuration, configuration, words, finished, emptied, top_two}
use Rattle.arc_standard_theory.specs.Moves.{between, left_arc, right_arc, left_next, right_next, verdict, next}

-- a permitted move, the arc that it draws, and the configuration that it leads to
pub data Makes : Configuration → Move → Option Arc → Configuration → Type 0 where
  shift : {b : ℕ} {st : List ℕ} {w : List Row} → b ≤ length w → Makes (configuration st b w) Shift None (configuration (b ∷ st) (b + 1) w)
  left : {b j i l : ℕ} {s : List ℕ} {w : List Row} → Fresh (length w) (table_arcs w) (arc j l i) →
      Makes (configuration (j ∷ (i ∷ s)) b w) (LeftArc l) (Some (arc j l i)) (configuration (j ∷ s) b (put w (arc j l i)))
  right : {b j i l : ℕ} {s : List ℕ} {w : List Row} → Fresh (length w) (table_arcs w) (arc i l j) →
      Makes (configuration (j ∷ (i ∷ s)) b w) (RightArc l) (Some (arc i l j)) (configuration (i ∷ s) b (put w (arc i l j)))

left_makes : (b l : ℕ) (st : List ℕ) (w : List Row) (a : Option Arc) → between w (left_arc l) (top_two st) ≡ Ok a → Makes (configuration st b w) (LeftArc l) a (left_next (configuration st b w) l st)
left_makes b l [] w a e = impossible e
left_makes b l (j ∷ []) w a e = impossible e
left_makes b l (j ∷ (i ∷ s)) w a e =
    let (same, fresh) = stored w (arc j l i) a e in
    subst (λ (o : Option Arc). Makes (configuration (j ∷ (i ∷ s)) b w) (LeftArc l) o (configuration (j ∷ s) b (put w (arc j l i)))) (sym same) (Makes.left fresh)

right_makes : (b l : ℕ) (st : List ℕ) (w : List Row) (a : Option Arc) → between w (right_arc l) (top_two st) ≡ Ok a → Makes (configuration st b w) (RightArc l) a (right_next (configuration st b w) l st)
right_makes b l [] w a e = impossible e
right_makes b l (j ∷ []) w a e = impossible e
right_makes b l (j ∷ (i ∷ s)) w a e =
    let (same, fresh) = stored w (arc i l j) a e in
    subst (λ (o : Option Arc). Makes (configuration (j ∷ (i ∷ s)) b w) (RightArc l) o (configuration (i ∷ s) b (put w (arc i l j)))) (sym same) (Makes.right fresh)

pub makes : (c : Configuration) (m : Move) (a : Option Arc) → verdict c m ≡ Ok a → Makes c m a (next c m)
makes c Shift a e =
    let (f, e₁) = passed Finished (finished c) _ e in
    let (t, e₂) = passed TooFewNodes (emptied c) _ e₁ in
    let i : None ≡ a = cc in
    subst (λ (o : Option Arc). Makes c Shift o (next c Shift)) i (Makes.shift (ltb-false (words c) c.front t))
makes c (LeftArc l) a e = left_makes c.front l c.stack c.rows a (passed Finished (finished c) _ e).1
makes c (RightArc l) a e = right_makes c.front l c.stack c.rows a (passed Finished (finished c) _ e).1
makes c Reduce a e = impossible e
makes c NoArc a e = impossible e
