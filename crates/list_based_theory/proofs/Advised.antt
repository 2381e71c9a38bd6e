-- From a viable configuration the advice leads on to a viable one.
use Rattle.std.proofs.Common.{◌≡◌, ℕ, ◌<◌, ◌≤◌, Bool, true, false, ◌⊎◌, List, Some, None, Option, sym, refl, ap, ◌∙◌, subst, inl, inr, arith}
use Rattle.std.proofs.lemmas.Bool.{cases_eq, eq-eqb, ne_eqb, ltb-false, cond-true, cond-false}
use Rattle.treebank.specs.declared.arcs.Arc.{Arc}
use Rattle.treebank.specs.declared.moves.Move.{Move}
use Rattle.treebank.specs.declared.moves.Move.TheVariants.{Shift, LeftArc, RightArc, NoArc}
use Rattle.treebank.specs.declared.rows.Row.{Row}
use Rattle.treebank.specs.Moves.{Label}
use Rattle.treebank.specs.Tables.{arc, GoodTable, is_good_table, arc_between, table_arcs}
use Rattle.treebank.specs.Trees.{◌∈◌, Heads}
use Rattle.treebank.proofs.Said.{joining}
use Rattle.treebank.proofs.Goodness.{good_exact, table_fits}
use Rattle.guidance.specs.Viability.{GoesOn}
use Rattle.list_based_theory.specs.Configurations.{Configuration, words, finished, emptied, last}
use Rattle.list_based_theory.specs.Moves.{left_arc, right_arc, list_based}
use Rattle.list_based_theory.specs.Advice.{joins_before, pass_advice, right_advice, left_advice, list_advice, advice}
use Rattle.list_based_theory.specs.Viable.{low, high, Viable}
use Rattle.list_based_theory.proofs.Kept.{Kept}
use Rattle.list_based_theory.proofs.Defined.{shift_permits, pass_permits, left_permits, right_permits}
use Rattle.list_based_theory.proofs.Joined.{before_none}
use Rattle.list_based_theory.proofs.Onward.{arc_fresh, arc_viable, pass_viable, shift_viable}

abbrev On : Configuration → List Row → Type 0
On c w = GoesOn list_based Viable c w

module _ (c : Configuration) (w : List Row) (good : GoodTable (words c) w) (k : Kept c) (u : finished c ≡ false) (v : Viable c w) where
  inside : c.front ≤ words c
  inside = ltb-false (words c) c.front u

  -- the advice of a good table while not finished
  advised : (m : Move) → list_advice c w ≡ Some m → advice c w ≡ Some m
  advised m e = cond-false (finished c) None _ u ∙ cond-true (is_good_table (words c) w) _ None ((good_exact (words c) w).1 good) ∙ e

  -- an arc of the table from h into d
  taken : (h d : ℕ) (a : Arc) → arc_between w h d ≡ Some a → (arc h a.label d ∈ table_arcs w) × Label a.label
  taken h d a e =
      let (m, p, q) = joining w h d (Some a) (sym e) in
      let n : arc h a.label d ∈ table_arcs w = subst (λ (x : Arc). x ∈ table_arcs w) (λ t. arc (p t) a.label (q t)) m in
      (n, (table_fits (words c) w good k.small (arc h a.label d) n).1)

  by_shift : list_advice c w ≡ Some Shift → ((x : ℕ) → x < c.left → Heads (table_arcs w) c.front x ⊎ Heads (table_arcs w) x c.front → ⊥) → On c w
  by_shift e none = (Shift, None, advised Shift e, tt, shift_permits c inside, shift_viable c w k good v none)

  -- the first list has a last node
  module _ (some : 1 ≤ c.left) where
    told : (o : Option Arc) → arc_between w c.front (last c) ≡ o → list_advice c w ≡ left_advice w (last c) c.front o
    told o e = cond-false (emptied c) _ _ (ne_eqb c.left 0 (λ z. omega arith)) ∙ ap (left_advice w (last c) c.front) e

    by_left : (a : Arc) → arc_between w c.front (last c) ≡ Some a → On c w
    by_left a e =
        let (m, label) = taken c.front (last c) a e in
        let below = k.lists in
        let hi : high (left_arc c a.label) ≡ c.front = omega arith in
        let lo : low (left_arc c a.label) ≡ last c = omega arith in (
          LeftArc a.label,
          Some (left_arc c a.label),
          advised _ (told (Some a) e),
          label,
          left_permits c inside some a.label (arc_fresh c w k good v some (left_arc c a.label) m hi lo),
          arc_viable c w k good v some (left_arc c a.label) m hi lo,
        )

    module _ (apart : arc_between w c.front (last c) ≡ None) where
      by_right : (a : Arc) → arc_between w (last c) c.front ≡ Some a → On c w
      by_right a e =
          let (m, label) = taken (last c) c.front a e in
          let below = k.lists in
          let hi : high (right_arc c a.label) ≡ c.front = omega arith in
          let lo : low (right_arc c a.label) ≡ last c = omega arith in (
            RightArc a.label,
            Some (right_arc c a.label),
            advised _ (told None apart ∙ ap (right_advice w (last c) c.front) e),
            label,
            right_permits c inside some a.label (arc_fresh c w k good v some (right_arc c a.label) m hi lo),
            arc_viable c w k good v some (right_arc c a.label) m hi lo,
          )

      -- the table joins the two in neither way
      module _ (other : arc_between w (last c) c.front ≡ None) where
        far : Heads (table_arcs w) c.front (last c) ⊎ Heads (table_arcs w) (last c) c.front → ⊥
        far (inl g) = joining w c.front (last c) None (sym apart) g
        far (inr g) = joining w (last c) c.front None (sym other) g

        so : list_advice c w ≡ pass_advice w (last c) c.front
        so = told None apart ∙ ap (right_advice w (last c) c.front) other

        by_pass : joins_before w c.front (last c) ≡ true → On c w
        by_pass t = (NoArc, None, advised NoArc (so ∙ cond-true (joins_before w c.front (last c)) _ _ t), tt, pass_permits c inside some, pass_viable c w k good v far)

        by_none : joins_before w c.front (last c) ≡ false → On c w
        by_none t = by_shift (so ∙ cond-false (joins_before w c.front (last c)) _ _ t) (λ x l g. at x l g (cases_eq x (last c)))
          where
            turned : (x : ℕ) → Heads (table_arcs w) c.front x ⊎ Heads (table_arcs w) x c.front → Heads (table_arcs w) x c.front ⊎ Heads (table_arcs w) c.front x
            turned x (inl g) = inr g
            turned x (inr g) = inl g

            at : (x : ℕ) → x < c.left → Heads (table_arcs w) c.front x ⊎ Heads (table_arcs w) x c.front → (x ≡ last c) ⊎ (x ≡ last c → ⊥) → ⊥
            at x l g (inl e) = far (subst (λ (y : ℕ). Heads (table_arcs w) c.front y ⊎ Heads (table_arcs w) y c.front) e g)
            at x l g (inr e) = before_none w c.front (last c) x t (omega arith) (turned x g)

        neither : On c w
        neither = at (joins_before w c.front (last c)) refl
          where
            at : (t : Bool) → joins_before w c.front (last c) ≡ t → On c w
            at true t = by_pass t
            at false t = by_none t

      not_left : On c w
      not_left = at (arc_between w (last c) c.front) refl
        where
          at : (o : Option Arc) → arc_between w (last c) c.front ≡ o → On c w
          at None e = neither e
          at (Some a) e = by_right a e

    with_last : On c w
    with_last = at (arc_between w c.front (last c)) refl
      where
        at : (o : Option Arc) → arc_between w c.front (last c) ≡ o → On c w
        at None e = not_left e
        at (Some a) e = by_left a e

  pub on_any : On c w
  on_any = at (cases_eq c.left 0)
    where
      at : (c.left ≡ 0) ⊎ (c.left ≡ 0 → ⊥) → On c w
      at (inl e) = by_shift (cond-true (emptied c) _ _ (eq-eqb c.left 0 e)) (λ x l g. omega arith)
      at (inr e) = with_last (omega arith)
