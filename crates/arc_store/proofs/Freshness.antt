-- The tests permit exactly a fresh arc.
use Rattle.std.proofs.Common.{◌≡◌, ℕ, Bool, true, false, cond, eqb, ltb, ◌↔◌, List, length, is_some, Some, None, Ok, Err, Option, Result, sym, refl, ap, ◌∙◌, arith}
use Rattle.std.proofs.lemmas.Bool.{eqb-false, ne_eqb, ltb-false, le-ltb, or_parts, or_from, cond-false, both_ways}
use Rattle.treebank.specs.declared.arcs.Arc.{Arc}
use Rattle.treebank.specs.declared.rows.Row.{Row}
use Rattle.treebank.specs.declared.refusals.Refusal.{Refusal}
use Rattle.treebank.specs.declared.refusals.Refusal.TheVariants.{TooFewNodes, IntoRoot, HasHead, WouldCircle}
use Rattle.treebank.specs.Tables.{arc_into, table_arcs}
use Rattle.treebank.specs.Trees.{Fresh}
use Rattle.treebank.specs.Climbs.{comes_to}
use Rattle.treebank.proofs.Said.{mem_into, into_mem, into_word}
use Rattle.treebank.proofs.Climbing.{climb_exact}
use Rattle.arc_store.specs.Drawing.{outside, circles, arc_verdict}

-- a test that refuses was passed
passed : (e : Refusal) {a : Arc} (b : Bool) (r : Result Arc Refusal) → cond b (Err e) r ≡ Ok a → (b ≡ false) × (r ≡ Ok a)
passed k true r e = absurd (let z : ◌≡◌ {A = ℕ} 0 1 = cc in omega arith)
passed k false r e = (refl, e)

none_not : {A : Type 0} (o : Option A) → is_some o ≡ false → (x : A) → o ≡ Some x → ⊥
none_not o e x f = both_ways (is_some o) e (ap is_some f)

not_some : {A : Type 0} (o : Option A) → ((x : A) → o ≡ Some x → ⊥) → is_some o ≡ false
not_some None h = refl
not_some (Some x) h = absurd (h x refl)

module _ (w : List Row) (a : Arc) where
  bool_false : (b : Bool) → (b ≡ true → ⊥) → b ≡ false
  bool_false true h = absurd (h refl)
  bool_false false h = refl

  pub verdict_same : (b : Arc) → arc_verdict w a ≡ Ok b → b ≡ a
  verdict_same b e =
      let (p, e₁) = passed TooFewNodes (outside w a) _ e in
      let (q, e₂) = passed IntoRoot (eqb a.word 0) _ e₁ in
      let (r, e₃) = passed HasHead (is_some (arc_into w a.word)) _ e₂ in
      let (s, e₄) = passed WouldCircle (circles w a) _ e₃ in
      cc

  pub verdict_fresh : arc_verdict w a ≡ Ok a → Fresh (length w) (table_arcs w) a
  verdict_fresh e =
      let (p, e₁) = passed TooFewNodes (outside w a) _ e in
      let (q, e₂) = passed IntoRoot (eqb a.word 0) _ e₁ in
      let (r, e₃) = passed HasHead (is_some (arc_into w a.word)) _ e₂ in
      let (s, e₄) = passed WouldCircle (circles w a) _ e₃ in
      let (ph, pw) = or_parts (ltb (length w) a.head) (ltb (length w) a.word) p in
      let (sh, sw) = or_parts (eqb a.head a.word) (comes_to w a.word a.head) s in
      record {
        joins = record { word = (omega (arith, eqb-false a.word 0 q), ltb-false (length w) a.word pw); head = ltb-false (length w) a.head ph };
        headless = λ b m f. none_not (arc_into w a.word) r b (ap (arc_into w) (sym f) ∙ mem_into w m);
        apart = eqb-false a.head a.word sh;
        not_below = λ u. both_ways (comes_to w a.word a.head) sw ((climb_exact w a.word a.head).1 u);
      }

  pub fresh_verdict : Fresh (length w) (table_arcs w) a → arc_verdict w a ≡ Ok a
  fresh_verdict f =
      let (lo, hi) = f.joins.word in
      let up = f.joins.head in
      cond-false (outside w a) _ _ (or_from _ _ (le-ltb (length w) a.head up) (le-ltb (length w) a.word hi))
      ∙ cond-false (eqb a.word 0) _ _ (ne_eqb a.word 0 (λ e. omega arith))
      ∙ cond-false (is_some (arc_into w a.word)) _ _ (not_some _ (λ b e. f.headless b (into_mem w a.word b e) (into_word w a.word b e).2))
      ∙ cond-false (circles w a) _ _ (or_from _ _ (ne_eqb a.head a.word f.apart) (bool_false _ (λ t. f.not_below ((climb_exact w a.word a.head).0 t))))

  -- an answer that is the tests' tells what is fresh
  pub told_fresh : (r : Result Arc Refusal) → r ≡ arc_verdict w a → (r ≡ Ok a) ↔ Fresh (length w) (table_arcs w) a
  told_fresh r e = (λ t. verdict_fresh (sym e ∙ t), λ f. e ∙ fresh_verdict f)
