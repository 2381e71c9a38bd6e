-- What the verdicts and the advice of systems over the arc store have in common.
use Rattle.std.proofs.Common.{◌≡◌, ℕ, ◌≤◌, Bool, true, false, cond, eqb, ◌↔◌, List, length, is_some, Some, None, Ok, Err, Option, Result, sym, refl, ap, ◌∙◌, subst, arith}
use Rattle.std.proofs.lemmas.Bool.{both_ways}
use Rattle.treebank.specs.declared.arcs.Arc.{Arc}
use Rattle.treebank.specs.declared.moves.Move.{Move}
use Rattle.treebank.specs.declared.rows.Row.{Row}
use Rattle.treebank.specs.declared.refusals.Refusal.{Refusal}
use Rattle.treebank.specs.declared.refusals.Refusal.TheVariants.{ForeignMove, TooFewNodes, IntoRoot, HasHead, WouldCircle}
use Rattle.treebank.specs.Refusals.{number}
use Rattle.treebank.specs.Tables.{arc_into, table_arcs}
use Rattle.treebank.specs.Trees.{Fresh}
use Rattle.treebank.proofs.Said.{into_word, into_mem, mem_into}
use Rattle.transition.specs.declared.faults.Fault.{Fault}
use Rattle.transition.specs.Meaning.{Meaning, Verdict, fault}
use Rattle.transition.specs.Verdicts.{refused, drawn}
use Rattle.transition.specs.Laws.{ArcInto, Foreign}
use Rattle.arc_store.specs.Drawing.{outside, circles, arc_verdict}
use Rattle.arc_store.proofs.Freshness.{verdict_same, verdict_fresh}

pub impossible : {A : Type 0} {f : Fault} {a : Option Arc} → ◌≡◌ {A = Verdict} (Err f) (Ok a) → A
impossible e = absurd (let z : ◌≡◌ {A = ℕ} 0 1 = cc in omega arith)

-- a test that refuses was passed
pub passed : (why : Refusal) (b : Bool) (v : Verdict) {a : Option Arc} → cond b (refused why) v ≡ Ok a → (b ≡ false) × (v ≡ Ok a)
passed why true v e = impossible e
passed why false v e = (refl, e)

-- what the arc store permits is the arc that it was asked for, and fresh
pub stored : (w : List Row) (x : Arc) (a : Option Arc) → drawn (arc_verdict w x) ≡ Ok a → (a ≡ Some x) × Fresh (length w) (table_arcs w) x
stored w x a e = at (arc_verdict w x) refl e
  where
    at : (r : Result Arc Refusal) → arc_verdict w x ≡ r → drawn r ≡ Ok a → (a ≡ Some x) × Fresh (length w) (table_arcs w) x
    at (Ok y) v e =
        let same = verdict_same w x y v in
        let i : Some y ≡ a = cc in
        (sym i ∙ ap (λ (z : Arc). Some z) same, verdict_fresh w x (v ∙ ap (λ (z : Arc). Ok z) same))
    at (Err why) v e = impossible e

-- what is told of the arc into a word
pub told_arc : (w : List Row) (d : ℕ) (o : Option Arc) → arc_into w d ≡ o → ArcInto (length w) (table_arcs w) d o
told_arc w d None e = λ a m f. let z : None ≡ Some a = sym e ∙ ap (arc_into w) (sym f) ∙ mem_into w m in let y : ◌≡◌ {A = ℕ} 0 1 = cc in omega arith
told_arc w d (Some a) e = let (lo, hi, same) = into_word w d a e in (into_mem w d a e, same, lo, hi)

-- a refusal of one of the system's own moves: of level 0, and not as foreign
abbrev pub Usual : Verdict → Type 0
Usual (Ok a) = Unit {0}
Usual (Err f) = (f.level ≡ 0) × (f.refusal ≡ ForeignMove → ⊥)

differ : (x y : Refusal) → (number x ≡ number y → ⊥) → x ≡ y → ⊥
differ x y n e = n (ap number e)

pub usual_refusal : (why : Refusal) → (number why ≡ 3 → ⊥) → Usual (refused why)
usual_refusal why n = (refl, differ why ForeignMove n)

pub usual_test : (why : Refusal) (b : Bool) (v : Verdict) → (number why ≡ 3 → ⊥) → Usual v → Usual (cond b (refused why) v)
usual_test why true v n u = usual_refusal why n
usual_test why false v n u = u

usual_stored : (why : Refusal) (b : Bool) (r : Result Arc Refusal) → (number why ≡ 3 → ⊥) → Usual (drawn r) → Usual (drawn (cond b (Err why) r))
usual_stored why true r n u = usual_refusal why n
usual_stored why false r n u = u

pub usual_arc : (w : List Row) (a : Arc) → Usual (drawn (arc_verdict w a))
usual_arc w a =
    usual_stored TooFewNodes (outside w a) _ (λ e. omega arith)
    (usual_stored IntoRoot (eqb a.word 0) _ (λ e. omega arith)
    (usual_stored HasHead (is_some (arc_into w a.word)) _ (λ e. omega arith)
    (usual_stored WouldCircle (circles w a) _ (λ e. omega arith) tt)))

pub not_foreign : (v : Verdict) → Usual v → Foreign v → ⊥
not_foreign (Ok a) u f = f
not_foreign (Err f) u e = u.1 e

pub usual_level : (v : Verdict) (f : Fault) → Usual v → v ≡ Err f → f.level ≤ 0
usual_level (Ok a) f u e = absurd (let z : ◌≡◌ {A = ℕ} 0 1 = cc in omega arith)
usual_level (Err g) f u e = let same : g ≡ f = cc in let l = u.0 in omega (arith, ap (λ (x : Fault). x.level) same)

pub foreign_level : (f : Fault) → ◌≡◌ {A = Verdict} (refused ForeignMove) (Err f) → f.level ≤ 0
foreign_level f e = let same : fault ForeignMove 0 ≡ f = cc in omega (arith, ap (λ (x : Fault). x.level) same)

-- a system that refuses its own moves as usual, and the others as foreign
module _ (M : Meaning) (usual : (c : M.Config) (m : Move) → M.own m ≡ true → Usual (M.verdict c m)) (others : (c : M.Config) (m : Move) → M.own m ≡ false → M.verdict c m ≡ refused ForeignMove) where
  pub foreign_exactly : (c : M.Config) (m : Move) → Foreign (M.verdict c m) ↔ (M.own m ≡ false)
  foreign_exactly c m = at (M.own m) refl
    where
      at : (b : Bool) → M.own m ≡ b → Foreign (M.verdict c m) ↔ (M.own m ≡ false)
      at true o = (λ f. absurd (not_foreign _ (usual c m o) f), λ e. absurd (both_ways (M.own m) e o))
      at false o = (λ f. o, λ e. subst Foreign (sym (others c m o)) refl)

  pub lowest_level : (c : M.Config) (m : Move) (f : Fault) → M.verdict c m ≡ Err f → f.level ≤ 0
  lowest_level c m f e = at (M.own m) refl
    where
      at : (b : Bool) → M.own m ≡ b → f.level ≤ 0
      at true o = usual_level _ f (usual c m o) e
      at false o = foreign_level f (sym (others c m o) ∙ e)

-- no advice behind a test that leads to none
pub none_either : (b : Bool) {o : Option Move} → o ≡ None → cond b None o ≡ None
none_either true e = refl
none_either false e = e
