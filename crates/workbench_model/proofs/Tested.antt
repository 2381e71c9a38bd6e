-- The model's tests, and what each one tells.
use Rattle.std.proofs.Common.{◌≡◌, ℕ, zero, suc, ◌≤◌, Bool, true, false, eqb, leb, ◌↔◌, List, is_some, Some, None, Ok, Err, Option, sym, refl, ap, subst, inl, inr, arith}
use Rattle.std.proofs.lemmas.Bool.{leb-true, le-leb, eqb-true, eq-eqb, and_parts, and_from, cases_order, true≢false}
use Rattle.treebank.specs.declared.arcs.Arc.{Arc}
use Rattle.treebank.specs.declared.moves.Move.{Move}
use Rattle.treebank.specs.declared.rows.Row.{Row}
use Rattle.treebank.specs.declared.refusals.Refusal.{Refusal}
use Rattle.treebank.specs.Moves.{label, Proper, ProperLabel}
use Rattle.treebank.specs.Tables.{arc_into}
use Rattle.transition.specs.declared.faults.Fault.{Fault}
use Rattle.transition.specs.Meaning.{Meaning, Verdict, fault}
use Rattle.guidance.specs.Building.{Agrees}
use Rattle.workbench_model.specs.Derivations.{is_proper_label, is_proper, is_same_arc, does_agree}
use Rattle.workbench_model.specs.Serving.{floor, moves_of, refuse_if, fault_of}
use Rattle.workbench_model.specs.States.{Within}

-- two constructors are never equal
pub no_way : {A : Type 0} → ◌≡◌ {A = ℕ} 0 1 → A
no_way z = let f : ⊥ = omega arith in absurd f

pub not_some : {A : Type 0} {B : Type 0} {x : A} → ◌≡◌ {A = Option A} (Some x) None → B
not_some e = no_way (cc)

-- a call that is not refused passed the test
pub passed : (t : Bool) (why : Refusal) (next : Option Fault) → refuse_if t why next ≡ None → (t ≡ false) × (next ≡ None)
passed true why next e = not_some e
passed false why next e = (refl, e)

-- how a test decides
pub refuses : (t : Bool) (why : Refusal) (next : Option Fault) → t ≡ true → refuse_if t why next ≡ Some (fault why 0)
refuses t why next e = ap (λ (x : Bool). refuse_if x why next) e

pub passes : (t : Bool) (why : Refusal) (next : Option Fault) → t ≡ false → refuse_if t why next ≡ next
passes t why next e = ap (λ (x : Bool). refuse_if x why next) e

pub fault_none : (v : Verdict) → fault_of v ≡ None → (a : Option Arc) × (v ≡ Ok a)
fault_none (Ok a) e = (a, refl)
fault_none (Err f) e = not_some e

pub some_moves : (o : Option (List Move)) → is_some o ≡ true → o ≡ Some (moves_of o)
some_moves None e = no_way (cc)
some_moves (Some ms) e = refl

-- the checkpoint and the length of the list
pub within_more : (k : Option ℕ) (m n : ℕ) → m ≤ n → Within k m → Within k n
within_more None m n h w = tt
within_more (Some k) m n h w = omega arith

pub within_floor : (k : Option ℕ) (n : ℕ) → Within k n → floor k ≤ n
within_floor None n w = omega arith
within_floor (Some k) n w = w

pub floor_within : (k : Option ℕ) (n : ℕ) → floor k ≤ n → Within k n
floor_within None n w = tt
floor_within (Some k) n w = w

-- the test of a move
label_true : (o : Option ℕ) → (is_proper_label o ≡ true) ↔ ProperLabel o
label_true None = (λ e. tt, λ p. refl)
label_true (Some l) = (
  λ e. let (p, q) = and_parts (leb 1 l) (leb l 200) e in (leb-true _ _ p, leb-true _ _ q),
  λ (p, q). and_from (leb 1 l) (leb l 200) (le-leb _ _ p) (le-leb _ _ q),
)

pub proper_exact : (m : Move) → (is_proper m ≡ true) ↔ Proper m
proper_exact m = label_true (label m)

-- the test of two arcs
pub same_exact : (o p : Option Arc) → (is_same_arc o p ≡ true) ↔ (o ≡ p)
same_exact None None = (λ e. refl, λ e. refl)
same_exact None (Some b) = (λ e. no_way (cc), λ e. no_way (cc))
same_exact (Some a) None = (λ e. no_way (cc), λ e. no_way (cc))
same_exact (Some a) (Some b) = (to, from)
  where
    to : is_same_arc (Some a) (Some b) ≡ true → Some a ≡ Some b
    to e =
        let (p, q) = and_parts (eqb a.head b.head) _ e in
        let (r, s) = and_parts (eqb a.label b.label) (eqb a.word b.word) q in
        let x : a.head ≡ b.head = eqb-true _ _ p in
        let y : a.label ≡ b.label = eqb-true _ _ r in
        let z : a.word ≡ b.word = eqb-true _ _ s in
        λ i. Some (record { head = x i; label = y i; word = z i })

    from : Some a ≡ Some b → is_same_arc (Some a) (Some b) ≡ true
    from e =
        let f : a ≡ b = cc in
        and_from (eqb a.head b.head) _ (eq-eqb _ _ (ap (λ (x : Arc). x.head) f))
        (and_from (eqb a.label b.label) (eqb a.word b.word) (eq-eqb _ _ (ap (λ (x : Arc). x.label) f)) (eq-eqb _ _ (ap (λ (x : Arc). x.word) f)))

-- the test of a configuration's arcs
module _ (M : Meaning) (c : M.Config) (w : List Row) where
  agrees_true : (n : ℕ) → does_agree M c n w ≡ true → Agrees M c n w
  agrees_true zero e d lo hi = absurd (omega arith)
  agrees_true (suc n) e d lo hi =
      let (p, q) = and_parts (is_same_arc (M.arc_into c (suc n)) (arc_into w (suc n))) (does_agree M c n w) e in
      elim (cases_order d (suc n)) [
        | inl i ↦ subst (λ (x : ℕ). M.arc_into c x ≡ arc_into w x) (sym i) ((same_exact _ _).0 p)
        | inr (inl l) ↦ agrees_true n q d lo (omega arith)
        | inr (inr l) ↦ absurd (let z : ⊥ = omega arith in z)
      ]

  true_agrees : (n : ℕ) → Agrees M c n w → does_agree M c n w ≡ true
  true_agrees zero h = refl
  true_agrees (suc n) h =
      and_from (is_same_arc (M.arc_into c (suc n)) (arc_into w (suc n))) (does_agree M c n w)
      ((same_exact _ _).1 (h (suc n) (omega arith) (omega arith))) (true_agrees n (λ d lo hi. h d lo (omega arith)))

  pub agrees_exact : (n : ℕ) → (does_agree M c n w ≡ true) ↔ Agrees M c n w
  agrees_exact n = (agrees_true n, true_agrees n)

-- an answer to whether something holds is the test's, where the test tells the same
pub same_test : (r t : Bool) {P : Type 0} → (r ≡ true) ↔ P → (t ≡ true) ↔ P → r ≡ t
same_test true true p q = refl
same_test true false p q = absurd (true≢false (sym (q.1 (p.0 refl))))
same_test false true p q = absurd (true≢false (sym (p.1 (q.0 refl))))
same_test false false p q = refl
