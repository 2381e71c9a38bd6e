-- Faults with their line.
use Rattle.std.proofs.Common.{◌≡◌, ℕ, IsErrAnd, Ok, Err, Result, sym, refl, ap, ◌∙◌}
use Rattle.std.proofs.lemmas.Result.{err_from_is_err_and}
use Rattle.treebank.specs.declared.refusals.Refusal.{Refusal}
use Rattle.transition.specs.declared.faults.Fault.{Fault}
use Rattle.transition.specs.Meaning.{fault}
use Rattle.sheets_theory.specs.declared.faults.SheetFault.{SheetFault}
use Rattle.sheets_theory.specs.Replays.{at_line, located, faulted}

module _ {A : Type 0} (line : ℕ) where
  pub located_ok : (r : Result A Fault) (x : A) → Ok x ≡ located line r → r ≡ Ok x
  located_ok (Ok y) x e = cc
  located_ok (Err f) x e = cc

  pub located_err : (r : Result A Fault) (d : ℕ × Fault) → Err d ≡ located line r → (r ≡ Err d.1) × (at_line d.0 d.1 ≡ at_line line d.1)
  located_err (Ok y) d e = cc
  located_err (Err f) d e =
      let p : d ≡ (line, f) = cc in
      (ap (λ (x : ℕ × Fault). Err x.1) (sym p), ap (λ (x : ℕ × Fault). at_line x.0 d.1) p)

-- what a refusal was before it was a fault
pub faulted_ok : {A : Type 0} (r : Result A Refusal) (x : A) → faulted r ≡ Ok x → r ≡ Ok x
faulted_ok (Ok y) x e = cc
faulted_ok (Err why) x e = cc

pub faulted_err : {A : Type 0} (r : Result A Refusal) (f : Fault) → faulted r ≡ Err f → (why : Refusal) × (r ≡ Err why) × (fault why 0 ≡ f)
faulted_err (Ok y) f e = cc
faulted_err (Err why) f e = (why, refl, cc)

-- the fault that a `?` passes on
pub passed_on : {A B : Type 0} (line : ℕ) (r : Result A Fault) (d : ℕ × Fault) (o : Result B SheetFault) → Err d ≡ located line r → IsErrAnd o (λ f. f ≡ at_line d.0 d.1) →
    (f : Fault) × (r ≡ Err f) × (o ≡ Err (at_line line f))
passed_on line r d o e h =
    let (f, p, q) = err_from_is_err_and o h in
    let (s, t) = located_err line r d e in
    (d.1, s, p ∙ ap (λ (x : SheetFault). Err x) (q ∙ t))
