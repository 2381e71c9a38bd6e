-- What is known where a workbench is merely known to be sound: whatever can be decided.
use Rattle.std.proofs.Common.{◌≡◌, ℕ, ◌≤◌, Bool, true, false, ◌⊎◌, List, [], ◌∷◌, length, Some, Ok, Err, refl, inl, inr}
use Rattle.std.proofs.Math.Logic.{∥∥₁_elim, ∥∥₁_map}
use mathlib.Core.HLevel.{⊥_prop}
use Rattle.std.specs.Coded.{Coded, Coded-set, coded_bool, le_prop, codes}
use mathlib.Core.List.Memᴰ
use Rattle.treebank.specs.declared.arcs.Arc.{Arc}
use Rattle.treebank.specs.declared.rows.Row.{Row}
use Rattle.treebank.specs.Tables.{GoodTable}
use Rattle.treebank.specs.Trees.{◌∈◌, SameArcs}
use Rattle.treebank.proofs.Goodness.{good_exact}
use Rattle.transition.specs.Meaning.{Meaning}
use Rattle.workbench_model.specs.declared.answers.Answer.TheVariants.{Loaded, Made, Removed, CheckpointSet, Committed}
use Rattle.workbench_model.specs.Models.{Model, Call}
use Rattle.workbench_model.specs.Derivations.{is_same_arc}
use Rattle.workbench_model.specs.Serving.{Outcome, floor}
use Rattle.workbench_model.specs.States.{State, Sound, Served}
use Rattle.workbench_model.specs.Lasting.{Led, unreachable}
use Rattle.workbench_model.proofs.Tested.{no_way, same_exact, within_floor}

outcome_code : Coded Outcome
outcome_code = hlevel codes

served_code : Coded (Outcome × Model)
served_code = hlevel codes

-- a call
pub merely_served : {M : Meaning} {b d : State M} {call : Call} {a : Outcome} → ∥ Sound M b ∥₁ → d.start ≡ b.start → (Sound M b → Served M b call a d) → Served M b call a d
merely_served h e f = record {
  is = ∥∥₁_elim h (Coded-set served_code _ _) (λ s. (f s).is);
  same = e;
  sound = λ s. (f s).sound s;
}

pub merely_within : {M : Meaning} (b : State M) → ∥ Sound M b ∥₁ → floor b.model.checkpoint ≤ length b.model.moves
merely_within b h = ∥∥₁_elim h le_prop (λ s. within_floor b.model.checkpoint (length b.model.moves) s.within)

-- arcs
in_or : (a : Arc) (arcs : List Arc) → (a ∈ arcs) ⊎ ((a ∈ arcs) → ⊥)
in_or a [] = inr (λ m. Memᴰ.not-nil m)
in_or a (b ∷ arcs) = at (is_same_arc (Some a) (Some b)) refl (in_or a arcs)
  where
    at : (t : Bool) → is_same_arc (Some a) (Some b) ≡ t → (a ∈ arcs) ⊎ ((a ∈ arcs) → ⊥) → (a ∈ (b ∷ arcs)) ⊎ ((a ∈ (b ∷ arcs)) → ⊥)
    at true e r = let f : Some a ≡ Some b = (same_exact (Some a) (Some b)).0 e in let g : a ≡ b = cc in inl (Memᴰ.head g)
    at false e (inl m) = inl (Memᴰ.tail m)
    at false e (inr never) = inr (λ m. elim (Memᴰ.cases_cons m) [
      | inl g ↦ (let f : is_same_arc (Some a) (Some b) ≡ true = (same_exact (Some a) (Some b)).1 cc in no_way (cc))
      | inr k ↦ never k
    ])

merely_in : (a : Arc) (arcs : List Arc) → ∥ (a ∈ arcs) ∥₁ → a ∈ arcs
merely_in a arcs h = elim (in_or a arcs) [
  | inl m ↦ m
  | inr never ↦ absurd (∥∥₁_elim h ⊥_prop never)
]

pub merely_same : (xs ys : List Arc) → ∥ SameArcs xs ys ∥₁ → SameArcs xs ys
merely_same xs ys h a = (λ m. merely_in a ys (∥∥₁_map h (λ f. (f a).0 m)), λ m. merely_in a xs (∥∥₁_map h (λ f. (f a).1 m)))

-- tables
pub merely_good : (n : ℕ) (w : List Row) → ∥ GoodTable n w ∥₁ → GoodTable n w
merely_good n w h = (good_exact n w).0 (∥∥₁_elim h (Coded-set coded_bool _ _) (λ g. (good_exact n w).1 g))

-- a derive
merely_made : (a : Outcome) → ∥ ((n : ℕ) × (a ≡ Ok (Made n))) ∥₁ → (n : ℕ) × (a ≡ Ok (Made n))
merely_made (Ok Loaded) h = absurd (∥∥₁_elim h ⊥_prop (λ (n, e). no_way (cc)))
merely_made (Ok (Made n)) h = (n, refl)
merely_made (Ok (Removed n)) h = absurd (∥∥₁_elim h ⊥_prop (λ (n, e). no_way (cc)))
merely_made (Ok CheckpointSet) h = absurd (∥∥₁_elim h ⊥_prop (λ (n, e). no_way (cc)))
merely_made (Ok Committed) h = absurd (∥∥₁_elim h ⊥_prop (λ (n, e). no_way (cc)))
merely_made (Err f) h = absurd (∥∥₁_elim h ⊥_prop (λ (n, e). no_way (cc)))

pub merely_led : {M : Meaning} {w : List Row} {c d : M.Config} (a : Outcome) → ∥ Led M w c a d ∥₁ → Led M w c a d
merely_led {M} {w} {c} {d} a h = record {
  refused = (λ e r. ∥∥₁_elim h ⊥_prop (λ l. l.refused.0 e r), λ never. ∥∥₁_elim h (Coded-set outcome_code a unreachable) (λ l. l.refused.1 never));
  accepted = λ other.
      let (n, made) = merely_made a (∥∥₁_map h (λ l. ((l.accepted other).0, (l.accepted other).1))) in
      (n, made, ∥∥₁_elim h (Coded-set coded_bool _ _) (λ l. (l.accepted other).2), merely_same _ _ (∥∥₁_map h (λ l. (l.accepted other).3)));
}
