-- The laws of Label-Set.
use Rattle.std.specs.Prelude.{◌≡◌, ℕ, ◌-◌, Bool, true, false, cond, ◌&&◌, ◌⊎◌, List, Some, None, ◌≢◌, nat_le, slice_index_or, refl}
use Rattle.std.proofs.Common.{sym, subst, inl, inr}
use mathlib.Core.List.Memᴰ
use Rattle.std.proofs.lemmas.Bool.{and_parts, and_from, leb-true, le-leb, cond-true}
use Rattle.treebank.specs.declared.arcs.Arc.{Arc}
use Rattle.treebank.specs.declared.refusals.Refusal.TheVariants.{LabelNotInSet, ForeignMove}
use Rattle.treebank.specs.Trees.{◌∈◌}
use Rattle.layers_theory.specs.Rules.{RuleLaws}
use Rattle.layers.specs.LabelSets.{Marked, is_marked, label_set}

marked_true : (marks : List Bool) (l : ℕ) → is_marked marks l ≡ true → Marked marks l
marked_true marks l e =
    let (low, rest) = and_parts (nat_le 1 l) (nat_le l 200 && slice_index_or marks (l - 1) false) e in
    let (high, yes') = and_parts (nat_le l 200) (slice_index_or marks (l - 1) false) rest in
    ((leb-true 1 l low, leb-true l 200 high), yes')

true_marked : (marks : List Bool) (l : ℕ) → Marked marks l → is_marked marks l ≡ true
true_marked marks l ((low, high), yes') = and_from (nat_le 1 l) _ (le-leb 1 l low) (and_from (nat_le l 200) _ (le-leb l 200 high) yes')

-- no objection is raised exactly where the test passes
unobjected : (b : Bool) → cond b None (Some LabelNotInSet) ≡ None → b ≡ true
unobjected true e = refl
unobjected false e = cc

not_foreign : (b : Bool) → cond b None (Some LabelNotInSet) ≢ Some ForeignMove
not_foreign true e = cc
not_foreign false e = cc

one_more : (marks : List Bool) (a : Arc) (arcs : List Arc) → ((b : Arc) → b ∈ arcs → Marked marks b.label) → Marked marks a.label → (b : Arc) → (b ≡ a) ⊎ (b ∈ arcs) → Marked marks b.label
one_more marks a arcs old new b (inl e) = subst (λ (x : Arc). Marked marks x.label) (sym e) new
one_more marks a arcs old new b (inr m) = old b m

pub marks_lawful : RuleLaws label_set
marks_lawful = record {
  none = λ s a m. absurd (Memᴰ.not-nil m);
  fewer = λ s xs ys within all a m. all a (within a m);
  exact = λ s n arcs into a few forest tells fresh old. (
    λ e b m. one_more s.marks a arcs old (marked_true s.marks a.label (unobjected (is_marked s.marks a.label) e)) b (Memᴰ.cases_cons m),
    λ all. cond-true (is_marked s.marks a.label) None (Some LabelNotInSet) (true_marked s.marks a.label (all a (Memᴰ.head refl))),
  );
  own = λ s n into a e. not_foreign (is_marked s.marks a.label) e;
}
