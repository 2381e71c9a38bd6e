-- The rule that every label is in the set.
use Rattle.std.specs.Prelude.{◌≡◌, ℕ, ◌-◌, Bool, true, false, cond, ◌&&◌, List, Some, None, nat_le, slice_index_or}
use Rattle.treebank.specs.declared.arcs.Arc.{Arc}
use Rattle.treebank.specs.declared.refusals.Refusal.TheVariants.{LabelNotInSet}
use Rattle.treebank.specs.Moves.{Label}
use Rattle.treebank.specs.Trees.{◌∈◌}
use Rattle.layers_theory.specs.Rules.{Ruling}
use Rattle.layers.specs.declared.label_set.LabelSet.{LabelSet}

-- a label from 1 to 200 whose entry is yes; the first entry is that of label 1
abbrev pub Marked : List Bool → ℕ → Type 0
Marked marks l = Label l × (slice_index_or marks (l - 1) false ≡ true)

abbrev pub is_marked : List Bool → ℕ → Bool
is_marked marks l = nat_le 1 l && (nat_le l 200 && slice_index_or marks (l - 1) false)

abbrev pub label_set : Ruling LabelSet
label_set = record {
  Allows = λ s arcs. (a : Arc) → a ∈ arcs → Marked s.marks a.label;
  objection = λ s n into a. cond (is_marked s.marks a.label) None (Some LabelNotInSet);
}
