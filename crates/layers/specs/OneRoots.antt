-- The rule that at most one arc comes from the root.
use Rattle.std.specs.Prelude.{◌≡◌, ℕ, zero, suc, Bool, false, cond, ◌&&◌, ◌||◌, List, Some, None, Option, ◌==◌}
use Rattle.treebank.specs.declared.arcs.Arc.{Arc}
use Rattle.treebank.specs.declared.refusals.Refusal.TheVariants.{SecondRootArc}
use Rattle.treebank.specs.Trees.{◌∈◌}
use Rattle.layers_theory.specs.Rules.{Ruling}
use Rattle.layers.specs.declared.one_root.OneRoot.{OneRoot}

-- any two arcs from the root are one
abbrev pub OneRooted : List Arc → Type 0
OneRooted arcs = (a b : Arc) → a ∈ arcs → b ∈ arcs → a.head ≡ 0 → b.head ≡ 0 → a ≡ b

abbrev pub from_root : Option Arc → Bool
from_root None = false
from_root (Some a) = a.head == 0

-- an arc from the root goes into one of the first n words
abbrev pub root_taken : (ℕ → Option Arc) → ℕ → Bool
root_taken into zero = false
root_taken into (suc n) = root_taken into n || from_root (into (suc n))

abbrev pub one_root : Ruling OneRoot
one_root = record {
  Allows = λ s arcs. OneRooted arcs;
  objection = λ s n into a. cond (a.head == 0 && root_taken into n) (Some SecondRootArc) None;
}
