-- Dependency structures: what stands above what, forests, trees and projectivity.
use Rattle.std.specs.Prelude.{◌≡◌, ℕ, ◌<◌, ◌≤◌, ◌⊎◌, List, Some, None, Option, ◌≢◌}
use mathlib.Core.List.{Memᴰ}
use Rattle.treebank.specs.declared.arcs.Arc.{Arc}
use Rattle.treebank.specs.declared.rows.Row.{Row}
use Rattle.treebank.specs.Tables.{arc, Headless, AllRows, table_arcs}

infix 40 ◌∈◌
-- the arc is one of these
abbrev pub ◌∈◌ : Arc → List Arc → Type 0
a ∈ arcs = Memᴰ a arcs

-- one or more arcs lead from x down to y
pub data Above (arcs : List Arc) : ℕ → ℕ → Type 0 where
  one : {a : Arc} → a ∈ arcs → Above arcs a.head a.word
  more : {x : ℕ} {a : Arc} → Above arcs x a.head → a ∈ arcs → Above arcs x a.word

-- some arc leads from h to d
abbrev pub Heads : List Arc → ℕ → ℕ → Type 0
Heads arcs h d = (l : ℕ) × (arc h l d ∈ arcs)

-- no node stands above itself
abbrev pub Acyclic : List Arc → Type 0
Acyclic arcs = (x : ℕ) → Above arcs x x → ⊥

-- no word has two heads
abbrev pub SingleHeaded : List Arc → Type 0
SingleHeaded arcs = (a b : Arc) → a ∈ arcs → b ∈ arcs → a.word ≡ b.word → a ≡ b

-- no arc enters the root
abbrev pub Rootless : List Arc → Type 0
Rootless arcs = (a : Arc) → a ∈ arcs → 1 ≤ a.word

pub record DependencyForest (arcs : List Arc) : Type 0 where
  pub acyclic : Acyclic arcs
  pub single_headed : SingleHeaded arcs
  pub rootless : Rootless arcs

-- x lies strictly between y and z
abbrev pub Between : ℕ → ℕ → ℕ → Type 0
Between y x z = ((y < x) × (x < z)) ⊎ ((z < x) × (x < y))

-- the head stands above each word between the ends of the arc
abbrev pub Covered : List Arc → Arc → Type 0
Covered arcs a = (x : ℕ) → Between a.head x a.word → Above arcs a.head x

abbrev pub Projective : List Arc → Type 0
Projective arcs = (a : Arc) → a ∈ arcs → Covered arcs a

-- following heads up from a word never returns to it
abbrev pub Forest : List Row → Type 0
Forest w = Acyclic (table_arcs w)

-- a forest with no row without a head
pub record Tree (w : List Row) : Type 0 where
  pub forest : Forest w
  pub headed : AllRows (λ r. Headless r → ⊥) w

-- the same arcs, in whatever order
abbrev pub SameArcs : List Arc → List Arc → Type 0
SameArcs xs ys = (a : Arc) → (a ∈ xs → a ∈ ys) × (a ∈ ys → a ∈ xs)

-- an arc that joins nodes of a sentence of n words
pub record Joins (n : ℕ) (a : Arc) : Type 0 where
  pub word : (1 ≤ a.word) × (a.word ≤ n)
  pub head : a.head ≤ n

-- an arc that may be drawn beside the others: into a word without a head, from a node that is neither that word nor below it
pub record Fresh (n : ℕ) (arcs : List Arc) (a : Arc) : Type 0 where
  pub joins : Joins n a
  pub headless : (b : Arc) → b ∈ arcs → b.word ≢ a.word
  pub apart : a.head ≡ a.word → ⊥
  pub not_below : Above arcs a.word a.head → ⊥

-- the arc from h into d; none where no arc leads from h into d
abbrev pub Joining : List Arc → ℕ → ℕ → Option Arc → Type 0
Joining arcs h d None = Heads arcs h d → ⊥
Joining arcs h d (Some a) = (a ∈ arcs) × (a.head ≡ h) × (a.word ≡ d)
