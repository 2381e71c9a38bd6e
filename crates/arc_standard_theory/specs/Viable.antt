-- The tables that a configuration can still come to.
use Rattle.std.specs.Prelude.{ℕ, ◌<◌, ◌≤◌, ◌⊎◌, List, [], ◌∷◌}
use mathlib.Core.List.{Memᴰ}
use Rattle.treebank.specs.declared.arcs.Arc.{Arc}
use Rattle.treebank.specs.declared.rows.Row.{Row}
use Rattle.treebank.specs.Tables.{table_arcs}
use Rattle.treebank.specs.Trees.{◌∈◌, Heads, Above, Acyclic, Between}
use Rattle.arc_standard_theory.specs.Configurations.{Configuration, words}

-- in play: on the stack or in the buffer
abbrev pub Play : ℕ → List ℕ → ℕ → ℕ → Type 0
Play n st b x = Memᴰ x st ⊎ ((b ≤ x) × (x ≤ n))

-- each of n words has a head
abbrev pub Total : ℕ → List Arc → Type 0
Total n W = (d : ℕ) → 1 ≤ d → d ≤ n → (h : ℕ) × Heads W h d

-- the table joins the two nodes
abbrev pub Joined : List Arc → ℕ → ℕ → Type 0
Joined W u v = Heads W u v ⊎ Heads W v u

-- the nodes of the stack over v lead up to v, wherever v is joined to a node below it
abbrev pub Spine : List Arc → List ℕ → Type 0
Spine W [] = Unit {0}
Spine W (x ∷ st) = ((u v : ℕ) → Memᴰ u st → Memᴰ v st → u < v → Joined W u v → Above W v x) × Spine W st

-- what the table asks of the nodes in play: their heads are in play, heads stand above what lies between, and the spine
pub record Rest (W : List Arc) (n : ℕ) (st : List ℕ) (b : ℕ) : Type 0 where
  pub closed : {h d : ℕ} → Heads W h d → Play n st b d → Play n st b h
  pub cover : {h d x : ℕ} → Heads W h d → Play n st b d → Play n st b x → Between h x d → Above W h x
  pub spine : Spine W st

-- the table is a tree that holds the arcs drawn, and what is in play can still be joined as it asks
pub record Viable (c : Configuration) (w : List Row) : Type 0 where
  pub acyclic : Acyclic (table_arcs w)
  pub total : Total (words c) (table_arcs w)
  pub into : (a : Arc) → a ∈ table_arcs c.rows → a ∈ table_arcs w
  pub rest : Rest (table_arcs w) (words c) c.stack c.front
