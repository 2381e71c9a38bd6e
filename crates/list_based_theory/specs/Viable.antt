-- The tables that a configuration can still come to.
use Rattle.std.specs.Prelude.{◌≡◌, ℕ, ◌<◌, min, max, ◌⊎◌, List}
use Rattle.treebank.specs.declared.arcs.Arc.{Arc}
use Rattle.treebank.specs.declared.rows.Row.{Row}
use Rattle.treebank.specs.Tables.{table_arcs}
use Rattle.treebank.specs.Trees.{◌∈◌, Forest}
use Rattle.list_based_theory.specs.Configurations.{Configuration}

-- the ends of an arc, the earlier and the later
abbrev pub low : Arc → ℕ
low a = min a.head a.word

abbrev pub high : Arc → ℕ
high a = max a.head a.word

-- an arc that is still to come: its later end is behind the first word of the buffer, or is that word with the other end in the first list
abbrev pub Ahead : ℕ → ℕ → Arc → Type 0
Ahead b k a = (b < high a) ⊎ ((high a ≡ b) × (low a < k))

-- the table is a forest that holds the arcs drawn, and each other arc of it is still to come
pub record Viable (c : Configuration) (w : List Row) : Type 0 where
  pub forest : Forest w
  pub into : (a : Arc) → a ∈ table_arcs c.rows → a ∈ table_arcs w
  pub ahead : (a : Arc) → a ∈ table_arcs w → (a ∈ table_arcs c.rows) ⊎ Ahead c.front c.left a
