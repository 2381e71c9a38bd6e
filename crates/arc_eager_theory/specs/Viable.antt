-- The tables that a configuration can still come to.
use Rattle.std.specs.Prelude.{ℕ, ◌<◌, max, ◌⊎◌, List}
use mathlib.Core.List.{Memᴰ}
use Rattle.treebank.specs.declared.arcs.Arc.{Arc}
use Rattle.treebank.specs.declared.rows.Row.{Row}
use Rattle.treebank.specs.Tables.{table_arcs}
use Rattle.treebank.specs.Trees.{◌∈◌, Above, Acyclic, Between}
use Rattle.arc_eager_theory.specs.Configurations.{Configuration}

-- in play: on the stack, or behind the words done
abbrev pub InPlay : ℕ → List ℕ → ℕ → Type 0
InPlay d st x = Memᴰ x st ⊎ (d < x)

-- an arc that is still to come: its ends are in play, the later one in the buffer, and its head stands above what is in play between them
pub record Open (d : ℕ) (st : List ℕ) (wanted : List Arc) (a : Arc) : Type 0 where
  pub head : InPlay d st a.head
  pub word : InPlay d st a.word
  pub later : d < max a.head a.word
  pub between : (x : ℕ) → InPlay d st x → Between a.head x a.word → Above wanted a.head x

-- the table is a forest that holds the arcs drawn, and each of its arcs is drawn or still to come
pub record Viable (c : Configuration) (w : List Row) : Type 0 where
  pub within : (a : Arc) → a ∈ table_arcs c.rows → a ∈ table_arcs w
  pub forest : Acyclic (table_arcs w)
  pub open_arcs : (a : Arc) → a ∈ table_arcs w → (a ∈ table_arcs c.rows) ⊎ Open c.done c.stack (table_arcs w) a
