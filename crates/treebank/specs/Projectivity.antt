-- What the projectivity test answers.
use Rattle.std.specs.Prelude.{◌≡◌, ◌<◌, ◌≤◌, Bool, true, ◌⊎◌, ◌↔◌, List, length, Ok, Err, Result}
use Rattle.treebank.specs.declared.rows.Row.{Row}
use Rattle.treebank.specs.declared.refusals.Refusal.{Refusal}
use Rattle.treebank.specs.declared.refusals.Refusal.TheVariants.{TooManyWords, BadRow}
use Rattle.treebank.specs.Tables.{GoodTable, table_arcs}
use Rattle.treebank.specs.Trees.{Projective}

-- over 100 rows, else a row that is not good, else whether the table is projective
abbrev pub ToldProjective : List Row → Result Bool Refusal → Type 0
ToldProjective w (Ok b) = (length w ≤ 100) × GoodTable (length w) w × ((b ≡ true) ↔ Projective (table_arcs w))
ToldProjective w (Err e) = ((100 < length w) × (e ≡ TooManyWords)) ⊎ ((length w ≤ 100) × (GoodTable (length w) w → ⊥) × (e ≡ BadRow))
