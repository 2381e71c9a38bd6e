-- The rows that a configuration's arcs say.
use Rattle.std.specs.Prelude.{ℕ, zero, suc, List, [], ◌∷◌, ◌++◌}
use Rattle.treebank.specs.declared.rows.Row.{Row}
use Rattle.treebank.specs.Tables.{row_of}
use Rattle.transition.specs.Meaning.{Meaning}

-- the rows of the first n words
abbrev pub config_rows : (M : Meaning) → M.Config → ℕ → List Row
config_rows M c zero = []
config_rows M c (suc n) = config_rows M c n ++ (row_of (M.arc_into c (suc n)) ∷ [])
