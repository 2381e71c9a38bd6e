-- One move more.
use Rattle.std.specs.Prelude.{◌≡◌, ℕ, ◌<◌, List, [], ◌∷◌, ◌++◌, length, Ok, Err, Result}
use Rattle.treebank.specs.declared.moves.Move.{Move}
use Rattle.history.specs.declared.history.HistoryFull.{HistoryFull}

-- how many moves there is room for
abbrev pub capacity : ℕ
capacity = 5150

-- there was room, and the move stands behind the others; or there was none, and nothing changed
abbrev pub Pushed : List Move → Move → Result Unit HistoryFull → List Move → Type 0
Pushed before m (Ok u) after = (length before < capacity) × (after ≡ before ++ (m ∷ []))
Pushed before m (Err full) after = (length before ≡ capacity) × (after ≡ before)
