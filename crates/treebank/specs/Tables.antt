-- Rows and tables: the head and the label of each word, and the arcs that they say.
use Rattle.std.specs.Prelude.{◌≡◌, ℕ, ◌+◌, ◌-◌, ◌<◌, ◌≤◌, Bool, true, cond, ◌&&◌, ◌||◌, ◌⊎◌, List, [], ◌∷◌, length, is_some, Some, None, Option, ◌==◌, nat_le, nat_lt, slice_index_or}
use Rattle.treebank.specs.declared.arcs.Arc.{Arc}
use Rattle.treebank.specs.declared.rows.Row.{Row}
use Rattle.treebank.specs.Moves.{Label}

abbrev pub row : ℕ → ℕ → Row
row h l = record { head = h; label = l }

abbrev pub arc : ℕ → ℕ → ℕ → Arc
arc h l d = record { head = h; label = l; word = d }

-- a row without a head
abbrev pub Headless : Row → Type 0
Headless r = (r.head ≡ 255) × (r.label ≡ 0)

-- a row that a table of n words may hold
abbrev pub GoodRow : ℕ → Row → Type 0
GoodRow n r = Headless r ⊎ ((r.head ≤ n) × Label r.label)

-- the row at a place from 0 on
abbrev pub row_at : List Row → ℕ → Row
row_at w k = slice_index_or w k (row 0 0)

abbrev pub AllRows : (Row → Type 0) → List Row → Type 0
AllRows P w = (k : ℕ) → k < length w → P (row_at w k)

-- a table of n words: n rows, all good
pub record GoodTable (n : ℕ) (w : List Row) : Type 0 where
  pub rows : length w ≡ n
  pub good : AllRows (GoodRow n) w

-- the tests of a row and of a table
abbrev pub is_good_row : ℕ → Row → Bool
is_good_row n r = (r.head == 255 && r.label == 0) || (nat_le r.head n && (nat_le 1 r.label && nat_le r.label 200))

abbrev pub are_good_rows : ℕ → List Row → Bool
are_good_rows n [] = true
are_good_rows n (r ∷ w) = is_good_row n r && are_good_rows n w

abbrev pub is_good_table : ℕ → List Row → Bool
is_good_table n w = length w == n && are_good_rows n w

-- the first row that is not good
abbrev pub FirstBad : ℕ → List Row → Option ℕ → Type 0
FirstBad n w None = AllRows (GoodRow n) w
FirstBad n w (Some i) = (i < length w) × (GoodRow n (row_at w i) → ⊥) × ((k : ℕ) → k < i → GoodRow n (row_at w k))

-- the arc that the row of word d says
abbrev pub row_arc : ℕ → Row → Option Arc
row_arc d r = cond (r.head == 255) None (Some (arc r.head r.label d))

-- the arc into word d; none outside the table
abbrev pub arc_into : List Row → ℕ → Option Arc
arc_into w d = cond (d == 0) None (cond (nat_lt (length w) d) None (row_arc d (row_at w (d - 1))))

-- the arc from h into word d, if the table has one
abbrev pub from_head : ℕ → Option Arc → Option Arc
from_head h None = None
from_head h (Some a) = cond (a.head == h) (Some a) None

abbrev pub arc_between : List Row → ℕ → ℕ → Option Arc
arc_between w h d = from_head h (arc_into w d)

-- the table joins the two nodes, one way or the other
abbrev pub joins : List Row → ℕ → ℕ → Bool
joins w a b = is_some (arc_between w a b) || is_some (arc_between w b a)

-- the row of a word with this arc, or without a head
abbrev pub row_of : Option Arc → Row
row_of None = row 255 0
row_of (Some a) = row a.head a.label

abbrev pub with_arc : Option Arc → List Arc → List Arc
with_arc None arcs = arcs
with_arc (Some a) arcs = a ∷ arcs

-- the arcs of the rows from word d on
abbrev pub arcs_from : ℕ → List Row → List Arc
arcs_from d [] = []
arcs_from d (r ∷ w) = with_arc (row_arc d r) (arcs_from (d + 1) w)

abbrev pub table_arcs : List Row → List Arc
table_arcs w = arcs_from 1 w
