-- Rows with one arc more, and when it may be drawn.
use Rattle.std.specs.Prelude.{◌≡◌, ◌-◌, Bool, cond, ◌||◌, List, length, take, is_some, Ok, Err, Result, ◌==◌, nat_lt, slice_set}
use Rattle.treebank.specs.declared.arcs.Arc.{Arc}
use Rattle.treebank.specs.declared.rows.Row.{Row}
use Rattle.treebank.specs.declared.refusals.Refusal.{Refusal}
use Rattle.treebank.specs.declared.refusals.Refusal.TheVariants.{TooFewNodes, IntoRoot, HasHead, WouldCircle}
use Rattle.treebank.specs.Tables.{row, arc_into}
use Rattle.treebank.specs.Climbs.{comes_to}
use Rattle.arc_store.specs.declared.store.ArcStore.{ArcStore}

-- the rows of the words
abbrev pub rows_of : ArcStore → List Row
rows_of s = take s.words.count s.rows

-- the row of a word without a head
abbrev pub bare : Row
bare = row 255 0

-- the rows with one arc more
abbrev pub put : List Row → Arc → List Row
put w a = slice_set w (a.word - 1) (row a.head a.label)

-- an end of the arc is no node of the sentence
abbrev pub outside : List Row → Arc → Bool
outside w a = nat_lt (length w) a.head || nat_lt (length w) a.word

-- the head is the dependent, or stands below it
abbrev pub circles : List Row → Arc → Bool
circles w a = a.head == a.word || comes_to w a.word a.head

-- the tests for one arc more, in their order
abbrev pub arc_verdict : List Row → Arc → Result Arc Refusal
arc_verdict w a =
    cond (outside w a) (Err TooFewNodes)
    (cond (a.word == 0) (Err IntoRoot)
    (cond (is_some (arc_into w a.word)) (Err HasHead)
    (cond (circles w a) (Err WouldCircle)
    (Ok a))))

-- the arc was drawn beside the others, or the store is as it was
abbrev pub Drawn : ArcStore → Arc → Result Arc Refusal → ArcStore → Type 0
Drawn s a (Ok b) t = (b ≡ a) × (arc_verdict (rows_of s) a ≡ Ok a) × (rows_of t ≡ put (rows_of s) a) × (t.words.count ≡ s.words.count)
Drawn s a (Err e) t = (arc_verdict (rows_of s) a ≡ Err e) × (t ≡ s)
