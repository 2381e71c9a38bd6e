-- The moves that derive makes.
use Rattle.std.specs.Prelude.{ℕ, zero, suc, Bool, true, false, cond, ◌&&◌, List, [], ◌∷◌, Some, None, Ok, Err, Option, ◌==◌, nat_le}
use Rattle.treebank.specs.declared.arcs.Arc.{Arc}
use Rattle.treebank.specs.declared.moves.Move.{Move}
use Rattle.treebank.specs.declared.rows.Row.{Row}
use Rattle.treebank.specs.Moves.{label}
use Rattle.treebank.specs.Tables.{arc_into}
use Rattle.transition.specs.Meaning.{Meaning, Verdict}
use Rattle.transition.specs.Runs.{after}

-- the test of a label and of a move
abbrev pub is_proper_label : Option ℕ → Bool
is_proper_label None = true
is_proper_label (Some l) = nat_le 1 l && nat_le l 200

abbrev pub is_proper : Move → Bool
is_proper m = is_proper_label (label m)

-- these moves behind the first one
abbrev pub with_first : Move → Option (List Move) → Option (List Move)
with_first m None = None
with_first m (Some ms) = Some (m ∷ ms)

-- where there is advice
abbrev pub advised : Option Move → (Move → Option (List Move)) → Option (List Move)
advised None rest = None
advised (Some m) rest = rest m

-- where the verdict permits
abbrev pub permitted : Verdict → Option (List Move) → Option (List Move)
permitted (Ok a) ms = ms
permitted (Err f) ms = None

-- the moves that the advice names until the sentence is finished, k at most; none where it is silent, or names a move that is refused
abbrev pub followed : (M : Meaning) → List Row → ℕ → M.Config → Option (List Move)
followed M w zero c = cond (M.finished c) (Some []) None
followed M w (suc k) c =
    cond (M.finished c) (Some [])
    (advised (M.advice c w) (λ m. cond (is_proper m) (permitted (M.verdict c m) (with_first m (followed M w k (M.next c m)))) None))

-- the same arc, or none twice
abbrev pub is_same_arc : Option Arc → Option Arc → Bool
is_same_arc None None = true
is_same_arc None (Some b) = false
is_same_arc (Some a) None = false
is_same_arc (Some a) (Some b) = a.head == b.head && (a.label == b.label && a.word == b.word)

-- into each of n words the configuration has the arc that the table has
abbrev pub does_agree : (M : Meaning) → M.Config → ℕ → List Row → Bool
does_agree M c zero w = true
does_agree M c (suc n) w = is_same_arc (M.arc_into c (suc n)) (arc_into w (suc n)) && does_agree M c n w

-- these moves, where they lead to the table's arcs
abbrev pub if_agrees : (M : Meaning) → List Row → M.Config → Option (List Move) → Option (List Move)
if_agrees M w c None = None
if_agrees M w c (Some ms) = cond (does_agree M (after M c ms) (M.words (after M c ms)) w) (Some ms) None

abbrev pub derivation : (M : Meaning) → List Row → M.Config → Option (List Move)
derivation M w c = if_agrees M w c (followed M w (M.remaining c) c)
