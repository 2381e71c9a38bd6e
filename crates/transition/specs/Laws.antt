-- The laws of a transition system: what its configurations tell of each other.
use Rattle.std.specs.Prelude.{◌≡◌, ℕ, ◌<◌, ◌≤◌, true, false, ◌↔◌, List, [], ◌∷◌, Some, None, Ok, Err, Option, ◌≢◌}
use Rattle.treebank.specs.declared.arcs.Arc.{Arc}
use Rattle.treebank.specs.declared.moves.Move.{Move}
use Rattle.treebank.specs.declared.refusals.Refusal.TheVariants.{ForeignMove}
use Rattle.treebank.specs.Moves.{label}
use Rattle.treebank.specs.Trees.{◌∈◌, SameArcs, Fresh}
use Rattle.transition.specs.declared.faults.Fault.{Fault}
use Rattle.transition.specs.Meaning.{Meaning, Verdict}
use Rattle.transition.specs.Runs.{Arises}

-- a sentence of n words begins with n words, no arcs, and as many moves remaining as the ceiling says
pub record Begins (M : Meaning) (n : ℕ) (c : M.Config) : Type 0 where
  pub words : M.words c ≡ n
  pub bare : M.arcs c ≡ []
  pub full : M.remaining c ≡ M.ceiling n
  pub limit : M.ceiling n ≤ 5150

-- the arc into word d among the arcs of n words; none where no arc leads there, as for a number outside 1 to n
abbrev pub ArcInto : ℕ → List Arc → ℕ → Option Arc → Type 0
ArcInto n arcs d None = (a : Arc) → a ∈ arcs → a.word ≢ d
ArcInto n arcs d (Some a) = (a ∈ arcs) × (a.word ≡ d) × (1 ≤ d) × (d ≤ n)

-- an accepted move draws a fresh arc with its label, or is no arc move and draws none; no arc goes
abbrev pub Draws : (M : Meaning) → M.Config → Move → Option Arc → Type 0
Draws M c m None = (label m ≡ None) × SameArcs (M.arcs (M.next c m)) (M.arcs c)
Draws M c m (Some a) = (label m ≡ Some a.label) × SameArcs (M.arcs (M.next c m)) (a ∷ M.arcs c) × Fresh (M.words c) (M.arcs c) a

-- refused as a move that is not of this system
abbrev pub Foreign : Verdict → Type 0
Foreign (Ok a) = ⊥
Foreign (Err f) = f.refusal ≡ ForeignMove

pub record Laws (M : Meaning) (start : ℕ → M.Config) : Type 0 where
  pub beginning : (n : ℕ) → n ≤ 100 → Begins M n (start n)
  pub questions : {c : M.Config} (d : ℕ) → Arises M start c → ArcInto (M.words c) (M.arcs c) d (M.arc_into c d)
  pub stepping : {c : M.Config} (m : Move) (a : Option Arc) → Arises M start c → M.verdict c m ≡ Ok a → M.words (M.next c m) ≡ M.words c
  pub drawing : {c : M.Config} (m : Move) (a : Option Arc) → Arises M start c → M.verdict c m ≡ Ok a → Draws M c m a
  pub falling : {c : M.Config} (m : Move) (a : Option Arc) → Arises M start c → M.verdict c m ≡ Ok a → M.remaining (M.next c m) < M.remaining c
  pub stopping : {c : M.Config} (m : Move) (a : Option Arc) → Arises M start c → M.finished c ≡ true → M.verdict c m ≢ Ok a
  pub foreign : (c : M.Config) (m : Move) → Foreign (M.verdict c m) ↔ (M.own m ≡ false)
  pub levels : (c : M.Config) (m : Move) (f : Fault) → M.verdict c m ≡ Err f → f.level ≤ M.height
  pub numbers : (1 ≤ M.number) × (M.number ≤ 255)
