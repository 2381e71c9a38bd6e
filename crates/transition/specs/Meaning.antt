-- What a transition system means.
use Rattle.std.specs.Prelude.{ℕ, Bool, List, Option, Result}
use Rattle.treebank.specs.declared.arcs.Arc.{Arc}
use Rattle.treebank.specs.declared.moves.Move.{Move}
use Rattle.treebank.specs.declared.rows.Row.{Row}
use Rattle.treebank.specs.declared.refusals.Refusal.{Refusal}
use Rattle.transition.specs.declared.faults.Fault.{Fault}

-- a refusal with the level that gave it
abbrev pub fault : Refusal → ℕ → Fault
fault why level = record { refusal = why; level = level }

-- permitted, with the arc that the move adds if it adds one, or refused
abbrev pub Verdict : Type 0
Verdict = Result (Option Arc) Fault

-- the configurations of a system, and what each one tells
pub record Meaning : Type 1 where
  pub Config : Type 0
  -- of the sentence
  pub words : Config → ℕ
  pub arcs : Config → List Arc
  pub arc_into : Config → ℕ → Option Arc
  pub finished : Config → Bool
  pub remaining : Config → ℕ
  -- of a move: whether it is permitted, and what it leads to
  pub verdict : Config → Move → Verdict
  pub next : Config → Move → Config
  -- of a wanted table: the move to make next, if there is advice; none everywhere for a system that is not guided
  pub advice : Config → List Row → Option Move
  -- of the system: its own moves, the most moves for so many words, its number, and the layers that it has
  pub own : Move → Bool
  pub ceiling : ℕ → ℕ
  pub number : ℕ
  pub height : ℕ
