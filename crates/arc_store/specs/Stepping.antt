-- What the calls on the way to a step of a system say.
use Rattle.std.specs.Prelude.{◌≡◌, Bool, true, false, Ok, Err, Result}
use Rattle.treebank.specs.declared.moves.Move.{Move}
use Rattle.treebank.specs.declared.refusals.Refusal.{Refusal}
use Rattle.treebank.specs.declared.refusals.Refusal.TheVariants.{Finished}
use Rattle.transition.specs.Meaning.{Meaning, Verdict}

-- not finished, or refused as finished
abbrev pub Open : Bool → Result Unit Refusal → Type 0
Open finished (Ok u) = finished ≡ false
Open finished (Err why) = (finished ≡ true) × (why ≡ Finished)

-- the move was made as its verdict says, or was refused and changed nothing
module _ (M : Meaning) {S : Type 0} (conf : S → M.Config) where
  abbrev pub Stepped : S → Move → Verdict → S → Type 0
  Stepped s m (Ok a) t = (M.verdict (conf s) m ≡ Ok a) × (conf t ≡ M.next (conf s) m)
  Stepped s m (Err f) t = (M.verdict (conf s) m ≡ Err f) × (t ≡ s)
