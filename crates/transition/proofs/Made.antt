-- A step that was taken is a move that was made.
use Rattle.std.proofs.Common.{◌≡◌, Ok, Err, sym, inr, MatchResult}
use Rattle.treebank.specs.declared.moves.Move.{Move}
use Rattle.treebank.specs.Moves.{Proper}
use Rattle.transition.specs.Meaning.{Meaning, Verdict}
use Rattle.transition.specs.Making.{Made}

pub stepped : {S : Type 0} (M : Meaning) (conf : S → M.Config) (s t : S) (m : Move) (r : Verdict) → Proper m → r ≡ M.verdict (conf s) m →
    MatchResult r (λ _. conf t ≡ M.next (conf s) m) (λ _. t ≡ s) → Made M conf s m r t
stepped M conf s t m (Ok a) p v e = (p, sym v, e)
stepped M conf s t m (Err f) p v e = (inr (p, sym v), e)
