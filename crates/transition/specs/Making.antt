-- Making one move, whatever its label.
use Rattle.std.specs.Prelude.{◌≡◌, ◌⊎◌, Ok, Err}
use Rattle.treebank.specs.declared.moves.Move.{Move}
use Rattle.treebank.specs.declared.refusals.Refusal.TheVariants.{BadLabel}
use Rattle.treebank.specs.Moves.{Proper}
use Rattle.transition.specs.Meaning.{Meaning, Verdict, fault}

-- a system of configuration `conf s` was asked for a move, answered, and is now t; a label outside 1 to 200 is refused before the system is asked
abbrev pub Made : {S : Type 0} (M : Meaning) → (S → M.Config) → S → Move → Verdict → S → Type 0
Made M conf s m (Ok a) t = Proper m × (M.verdict (conf s) m ≡ Ok a) × (conf t ≡ M.next (conf s) m)
Made M conf s m (Err f) t = (((Proper m → ⊥) × (f ≡ fault BadLabel 0)) ⊎ (Proper m × (M.verdict (conf s) m ≡ Err f))) × (t ≡ s)
