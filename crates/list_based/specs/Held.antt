-- The configuration that the program's list-based system holds, and what its calls did.
use Rattle.std.specs.Prelude.{◌≡◌, ℕ, true, false, Ok, Err, Result}
use Rattle.treebank.specs.declared.refusals.Refusal.{Refusal}
use Rattle.treebank.specs.declared.refusals.Refusal.TheVariants.{TooFewNodes}
use Rattle.arc_store.specs.Drawing.{rows_of}
use Rattle.list_based.specs.declared.system.ListBased.{ListBased}
use Rattle.list_based_theory.specs.Configurations.{Configuration, configuration, emptied, last}

abbrev pub held : ListBased → Configuration
held s = configuration s.front s.left s.made (rows_of s.arcs)

-- the last node of the first list, or refused for want of one
abbrev pub Last : Configuration → Result ℕ Refusal → Type 0
Last c (Ok i) = (emptied c ≡ false) × (i ≡ last c)
Last c (Err why) = (emptied c ≡ true) × (why ≡ TooFewNodes)
