-- Verdicts of a system itself, without layers.
use Rattle.std.specs.Prelude.{Some, Ok, Err, Result}
use Rattle.treebank.specs.declared.arcs.Arc.{Arc}
use Rattle.treebank.specs.declared.refusals.Refusal.{Refusal}
use Rattle.transition.specs.Meaning.{Verdict, fault}

abbrev pub refused : Refusal → Verdict
refused why = Err (fault why 0)

-- what is said of an arc, as a verdict
abbrev pub drawn : Result Arc Refusal → Verdict
drawn (Ok a) = Ok (Some a)
drawn (Err why) = refused why
