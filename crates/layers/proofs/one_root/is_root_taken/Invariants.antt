use Rattle.std.proofs.Common.{◌≡◌, ◌-◌, false}
use Rattle.layers.specs.OneRoots.{root_taken}
use Rattle.layers.proofs.one_root.is_root_taken.Given as goal

abbrev pub invariant-loop-word : goal.invariant-loop-word
invariant-loop-word g l = root_taken (g.S.System.meaning.arc_into (g.S.System.conf l.system)) (l.word - 1) ≡ false
