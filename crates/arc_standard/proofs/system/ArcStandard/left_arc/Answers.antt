use Rattle.std.proofs.Common.{rules}
use Rattle.arc_standard.proofs.Stacked.{second_out}
use Rattle.arc_standard.proofs.system.ArcStandard.left_arc.Goals as goal

pub returns : goal.returns
returns c = search (rules, second_out)
