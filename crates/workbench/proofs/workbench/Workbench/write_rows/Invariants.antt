use Rattle.std.proofs.Common.{◌≡◌, take}
use Rattle.workbench_model.specs.Rows.{config_rows}
use Rattle.workbench.proofs.workbench.Workbench.write_rows.Given as goal

abbrev pub invariant-loop-i : goal.invariant-loop-i
invariant-loop-i g l = take l.i l.row-items ≡ config_rows g.S.System.meaning (g.S.System.conf l.self.system) l.i
