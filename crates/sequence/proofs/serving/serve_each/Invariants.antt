use Rattle.std.proofs.Common.{◌≡◌, map, length, drop}
use Rattle.workbench.specs.Workbenches.{state}
use Rattle.requests.proofs.Going.{Going}
use Rattle.sequence.specs.Pouches.{epochs}
use Rattle.sequence.proofs.serving.serve_each.Given as goal

abbrev pub invariant-loop-i : goal.invariant-loop-i
invariant-loop-i g l = record {
  going : Going g.S.System.meaning (state l.initial.workbench) (epochs l.initial.pouch) (map g.Q.Ask.request l.requests) l.i l.replies (state l.workbench) (epochs l.pouch);
  later : drop (length (map g.Q.Ask.request l.requests)) l.replies ≡ drop (length (map g.Q.Ask.request l.requests)) l.initial.replies;
}
