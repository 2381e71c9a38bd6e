use Rattle.std.proofs.Common.{◌≤◌, length, sym, refl, ◌∙◌, arith}
use Rattle.guidance.proofs.Turns.{refused_not}
use Rattle.workbench_model.proofs.Advanced.{on_start, on_more, on_finished, on_silent, on_refused, on_full}
use Rattle.workbench.proofs.workbench.guided.follow.Goals as goal

pub loop-system-init : goal.loop-system-init
loop-system-init g c = (on_start, refl)

pub returns-then-finished-clause-went : goal.returns-then-finished-clause-went
returns-then-finished-clause-went g c = on_finished c.loop-system.invariant.0 (g.met.S.System.laws c.args.system.now) (sym c.if-finished.ensures)

pub returns-in_default-clause-went : goal.returns-in_default-clause-went
returns-in_default-clause-went g c =
    on_silent c.loop-system.invariant.0 (g.met.S.System.laws c.args.system.now) (sym c.if-finished.ensures) (sym c.in_default.ensures.value)

pub returns-in_default-make_move-clause-went : goal.returns-in_default-make_move-clause-went
returns-in_default-make_move-clause-went g c =
    let made = c.in_default-make_move.ensures.made in
    rw made.1 (on_refused c.loop-system.invariant.0 (g.met.S.System.laws c.args.system.now) c.in-Some.m (sym c.if-finished.ensures) (sym c.in-Some.ensures.value)
    (λ a. refused_not g.S.System.meaning g.S.System.conf c.loop-system.system c.make_move.new.system c.in-Some.m c.in_default-make_move.field-0 a made))

pub loop-system-preserved : goal.loop-system-preserved
loop-system-preserved g c =
    let (p, v, i) = c.in-Ok.ensures.made in (
      on_more c.loop-system.invariant.0 c.in-Some.m c.in-Ok.field-0 (sym c.if-finished.ensures) (sym c.in-Some.ensures.value) p v c.in-Ok-push.ensures.1 i,
      c.make_move.ensures.alike ∙ c.loop-system.invariant.1,
    )

pub returns-clause-went : goal.returns-clause-went
returns-clause-went g c =
    let h : 5150 ≤ length c.loop-system.history = omega (arith, c.len.ensures.value) in
    on_full c.loop-system.invariant.0 (g.met.S.System.laws c.args.system.now) c.finished-2.result h c.finished-2.ensures
