use Rattle.std.proofs.Common.{sym, ◌∙◌}
use Rattle.workbench.specs.Workbenches.{state}
use Rattle.sheets_theory.proofs.Going.{lines_accepted, lines_refused}
use Rattle.sheets_theory.proofs.Located.{located_ok}
use Rattle.sheets.proofs.replaying.replay.Goals as goal

pub returns-else-is_err : goal.returns-else-is_err
returns-else-is_err g c =
    let s = state c.args.workbench.now in
    let t = state c.replay_lines-outcome.new.workbench in
    let new = sym c.expect_new.ensures ∙ located_ok 0 c.expect_new.result tt c.in_ok-at_line.ensures in
    let head = sym c.expect_heading.ensures ∙ located_ok 1 c.expect_heading.result tt c.in_ok-at_line-2.ensures in
    lines_accepted s c.args.sheet.now new head c.replay_lines-outcome.result t (sym c.if-is_err.ensures.value) c.replay_lines-outcome.ensures

pub returns-then-is_err : goal.returns-then-is_err
returns-then-is_err g c =
    let s = state c.args.workbench.now in
    let t = state c.replay_lines-outcome.new.workbench in
    let u = state c.reload.new.workbench in
    let new = sym c.expect_new.ensures ∙ located_ok 0 c.expect_new.result tt c.in_ok-at_line.ensures in
    let head = sym c.expect_heading.ensures ∙ located_ok 1 c.expect_heading.result tt c.in_ok-at_line-2.ensures in
    lines_refused s c.args.sheet.now new head c.replay_lines-outcome.result t u c.reload.ensures.0 (sym c.if-is_err.ensures.value) c.args.workbench.now.words.small c.replay_lines-outcome.ensures c.reload.ensures.1
