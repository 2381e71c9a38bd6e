use Rattle.std.proofs.Common.{◌≡◌, ℕ, ◌+◌, ◌*◌, subst, rules, arith}
use Rattle.std.specs.Iterator.Adapters.{skip_source, skip_count, enumerate_count}
use Rattle.workbench.specs.Workbenches.{state}
use Rattle.sheets_theory.proofs.Going.{Going, going_none, going_done}
use Rattle.sheets.proofs.Pieces.{next_piece, no_piece}
use Rattle.sheets.proofs.Turns.{turn_unsaid, turn_refused, turn_more}
use Rattle.sheets.proofs.replaying.replay_lines.Goals as goal

pub loop-i-init : goal.loop-i-init
loop-i-init g c =
    let it = c.into_iter-i-iterator.result in
    let none : enumerate_count (skip_source it) ≡ 0 = search rules in
    let one : skip_count it ≡ 1 = search rules in
    let s = state c.args.workbench.now in
    record {
      can = search rules;
      ends = tt;
      at = search rules;
      going = subst (λ (p : ℕ). Going s c.args.sheet.now p s) (omega arith) (going_none s c.args.sheet.now);
    }

pub returns-in_err-m : goal.returns-in_err-m
returns-in_err-m g c =
    let text = c.args.sheet.now in
    let i = c.in-Some.i in
    let (number, piece, at, next) = next_piece text c.loop-i.i-iterator c.next.new.self i c.in-Some.text c.in-Some.ensures.steps c.loop-i.invariant.at in
    turn_unsaid (state c.args.workbench.now) (state c.loop-i.workbench) text i _ c.in-Some.text.now _ c.said_move.result number piece c.loop-i.invariant.going c.said_move.ensures
    c.in_err-m.field-0.0 c.from_residual.result c.in_err-m.ensures c.from_residual.ensures.1

pub returns-in_err-at_line : goal.returns-in_err-at_line
returns-in_err-at_line g c =
    let text = c.args.sheet.now in
    let i = c.in-Some.i in
    let (number, piece, at, next) = next_piece text c.loop-i.i-iterator c.next.new.self i c.in-Some.text c.in-Some.ensures.steps c.loop-i.invariant.at in
    turn_refused (state c.args.workbench.now) (state c.loop-i.workbench) text i _ c.in-Some.text.now _ c.said_move.result number piece c.loop-i.invariant.going c.said_move.ensures
    c.in_ok-m.m c.in_ok-m.ensures c.step.result (state c.step.new.self) c.step.ensures.served
    c.in_err-at_line.field-0.0 c.from_residual-in_err-at_line.result c.in_err-at_line.ensures c.from_residual-in_err-at_line.ensures.1

pub loop-i-preserved : goal.loop-i-preserved
loop-i-preserved g c =
    let text = c.args.sheet.now in
    let i = c.in-Some.i in
    let (number, piece, at, next) = next_piece text c.loop-i.i-iterator c.next.new.self i c.in-Some.text c.in-Some.ensures.steps c.loop-i.invariant.at in
    record {
      can = search rules;
      ends = tt;
      at = at;
      going = turn_more (state c.args.workbench.now) (state c.loop-i.workbench) text i _ c.in-Some.text.now _ c.said_move.result number piece c.loop-i.invariant.going c.said_move.ensures
          c.in_ok-m.m c.in_ok-m.ensures c.step.result (state c.step.new.self) c.step.ensures.served c.in_ok-at_line.field-0 _ c.in_ok-at_line.ensures next;
    }

pub returns : goal.returns
returns g c =
    let it = c.loop-i.i-iterator in
    let end = no_piece c.args.sheet.now it c.next.new.self c.in-None.ensures.steps c.loop-i.invariant.at in
    going_done (state c.args.workbench.now) c.args.sheet.now (5 * (enumerate_count (skip_source it) + skip_count it)) c.move_count.result (state c.loop-i.workbench) end c.move_count.ensures c.loop-i.invariant.going
