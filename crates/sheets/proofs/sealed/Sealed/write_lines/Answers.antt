use Rattle.std.proofs.Common.{◌≡◌, ℕ, ◌+◌, ◌*◌, ◌++◌, length, take, drop, sym, ap, ap₂, ◌∙◌, subst, rules, arith}
use Rattle.std.proofs.lemmas.List.{length-drop}
use Rattle.std.specs.Iterator.Adapters.{enumerate_source, enumerate_count}
use Rattle.run_sheet.specs.declared.lines.SheetLine.{SheetLine}
use Rattle.run_sheet.specs.Texts.{written}
use Rattle.workbench.specs.Workbenches.{model_of}
use Rattle.sheets_theory.proofs.Written.{SoFar, left_more, so_far_more, lines_done}
use Rattle.sheets.proofs.sealed.Sealed.write_lines.Goals as goal

pub loop-i-preserved : goal.loop-i-preserved
loop-i-preserved g c =
    let number = g.S.System.meaning.number in
    let b = model_of c.args.self.now.workbench in
    let first = c.put_line.new.out in
    let out = c.loop-i.out in
    let m = c.in-Some.m in
    let k = enumerate_count c.loop-i.i-iterator in
    let (e, is, next, fits) = c.in-Some.ensures.steps in
    let (at, inside, left) = left_more b.moves k m (enumerate_source c.next.new.self) (sym c.loop-i.invariant.left ∙ e) in
    let line = c.put_line-in-loop-i.ensures ∙ ap₂ (λ (n : ℕ) (l : SheetLine). take (5 * (n + 1)) out ++ (written l ++ drop (5 * (n + 1) + 5) out)) is c.from.ensures.is in
    record {
      can = search rules;
      ends = tt;
      left = left ∙ ap (λ (n : ℕ). drop n b.moves) (sym next);
      within = omega arith;
      written = subst (λ (n : ℕ). SoFar number b first n c.put_line-in-loop-i.new.out) (sym next)
          (so_far_more number b first k m out c.put_line-in-loop-i.new.out at inside line c.loop-i.invariant.written);
    }

pub returns : goal.returns
returns g c =
    let b = model_of c.args.self.now.workbench in
    let k = enumerate_count c.loop-i.i-iterator in
    let ((none, gone), same) = c.in-None.ensures.steps in
    let all : k ≡ length b.moves = omega (arith, ap length none, ap length c.loop-i.invariant.left, length-drop k b.moves) in
    lines_done g.S.System.meaning.number b c.args.out.now c.put_line.new.out c.loop-i.out c.heading.result k c.put_line.ensures all c.loop-i.invariant.written
