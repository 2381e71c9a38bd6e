use Rattle.std.proofs.Common.{Some, rules}
use Rattle.run_sheet.specs.declared.lines.SheetLine.{SheetLine}
use Rattle.run_sheet.proofs.Inverse.{stands_if}
use Rattle.run_sheet.proofs.lines.SheetLine.read.Goals as goal

pub returns-clause-stands : goal.returns-clause-stands
returns-clause-stands c =
    let l : SheetLine = record { first = c.in_ok-first.first; second = c.in_ok-second.second } in
    stands_if c.args.text.now (Some l) (search rules)
