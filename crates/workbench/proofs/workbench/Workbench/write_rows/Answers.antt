use Rattle.std.proofs.Common.{◌≡◌, ℕ, ◌≤◌, List, ◌++◌, length, take, drop, refl, ◌∙◌, ap₂, arith}
use Rattle.std.proofs.lemmas.List.{length-take-le, take-append-le, take_all}
use Rattle.treebank.specs.declared.rows.Row.{Row}
use Rattle.workbench_model.specs.Rows.{config_rows}
use Rattle.workbench.specs.Workbenches.{state}
use Rattle.workbench.proofs.Written.{all_written, merely_table}
use Rattle.workbench.proofs.workbench.Workbench.write_rows.Goals as goal

pub returns : goal.returns
returns g c =
    let x = c.args.self.now in
    let n = x.words.count in
    let before = c.args.rows.now in
    let rows = c.loop-i.row-items in
    let e : c.get-words.result ≡ n = c.get-words.ensures in
    let few : n ≤ length before = omega arith in
    let long : length rows ≡ n = c.loop-i.auto.row-items ∙ length-take-le c.get-words.result before c.if-rows-words.false ∙ e in
    let all : c.loop-i.i ≡ n = omega (arith, length-take-le c.get-words.result before c.if-rows-words.false) in
    let is : rows ≡ config_rows g.S.System.meaning (g.S.System.conf x.system) n = all_written g.S.System.meaning (g.S.System.conf x.system) n c.loop-i.i rows all long c.loop-i.invariant in
    let front : take n (rows ++ drop c.get-words.result before) ≡ config_rows g.S.System.meaning (g.S.System.conf x.system) n =
    take-append-le n rows (drop c.get-words.result before) (omega arith) ∙ take_all n rows (omega arith) ∙ is in
    record {
      wrote = (few, e, ap₂ (λ (xs : List Row) (k : ℕ). xs ++ drop k before) is e);
      table = merely_table (state x) (g.met.S.System.laws x.system) x.sound n (rows ++ drop c.get-words.result before) refl front;
    }
