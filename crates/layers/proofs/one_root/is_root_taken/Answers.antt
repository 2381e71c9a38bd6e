use Rattle.std.proofs.Common.{◌≡◌, ◌≤◌, true, sym, ap, ◌∙◌, arith}
use Rattle.layers.specs.OneRoots.{from_root}
use Rattle.layers.specs.Roots.{taken_at}
use Rattle.layers.proofs.one_root.is_root_taken.Goals as goal

pub returns-then-is_from_root : goal.returns-then-is_from_root
returns-then-is_from_root g c =
    let s = g.S.System.conf c.args.system.now in
    let M = g.S.System.meaning in
    let root : from_root (M.arc_into s c.loop-word.word) ≡ true = ap from_root (sym c.arc_into.ensures) ∙ sym c.if-is_from_root.ensures in
    let inside : c.loop-word.word ≤ M.words s = omega arith in
    sym (taken_at (M.arc_into s) (M.words s) c.loop-word.word (omega arith) inside root)
