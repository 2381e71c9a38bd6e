use Rattle.std.proofs.Common.{true, false, ◌∙◌, arith, rules}
use Rattle.treebank.proofs.Climbing.{climb_on, told}
use Rattle.treebank.proofs.tables.stands_above.Goals as goal

pub returns-in_default-clause-above : goal.returns-in_default-clause-above
returns-in_default-clause-above c = told c.args.rows.now c.args.node c.args.word false (search rules)

pub returns-then-arc-node-clause-above : goal.returns-then-arc-node-clause-above
returns-then-arc-node-clause-above c = told c.args.rows.now c.args.node c.args.word true (search rules)

pub loop-preserved : goal.loop-preserved
loop-preserved c =
    (c.loop.invariant.0 ∙ climb_on c.args.rows.now c.args.node c.loop.at _ c.loop.counter c.loop-test.true c.in-Some.arc c.in-Some.ensures c.if-arc-node.false, omega arith)

pub returns-clause-above : goal.returns-clause-above
returns-clause-above c = told c.args.rows.now c.args.node c.args.word false (search rules)
