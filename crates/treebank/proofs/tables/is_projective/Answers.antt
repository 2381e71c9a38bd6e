use Rattle.std.proofs.Common.{◌+◌, ◌≤◌, length, refl, arith, rules}
use Rattle.treebank.proofs.Projecting.{counted_good, all_covered, not_projective}
use Rattle.treebank.proofs.tables.is_projective.Goals as goal

pub returns-then-not-is_covered : goal.returns-then-not-is_covered
returns-then-not-is_covered c =
    let w = c.args.rows.now in
    let (few, e) = c.in_ok-words.ensures in (
      few,
      counted_good w c.in_ok-words.words.count e (search rules),
      not_projective w (c.loop-word.word + 1) c.in-Some.arc c.in-Some.ensures c.if-not-is_covered.ensures.1,
    )

pub returns : goal.returns
returns c =
    let w = c.args.rows.now in
    let (few, e) = c.in_ok-words.ensures in
    let long : length w ≤ c.loop-word.word = omega (arith, c.get-word-end.ensures) in (
      few,
      counted_good w c.in_ok-words.words.count e (search rules),
      (λ t. all_covered w c.loop-word.word long c.loop-word.invariant, λ p. refl),
    )
