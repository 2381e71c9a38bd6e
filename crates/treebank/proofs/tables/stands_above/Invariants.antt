use Rattle.std.proofs.Common.{◌≡◌, ◌-◌, ◌<◌, length}
use Rattle.treebank.specs.Climbs.{climbs, comes_to}
use Rattle.treebank.proofs.tables.stands_above.Given as goal

-- what is left of the climb decides
abbrev pub invariant-loop : goal.invariant-loop
invariant-loop l = (comes_to l.rows l.node l.word ≡ climbs l.rows l.node (length l.rows - l.counter) l.at) × (l.at < 256)
