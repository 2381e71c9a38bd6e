use Rattle.std.proofs.Common.{◌≤◌, arith}
use Rattle.std.proofs.lemmas.List.{take-map, take-take}
use Rattle.history.proofs.history.History.cut.Goals as goal

pub returns-then-len-self : goal.returns-then-len-self
returns-then-len-self c =
    let h : c.args.len ≤ c.self.inside.len = omega arith in
    rw (← c.self.view_is, take-map, take-take)
