use Rattle.std.proofs.Common.{◌≡◌, map, length, take, arith}
use Rattle.std.proofs.lemmas.List.{length-map}
use Rattle.workbench.specs.Workbenches.{state}
use Rattle.requests.proofs.Going.{ran_new}
use Rattle.sequence.specs.Pouches.{epochs}
use Rattle.sequence.proofs.serving.run.Goals as goal

pub returns : goal.returns
returns g c =
    let rs = map g.Q.Ask.request c.args.requests.now in
    let long : length rs ≡ length c.args.requests.now = length-map c.args.requests.now g.Q.Ask.request in
    let new = c.new-workbench.ensures in
    let (served, later) = c.serve_each.ensures in (
      omega (arith, c.if-replies-requests.false),
      ran_new g.Q.Ask.reliable (g.met.S.System.laws c.args.system) (λ r. g.met.Q.Ask.guides r c.args.system) (state c.new-workbench.result) (epochs c.args.pouch.now) rs
          (take (length rs) c.serve_each.new.replies) (state c.serve_each.new.workbench) (epochs c.serve_each.new.pouch) new.model new.same new.sound served,
      later,
    )
