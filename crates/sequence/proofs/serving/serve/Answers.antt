use Rattle.std.proofs.Common.{◌≡◌, map, length, arith}
use Rattle.std.proofs.lemmas.List.{length-map}
use Rattle.sequence.proofs.serving.serve.Goals as goal

pub returns : goal.returns
returns g c =
    let long : length (map g.Q.Ask.request c.args.requests.now) ≡ length c.args.requests.now = length-map c.args.requests.now g.Q.Ask.request in
    (omega (arith, c.if-replies-requests.false), c.serve_each.ensures)
