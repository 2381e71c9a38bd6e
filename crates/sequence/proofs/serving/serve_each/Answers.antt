use Rattle.std.proofs.Common.{◌≡◌, ℕ, ◌<◌, map, length, take, drop, set, sym, ap, ◌∙◌, subst, arith}
use Rattle.std.proofs.lemmas.List.{drop-set-lt, length-map, get_or-map}
use Rattle.workbench.specs.Workbenches.{state}
use Rattle.requests.specs.declared.kinds.GuidedRequest.{GuidedRequest}
use Rattle.requests.specs.Sequences.{AttendedAll}
use Rattle.requests.proofs.Going.{going_more, going_done}
use Rattle.sequence.specs.Pouches.{epochs}
use Rattle.sequence.specs.Attending.{Attends}
use Rattle.sequence.proofs.serving.serve_each.Goals as goal

pub loop-i-preserved : goal.loop-i-preserved
loop-i-preserved g c =
    let rs = map g.Q.Ask.request c.args.requests.now in
    let long : length rs ≡ length c.args.requests.now = length-map c.args.requests.now g.Q.Ask.request in
    let q = c.index-requests-i.result in
    let r = g.Q.Ask.request q in
    let inside : c.loop-i.i < length rs = omega (arith, c.loop-i-test.true) in
    let room : c.loop-i.i < length c.loop-i.replies = omega (arith, c.requires, c.loop-i-test.true) in
    let later : drop (length rs) (set c.loop-i.replies c.loop-i.i c.attend.result) ≡ drop (length rs) c.loop-i.replies = drop-set-lt (length rs) c.loop-i.replies c.loop-i.i c.attend.result inside in
    record {
      going =
          going_more (state c.args.workbench.now) (epochs c.args.pouch.now) rs c.loop-i.i c.loop-i.replies (state c.loop-i.workbench) (state c.attend.new.workbench) (epochs c.loop-i.pouch) (epochs c.attend.new.pouch)
          r c.attend.result inside room
          (subst (λ (x : GuidedRequest). Attends c.loop-i.workbench c.loop-i.pouch x c.attend.result c.attend.new.workbench c.attend.new.pouch)
          (sym (get_or-map g.Q.Ask.request c.args.requests.now c.loop-i.i q r c.loop-i-test.true ∙ ap g.Q.Ask.request (sym c.index-requests-i.is))) c.attend.ensures) c.loop-i.invariant.going;
      later = cc;
    }

pub returns : goal.returns
returns g c =
    let rs = map g.Q.Ask.request c.args.requests.now in
    let long : length rs ≡ length c.args.requests.now = length-map c.args.requests.now g.Q.Ask.request in
    let all : c.loop-i.i ≡ length rs = omega (arith, c.loop-i-test.false, c.loop-i.auto.i-end) in (
      subst (λ (n : ℕ). AttendedAll g.S.System.meaning (state c.args.workbench.now) (epochs c.args.pouch.now) rs (take n c.loop-i.replies) (state c.loop-i.workbench) (epochs c.loop-i.pouch)) all
          (going_done (state c.args.workbench.now) (epochs c.args.pouch.now) rs c.loop-i.i c.loop-i.replies (state c.loop-i.workbench) (epochs c.loop-i.pouch) (omega arith) c.loop-i.invariant.going),
      c.loop-i.invariant.later,
    )
