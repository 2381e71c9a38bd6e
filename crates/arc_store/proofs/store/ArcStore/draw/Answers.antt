use Rattle.std.proofs.Common.{rules, ◌≡◌, sym}
use Rattle.arc_store.specs.Drawing.{rows_of}
use Rattle.arc_store.proofs.Rowed.{take_changed}
use Rattle.arc_store.proofs.Freshness.{verdict_same}
use Rattle.arc_store.proofs.store.ArcStore.draw.Goals as goal

pub returns : goal.returns
returns c =
    let same : c.in_ok-arc.arc ≡ c.args.arc = verdict_same (rows_of c.args.self.now) c.args.arc c.in_ok-arc.arc (sym c.in_ok-arc.ensures.answer) in
    search (rules, take_changed)
