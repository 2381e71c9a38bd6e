use Rattle.guidance.proofs.Followed.{advice_leads}
use Rattle.layers_theory.specs.Layers.{layered}
use Rattle.layers_theory.proofs.Layered.{layered_guides}
use Rattle.layers.proofs.layer.LayerGuided.advice.Goals as goal

pub returns : goal.returns
returns g c =
    let s = c.args.self.now in
    let R = g.R.Rule.ruling in
    let M = g.S.System.meaning in
    record {
      value = c.advice.ensures.value;
      leads = λ r. advice_leads {M = layered R M}
          (layered_guides R M (g.S.System.start s.below) s.rule g.met.R.Rule.lawful (g.met.S.System.laws s.below) (g.met.S.Guided.guides r s.below))
          (s.rule, g.S.System.conf s.below) c.args.table.now c.advice.result c.advice.ensures.value;
    }
