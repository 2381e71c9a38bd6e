use Rattle.std.proofs.Common.{refl}
use Rattle.layers_theory.proofs.Layered.{less_forbidden}
use Rattle.layers.proofs.layer.Layer.new.Goals as goal

pub returns : goal.returns
returns g c = record {
  rule = refl;
  below = refl;
  less = less_forbidden g.R.Rule.ruling g.S.System.meaning (g.S.System.start c.args.below) c.args.rule g.met.R.Rule.lawful (g.met.S.System.laws c.args.below);
}
