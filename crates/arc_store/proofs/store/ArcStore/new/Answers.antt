use Rattle.std.proofs.Common.{replicate, ap, ◌∙◌}
use Rattle.std.proofs.lemmas.List.{take-replicate}
use Rattle.arc_store.proofs.store.ArcStore.new.Goals as goal

pub returns-clause-bare : goal.returns-clause-bare
returns-clause-bare c = take-replicate c.args.words.count 100 c.from.result c.args.words.small ∙ ap (replicate c.args.words.count) c.from.ensures
