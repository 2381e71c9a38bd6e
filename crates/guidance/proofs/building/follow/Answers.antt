use Rattle.std.proofs.Common.{List, [], length, sym, refl, ◌∙◌, subst, rules}
use Rattle.std.proofs.lemmas.Result.{err_from_is_err_and}
use Rattle.treebank.specs.declared.moves.Move.{Move}
use Rattle.guidance.specs.Building.{Led}
use Rattle.guidance.proofs.Turns.{permitted, not_permitted, led_start, led_silent, led_refused, led_further, led_falls}
use Rattle.guidance.proofs.building.follow.Goals as goal

pub loop-system-init : goal.loop-system-init
loop-system-init g c =
    let s = c.args.system.now in
    let w = c.args.table.now in
    let led : Led g.S.System.meaning (g.S.System.start s) g.S.Guided.reliable (length w) w [] (g.S.System.conf s) =
    led_start g.S.System.meaning (g.S.System.start s) g.S.Guided.reliable (g.met.S.System.laws s) (λ r. g.met.S.Guided.guides r s) (length w) c.requires.few w c.requires.good (g.S.System.conf s) c.requires.begun in
    (subst (λ (ms : List Move). Led g.S.System.meaning (g.S.System.start s) g.S.Guided.reliable (length w) w ms (g.S.System.conf s)) (sym c.new-moves.ensures.items) led, refl)

pub loop-system-smaller : goal.loop-system-smaller
loop-system-smaller g c =
    let s = c.args.system.now in
    let (a, p, v, i) = permitted g.S.System.meaning g.S.System.conf c.loop-system.system c.make_move.new.system c.in_ok-m.m c.make_move.result (search rules) c.make_move.ensures.made in
    led_falls g.S.System.meaning (g.S.System.start s) g.S.Guided.reliable (g.met.S.System.laws s) (λ r. g.met.S.Guided.guides r s) (length c.args.table.now) c.requires.few c.args.table.now c.requires.good
    c.loop-system.moves.items (g.S.System.conf c.loop-system.system) c.loop-system.invariant.0 c.in_ok-m.m a (g.S.System.conf c.make_move.new.system) v i

pub loop-system-preserved : goal.loop-system-preserved
loop-system-preserved g c =
    let s = c.args.system.now in
    let w = c.args.table.now in
    let (a, p, v, i) = permitted g.S.System.meaning g.S.System.conf c.loop-system.system c.make_move.new.system c.in_ok-m.m c.make_move.result (search rules) c.make_move.ensures.made in
    let led = led_further g.S.System.meaning (g.S.System.start s) g.S.Guided.reliable (g.met.S.System.laws s) (λ r. g.met.S.Guided.guides r s) (length w) c.requires.few w c.requires.good
    c.loop-system.moves.items (g.S.System.conf c.loop-system.system) c.loop-system.invariant.0 (search rules)
    c.in_ok-m.m a (g.S.System.conf c.make_move.new.system) (search rules) p v i in (
      subst (λ (ms : List Move). Led g.S.System.meaning (g.S.System.start s) g.S.Guided.reliable (length w) w ms (g.S.System.conf c.make_move.new.system)) (search rules) led,
      c.make_move.ensures.alike ∙ c.loop-system.invariant.1,
    )

pub returns-in_err-m-clause-came : goal.returns-in_err-m-clause-came
returns-in_err-m-clause-came g c =
    let s = c.args.system.now in
    let p = err_from_is_err_and c.from_residual.result c.from_residual.ensures.1 in
    rw (p.1, p.2) (
      search rules,
      led_silent g.S.System.meaning (g.S.System.start s) g.S.Guided.reliable (g.met.S.System.laws s) (λ r. g.met.S.Guided.guides r s) (length c.args.table.now) c.requires.few c.args.table.now c.requires.good
          c.loop-system.moves.items (g.S.System.conf c.loop-system.system) c.loop-system.invariant.0 (search rules) (search rules),
    )

pub returns-in_err-map_err-clause-came : goal.returns-in_err-map_err-clause-came
returns-in_err-map_err-clause-came g c =
    let s = c.args.system.now in
    let p = err_from_is_err_and c.from_residual-in_err-map_err.result c.from_residual-in_err-map_err.ensures.1 in
    rw (p.1, p.2) (
      search rules,
      led_refused g.S.System.meaning (g.S.System.start s) g.S.Guided.reliable (g.met.S.System.laws s) (λ r. g.met.S.Guided.guides r s) (length c.args.table.now) c.requires.few c.args.table.now c.requires.good
          c.loop-system.moves.items (g.S.System.conf c.loop-system.system) c.loop-system.invariant.0 (search rules) c.in_ok-m.m (search rules)
          (not_permitted g.S.System.meaning g.S.System.conf c.loop-system.system c.make_move.new.system c.in_ok-m.m c.make_move.result (search rules) c.make_move.ensures.made),
    )
