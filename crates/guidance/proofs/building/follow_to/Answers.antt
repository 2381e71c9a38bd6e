use Rattle.std.proofs.Common.{ℕ, ◌≤◌, length, refl, sym, ◌∙◌, subst}
use Rattle.std.proofs.lemmas.Bool.{false≢true}
use Rattle.guidance.specs.Building.{Agrees}
use Rattle.guidance.proofs.Turns.{led_built, led_other}
use Rattle.guidance.proofs.building.follow_to.Goals as goal

pub returns-clause-came : goal.returns-clause-came
returns-clause-came g c =
    let w = c.args.table.now in
    let M = g.S.System.meaning in
    let d = g.S.System.conf c.follow.new.system in
    let few : length w ≤ 100 = subst (λ (n : ℕ). n ≤ 100) c.requires.rows c.args.words.small in
    let (led, e) = c.in_ok-moves.ensures.came in
    let agree : Agrees M d (length w) w = subst (λ (n : ℕ). Agrees M d n w) c.requires.rows (c.has_arcs.ensures.0 c.if-not-has_arcs.false) in
    led_built M (g.S.System.start c.args.system.now) g.S.Guided.reliable (g.met.S.System.laws c.args.system.now) w few c.requires.good c.in_ok-moves.moves.items d led e agree

pub returns-then-not-has_arcs-clause-came : goal.returns-then-not-has_arcs-clause-came
returns-then-not-has_arcs-clause-came g c =
    let w = c.args.table.now in
    let M = g.S.System.meaning in
    let d = g.S.System.conf c.follow.new.system in
    let few : length w ≤ 100 = subst (λ (n : ℕ). n ≤ 100) c.requires.rows c.args.words.small in
    let (led, e) = c.in_ok-moves.ensures.came in
    let other : Agrees M d (length w) w → ⊥ = λ a. false≢true (sym c.if-not-has_arcs.true ∙ c.has_arcs.ensures.1 (subst (λ (n : ℕ). Agrees M d n w) (sym c.requires.rows) a)) in
    rw c.from.ensures (refl, led_other M (g.S.System.start c.args.system.now) g.S.Guided.reliable (g.met.S.System.laws c.args.system.now) w few c.requires.good c.in_ok-moves.moves.items d led e other)
