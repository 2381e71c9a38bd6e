use Rattle.std.proofs.Common.{◌≡◌, ◌-◌, ◌≤◌, true, length, Ok, Err, refl, ap, ◌∙◌, subst, inl, inr, arith}
use Rattle.std.proofs.Math.Logic.{∥∥₁_map}
use Rattle.std.proofs.lemmas.Bool.{false≢true}
use Rattle.treebank.specs.Tables.{are_good_rows}
use Rattle.workbench_model.specs.declared.answers.Answer.TheVariants.{Made}
use Rattle.workbench_model.specs.Models.Call.{derive}
use Rattle.workbench_model.specs.Serving.{Outcome, floor}
use Rattle.workbench_model.specs.States.{State, Sound, holding, Served, WentBack}
use Rattle.workbench_model.proofs.Derived.{rows_decide, went_sound, derived, underived, Missed}
use Rattle.workbench_model.proofs.Merely.{merely_served, merely_within}
use Rattle.workbench.specs.Workbenches.{state}
use Rattle.workbench.proofs.Calls.{reach_told}
use Rattle.workbench.proofs.workbench.Workbench.derive.Goals as goal
use Rattle.workbench.proofs.workbench.Workbench.derive.Goals.{else-follow-via-then-follow+else-has_arcs, else-follow-via-else-follow}

pub invariant_of-self : goal.invariant_of-self
invariant_of-self g c = record { sound = ∥∥₁_map c.args.self.now.sound (went_sound (state c.args.self.now) c.follow.ensures.went c.follow.ensures.alike) }

pub returns-then-has_arcs : goal.returns-then-has_arcs
returns-then-has_arcs g c =
    let M = g.S.System.meaning in
    let x = c.args.self.now in
    let w = c.args.table.now in
    let laws = g.met.S.System.laws x.system in
    let len : length w ≡ x.words.count = omega arith in
    let good : are_good_rows x.words.count w ≡ true = rows_decide x.words.count w true len c.if-not-is_good_table.ensures.value in
    let made : c.len.result - c.len-before.result ≡ length c.follow.new.history - length x.history = omega (arith, c.len-before.ensures.value, c.len.ensures.value) in
    let a : Outcome = Ok (Made (c.len.result - c.len-before.result)) in
    let y : State M = holding x.words.count x.epoch c.follow.new.history x.checkpoint (g.S.System.conf c.follow.new.system) (g.S.System.start c.follow.new.system) in
    let v : Served M (state x) (derive w) a y = merely_served x.sound c.follow.ensures.alike
    (λ s. derived (state x) w laws s len good _ c.if-follow.ensures.went (c.if-has_arcs.ensures.0 refl) made c.follow.ensures.alike) in
    record { served = v; reach = reach_told (state x) y w a x.sound laws (λ r. g.met.S.Guided.guides r x.system) v }

pub go_back_to-requires : goal.go_back_to-requires
go_back_to-requires g c =
    let x = c.args.self.now in
    let l : floor x.checkpoint ≤ c.len-before.result = omega (arith, merely_within (state x) x.sound, c.len-before.ensures.value) in
    elim c.else-follow.branch [
      | else-follow-via-then-follow+else-has_arcs y ↦ rw y.self-is l
      | else-follow-via-else-follow y ↦ rw y.self-is l
    ]

pub returns : goal.returns
returns g c =
    let M = g.S.System.meaning in
    let x = c.args.self.now in
    let b = state x in
    let w = c.args.table.now in
    let laws = g.met.S.System.laws x.system in
    let len : length w ≡ x.words.count = omega arith in
    let good : are_good_rows x.words.count w ≡ true = rows_decide x.words.count w true len c.if-not-is_good_table.ensures.value in
    let d : State M = holding x.words.count x.epoch c.follow.new.history x.checkpoint (g.S.System.conf c.follow.new.system) (g.S.System.start c.follow.new.system) in
    let there : state c.else-follow.self ≡ d = elim c.else-follow.branch [
      | else-follow-via-then-follow+else-has_arcs y ↦ ap (λ z. state z) y.self-is
      | else-follow-via-else-follow y ↦ ap (λ z. state z) y.self-is
    ] in
    let back : WentBack M d c.len-before.result (state c.go_back_to.new.self) = subst (λ (t : State M). WentBack M t c.len-before.result (state c.go_back_to.new.self)) there c.go_back_to.ensures in
    let miss : (s : Sound M b) → Missed b w laws s len good c.follow.new.history (g.S.System.conf c.follow.new.system) = λ s. elim c.else-follow.branch [
      | else-follow-via-then-follow+else-has_arcs y ↦ inr (y.if-follow.ensures.went, λ a. false≢true (y.if-has_arcs.ensures.1 a))
      | else-follow-via-else-follow y ↦ inl y.if-follow.ensures.went
    ] in
    let v = merely_served x.sound (back.same ∙ c.follow.ensures.alike)
    (λ s. underived b w laws s len good c.len-before.result c.from-2.result (miss s) c.follow.ensures.alike c.len-before.ensures.value back c.from-2.ensures) in
    record { served = v; reach = reach_told b (state c.go_back_to.new.self) w (Err c.from-2.result) x.sound laws (λ r. g.met.S.Guided.guides r x.system) v }
