-- A derive, by what following the advice came to.
use Rattle.std.proofs.Common.{◌≡◌, ℕ, ◌-◌, Bool, true, false, cond, not, ◌&&◌, ◌⊎◌, List, ◌++◌, length, take, is_some, Some, None, Ok, Err, Option, sym, refl, ap, ◌∙◌, subst, ap₂, inl, inr, arith}
use Rattle.std.proofs.lemmas.List.{length-append, take_at}
use Rattle.std.proofs.lemmas.Bool.{eq-eqb}
use Rattle.treebank.specs.declared.moves.Move.{Move}
use Rattle.treebank.specs.declared.rows.Row.{Row}
use Rattle.treebank.specs.declared.refusals.Refusal.TheVariants.{Unreachable}
use Rattle.treebank.specs.Tables.{GoodTable, are_good_rows, is_good_table}
use Rattle.transition.specs.declared.faults.Fault.{Fault}
use Rattle.transition.specs.Meaning.{Meaning, fault}
use Rattle.transition.specs.Runs.{Run, after}
use Rattle.transition.specs.Laws.{Laws}
use Rattle.transition.proofs.Running.{run_after, run_join}
use Rattle.transition.proofs.Ceilings.{words_kept}
use Rattle.guidance.specs.Guides.{Guides}
use Rattle.guidance.specs.Building.{Agrees}
use Rattle.workbench_model.specs.declared.answers.Answer.TheVariants.{Made}
use Rattle.workbench_model.specs.Models.{Model, config}
use Rattle.workbench_model.specs.Models.Call.{derive}
use Rattle.workbench_model.specs.Derivations.{does_agree, if_agrees, derivation}
use Rattle.workbench_model.specs.Serving.{Outcome, with_moves, moves_of, refuse_if, change}
use Rattle.workbench_model.specs.Advances.{Went}
use Rattle.workbench_model.specs.States.{State, Sound, Served, WentBack}
use Rattle.workbench_model.specs.Lasting.{Led}
use Rattle.workbench_model.proofs.Tested.{within_more, agrees_exact}
use Rattle.workbench_model.proofs.Followed.{after_join}
use Rattle.workbench_model.proofs.Kept.{derive_why, derive_led}
use Rattle.workbench_model.proofs.Serves.{sound_at, sound_lawful, served_ok, served_no}

-- of a table of the right length the rows decide
pub rows_decide : (n : ℕ) (w : List Row) (t : Bool) → length w ≡ n → t ≡ is_good_table n w → are_good_rows n w ≡ t
rows_decide n w t len e = sym (e ∙ ap (λ (x : Bool). x && are_good_rows n w) (eq-eqb (length w) n len))

-- the advice was followed from a sound workbench
pub went_sound : {M : Meaning} (b : State M) {w : List Row} {end : Bool} {ns : List Move} {d : M.Config} {u : ℕ → M.Config} →
    Went M b.start w b.model.moves b.at end ns d → u ≡ b.start → Sound M b → Sound M (record { model = with_moves b.model ns; at = d; start = u })
went_sound {M} b {ns = ns} {d = d} g e s = record {
  few = s.few;
  run = subst (λ (t : ℕ → M.Config). Run M (t b.model.words) ns d) (sym e) (subst (λ (xs : List Move). Run M (b.start b.model.words) xs d) (sym g.longer) (run_join s.run g.run));
  within = within_more b.model.checkpoint (length b.model.moves) (length ns) (omega (arith, ap length g.longer, length-append b.model.moves g.made)) s.within;
}

module _ {M : Meaning} (b : State M) (w : List Row) (laws : Laws M b.start) (s : Sound M b) (len : length w ≡ b.model.words) (good : are_good_rows b.model.words w ≡ true) where
  -- the arcs of where the advice led decide
  decided : {ns : List Move} {d : M.Config} (g : Went M b.start w b.model.moves b.at true ns d) (t : Bool) → does_agree M d b.model.words w ≡ t →
      derivation M w (config M b.start b.model) ≡ cond t (Some g.made) None
  decided {ns} {d} g t e =
      let words : M.words d ≡ b.model.words = words_kept laws s.few (run_join s.run g.run) in
      let f : does_agree M d (M.words d) w ≡ t = subst (λ (n : ℕ). does_agree M d n w ≡ t) (sym words) e in
      let there : does_agree M (after M b.at g.made) (M.words (after M b.at g.made)) w ≡ t = subst (λ (x : M.Config). does_agree M x (M.words x) w ≡ t) (run_after g.run) f in
      ap (derivation M w) (sym (sound_at b s))
      ∙ ap (if_agrees M w b.at) (g.is b.model.words s.few s.run)
      ∙ ap (λ (x : Bool). cond x (Some g.made) None) there

  pub derived : (k : ℕ) {ns : List Move} {d : M.Config} {u : ℕ → M.Config} → Went M b.start w b.model.moves b.at true ns d → Agrees M d b.model.words w →
      k ≡ length ns - length b.model.moves → u ≡ b.start → Served M b (derive w) (Ok (Made k)) (record { model = with_moves b.model ns; at = d; start = u })
  derived k {ns} {d} {u} g agree l e =
      let c = config M b.start b.model in
      let p : derivation M w c ≡ Some g.made = decided g true ((agrees_exact M d w b.model.words).1 agree) in
      let ms : moves_of (derivation M w c) ≡ g.made = ap moves_of p in
      let i : length g.made ≡ k = omega (arith, ap length g.longer, length-append b.model.moves g.made) in
      let at : d ≡ config M b.start (change M b.start b.model (derive w)) =
      run_after g.run ∙ ap (λ (x : M.Config). after M x g.made) (sound_at b s) ∙ sym (after_join M (b.start b.model.words) b.model.moves g.made)
      ∙ ap (λ (xs : List Move). after M (b.start b.model.words) (b.model.moves ++ xs)) (sym ms) in
      served_ok b _ (derive w) (Made k) laws
      (derive_why M b.start b.model w len good ∙ ap (λ (o : Option (List Move)). refuse_if (not (is_some o)) Unreachable None) p)
      (ap (λ (xs : List Move). Made (length xs)) ms ∙ ap Made i)
      (ap (with_moves b.model) (g.longer ∙ ap (λ (xs : List Move). b.model.moves ++ xs) (sym ms))) e (λ s. at)

  -- the advice led nowhere, or to other arcs
  abbrev pub Missed : List Move → M.Config → Type 0
  Missed ns d = Went M b.start w b.model.moves b.at false ns d ⊎ (Went M b.start w b.model.moves b.at true ns d × (Agrees M d b.model.words w → ⊥))

  missed : {ns : List Move} {d : M.Config} {u : ℕ → M.Config} → Missed ns d → u ≡ b.start →
      (derivation M w (config M b.start b.model) ≡ None) × ((ks : List Move) × (ns ≡ b.model.moves ++ ks)) × Sound M (record { model = with_moves b.model ns; at = d; start = u })
  missed {ns} {d} {u} (inl g) e = (
    ap (derivation M w) (sym (sound_at b s)) ∙ ap (if_agrees M w b.at) (g.is b.model.words s.few s.run),
    (g.made, g.longer),
    went_sound b g e s,
  )
  missed {ns} {d} {u} (inr (g, other)) e = (
    decided g false (at (does_agree M d b.model.words w) refl),
    (g.made, g.longer),
    went_sound b g e s,
  )
    where
      at : (t : Bool) → does_agree M d b.model.words w ≡ t → t ≡ false
      at true e = absurd (other ((agrees_exact M d w b.model.words).0 e))
      at false e = refl

  -- the moves that were made go again
  pub underived : (k : ℕ) (x : Fault) {ns : List Move} {d : M.Config} {u : ℕ → M.Config} {t : State M} → Missed ns d → u ≡ b.start → k ≡ length b.model.moves →
      WentBack M (record { model = with_moves b.model ns; at = d; start = u }) k t → x ≡ fault Unreachable 0 → Served M b (derive w) (Err x) t
  underived k x {ns} {d} {u} {t} miss e l back z =
      let (none, (ks, longer), sound) = missed miss e in
      let front : take k ns ≡ b.model.moves = ap (take k) longer ∙ take_at b.model.moves ks k (sym l) in
      let ms : t.model ≡ b.model = back.model ∙ ap (with_moves b.model) front in
      let st : t.start ≡ b.start = back.same ∙ e in
      let at : t.at ≡ b.at = back.at sound ∙ ap₂ (λ (f : ℕ → M.Config) (y : Model). config M f y) e ms ∙ sym (sound_at b s) in
      let same : t ≡ b = λ i. record { model = ms i; at = at i; start = st i } in
      served_no b t (derive w) x
      (derive_why M b.start b.model w len good ∙ ap (λ (o : Option (List Move)). refuse_if (not (is_some o)) Unreachable None) none ∙ ap (λ (y : Fault). Some y) (sym z)) same

-- where the advice is reliable, what was served says whether the table can be reached
pub served_led : {M : Meaning} (b d : State M) (w : List Row) (a : Outcome) → Laws M b.start → Guides M b.start → Sound M b → GoodTable b.model.words w → Served M b (derive w) a d → Led M w b.at a d.at
served_led {M} b d w a laws guides s good v =
    let l = derive_led laws guides b.model w (sound_lawful b s) good in
    let m : Led M w (config M b.start b.model) a (config M b.start d.model) =
    subst (λ (x : Outcome × Model). Led M w (config M b.start b.model) x.0 (config M b.start x.1)) v.is l in
    let before : config M b.start b.model ≡ b.at = sym (sound_at b s) in
    let after_it : config M b.start d.model ≡ d.at = ap (λ (u : ℕ → M.Config). config M u d.model) (sym v.same) ∙ sym (sound_at d (v.sound s)) in
    subst (λ (x : M.Config). Led M w b.at a x) after_it (subst (λ (x : M.Config). Led M w x a (config M b.start d.model)) before m)
