-- Calls of a workbench against the model's tables.
use Rattle.std.proofs.Common.{◌≡◌, ℕ, ◌-◌, ◌<◌, ◌≤◌, Bool, true, false, not, eqb, ltb, leb, List, [], ◌∷◌, ◌++◌, length}
use Rattle.std.proofs.Common.{take, is_some, Some, None, Ok, Err, Option, sym, refl, ap, ◌∙◌, subst, ap₂, arith, MatchResult}
use Rattle.std.proofs.lemmas.List.{length_push, length-take}
use Rattle.std.proofs.lemmas.Bool.{le-ltb, lt-leb, eq-eqb, and_from, not_from_true, not_from_false}
use Rattle.treebank.specs.declared.arcs.Arc.{Arc}
use Rattle.treebank.specs.declared.moves.Move.{Move}
use Rattle.treebank.specs.declared.refusals.Refusal.TheVariants.{TooManyWords, BadLabel, ForeignMove, Finished, NothingToUndo, CheckpointStands, NoSuchCheckpoint}
use Rattle.treebank.specs.Moves.{Proper}
use Rattle.transition.specs.declared.faults.Fault.{Fault}
use Rattle.transition.specs.Meaning.{Meaning, Verdict, fault}
use Rattle.transition.specs.Runs.{Run, Arises, after}
use Rattle.transition.specs.Laws.{Laws, Foreign}
use Rattle.transition.proofs.Running.{run_after, run_join, run_one}
use Rattle.transition.proofs.Ceilings.{bounded}
use Rattle.workbench_model.specs.declared.answers.Answer.{Answer}
use Rattle.workbench_model.specs.declared.answers.Answer.TheVariants.{Loaded, Made, Removed}
use Rattle.workbench_model.specs.Models.{Model, Call, new_model, config}
use Rattle.workbench_model.specs.Models.Call.{load, step, undo, rollback}
use Rattle.workbench_model.specs.Derivations.{is_proper}
use Rattle.workbench_model.specs.Serving.{with_moves, with_checkpoint, floor, does_fit, refuse_if, fault_of, refusal, report, change, unless}
use Rattle.workbench_model.specs.States.{State, Sound, holding, Served, WentBack}
use Rattle.workbench_model.specs.Lasting.{Lawful}
use Rattle.workbench_model.proofs.Tested.{no_way, refuses, passes, within_floor, floor_within, proper_exact}
use Rattle.workbench_model.proofs.Followed.{after_join, run_take}
use Rattle.workbench_model.proofs.Kept.{new_lawful, change_lawful}

module _ {M : Meaning} (b : State M) where
  pub sound_at : Sound M b → b.at ≡ config M b.start b.model
  sound_at s = run_after s.run

  pub sound_arises : Sound M b → Arises M b.start b.at
  sound_arises s = (b.model.words, s.few, b.model.moves, s.run)

  pub sound_lawful : Sound M b → Lawful M b.start b.model
  sound_lawful s = record { few = s.few; run = subst (λ (x : M.Config). Run M (b.start b.model.words) b.model.moves x) (sound_at s) s.run; within = s.within }

pub lawful_sound : {M : Meaning} {start : ℕ → M.Config} (d : State M) → d.start ≡ start → d.at ≡ config M start d.model → Lawful M start d.model → Sound M d
lawful_sound {M} {start} d e f h = record {
  few = h.few;
  run = subst (λ (u : ℕ → M.Config). Run M (u d.model.words) d.model.moves d.at) (sym e) (subst (λ (x : M.Config). Run M (start d.model.words) d.model.moves x) (sym f) h.run);
  within = h.within;
}

-- a call that was accepted
pub served_ok : {M : Meaning} (b d : State M) (call : Call) (a : Answer) → Laws M b.start →
    refusal M b.start b.model call ≡ None → report M b.start b.model call ≡ a → d.model ≡ change M b.start b.model call →
    d.start ≡ b.start → (Sound M b → d.at ≡ config M b.start (change M b.start b.model call)) → Served M b call (Ok a) d
served_ok {M} b d call a laws e r m u at = record {
  is = ap (λ (o : Option Fault). unless o b.model (report M b.start b.model call) (change M b.start b.model call)) e
      ∙ ap₂ (λ (x : Answer) (y : Model). (Ok x, y)) r (sym m);
  same = u;
  sound = λ s. lawful_sound d u (at s ∙ ap (config M b.start) (sym m)) (subst (Lawful M b.start) (sym m) (change_lawful laws b.model call (sound_lawful b s) e));
}

-- a call that was refused
pub served_no : {M : Meaning} (b d : State M) (call : Call) (f : Fault) → refusal M b.start b.model call ≡ Some f → d ≡ b → Served M b call (Err f) d
served_no {M} b d call f e q = record {
  is = ap (λ (o : Option Fault). unless o b.model (report M b.start b.model call) (change M b.start b.model call)) e ∙ ap (λ (y : State M). (Err f, y.model)) (sym q);
  same = ap (λ (y : State M). y.start) q;
  sound = λ s. subst (Sound M) (sym q) s;
}

-- load
no_checkpoint : (k : Option ℕ) → is_some k ≡ false → k ≡ None
no_checkpoint None e = refl
no_checkpoint (Some k) e = no_way (cc)

pub loaded : {M : Meaning} (b : State M) (n e : ℕ) {m : ℕ} {ms : List Move} {c : M.Config} {u : ℕ → M.Config} → Laws M b.start → is_some b.model.checkpoint ≡ false → n ≤ 100 →
    m ≡ n → ms ≡ [] → u ≡ b.start → c ≡ b.start m → Served M b (load n e) (Ok Loaded) (holding m e ms b.model.checkpoint c u)
loaded {M} b n e {m} {ms} {c} {u} laws k few count none same begun =
    let free : b.model.checkpoint ≡ None = no_checkpoint b.model.checkpoint k in
    let q : ◌≡◌ {A = Model} (record { words = m; epoch = e; moves = ms; checkpoint = b.model.checkpoint }) (record { words = n; epoch = e; moves = []; checkpoint = None }) =
    λ i. record { words = count i; epoch = e; moves = none i; checkpoint = free i } in
    let passed : refusal M b.start b.model (load n e) ≡ None =
    passes (is_some b.model.checkpoint) CheckpointStands (refuse_if (ltb 100 n) TooManyWords None) k ∙ passes (ltb 100 n) TooManyWords None (le-ltb 100 n few) in
    served_ok b _ (load n e) Loaded laws passed refl q same (λ s. begun ∙ ap b.start count)

-- step
module _ {M : Meaning} (b : State M) (m : Move) where
  abbrev last : Option Fault
  last = fault_of (M.verdict (config M b.start b.model) m)

  abbrev third : Option Fault
  third = refuse_if (M.finished (config M b.start b.model)) Finished last

  abbrev second : Option Fault
  second = refuse_if (not (M.own m)) ForeignMove third

  proper_passes : Proper m → refusal M b.start b.model (step m) ≡ second
  proper_passes p = passes (not (is_proper m)) BadLabel second (not_from_true (is_proper m) ((proper_exact m).1 p))

  -- the verdict and the end are those of the model's configuration
  module _ (s : Sound M b) where
    verdict_at : (v : Verdict) → M.verdict b.at m ≡ v → M.verdict (config M b.start b.model) m ≡ v
    verdict_at v e = ap (λ (x : M.Config). M.verdict x m) (sym (sound_at b s)) ∙ e

    finished_at : (t : Bool) → M.finished b.at ≡ t → M.finished (config M b.start b.model) ≡ t
    finished_at t e = ap M.finished (sym (sound_at b s)) ∙ e

    -- the move is the system's own unless it was refused as foreign
    own_true : Laws M b.start → (Foreign (M.verdict b.at m) → ⊥) → M.own m ≡ true
    own_true laws never = at (M.own m) refl
      where
        at : (t : Bool) → M.own m ≡ t → t ≡ true
        at true e = refl
        at false e = absurd (never ((laws.foreign b.at m).1 e))

    own_passes : Laws M b.start → (Foreign (M.verdict b.at m) → ⊥) → second ≡ third
    own_passes laws never = passes (not (M.own m)) ForeignMove third (not_from_true (M.own m) (own_true laws never))

    not_foreign : (f : Fault) → M.verdict b.at m ≡ Err f → (f.refusal ≡ ForeignMove → ⊥) → Foreign (M.verdict b.at m) → ⊥
    not_foreign f v never = λ x. never (subst Foreign v x)

    pub step_foreign : Laws M b.start → (f : Fault) → Proper m → M.verdict b.at m ≡ Err f → f.refusal ≡ ForeignMove → refusal M b.start b.model (step m) ≡ Some (fault ForeignMove 0)
    step_foreign laws f p v e =
        proper_passes p ∙ refuses (not (M.own m)) ForeignMove third (not_from_false (M.own m) ((laws.foreign b.at m).0 (subst Foreign (sym v) e)))

    pub step_finished : Laws M b.start → (f : Fault) → Proper m → M.verdict b.at m ≡ Err f → (f.refusal ≡ ForeignMove → ⊥) → M.finished b.at ≡ true → refusal M b.start b.model (step m) ≡ Some (fault Finished 0)
    step_finished laws f p v never e =
        proper_passes p ∙ own_passes laws (not_foreign f v never) ∙ refuses (M.finished (config M b.start b.model)) Finished last (finished_at true e)

    pub step_refused : Laws M b.start → (f : Fault) → Proper m → M.verdict b.at m ≡ Err f → (f.refusal ≡ ForeignMove → ⊥) → M.finished b.at ≡ false → refusal M b.start b.model (step m) ≡ Some f
    step_refused laws f p v never e =
        proper_passes p ∙ own_passes laws (not_foreign f v never)
        ∙ passes (M.finished (config M b.start b.model)) Finished last (finished_at false e) ∙ ap fault_of (verdict_at (Err f) v)

    pub step_free : Laws M b.start → (a : Option Arc) → Proper m → M.verdict b.at m ≡ Ok a → refusal M b.start b.model (step m) ≡ None
    step_free laws a p v =
        proper_passes p ∙ own_passes laws (λ x. subst Foreign v x)
        ∙ passes (M.finished (config M b.start b.model)) Finished last (finished_at false (at (M.finished b.at) refl)) ∙ ap fault_of (verdict_at (Ok a) v)
      where
        at : (t : Bool) → M.finished b.at ≡ t → t ≡ false
        at true e = absurd (laws.stopping m a (sound_arises b s) e v)
        at false e = refl

    pub step_at : (x : M.Config) → x ≡ M.next b.at m → x ≡ config M b.start (change M b.start b.model (step m))
    step_at x e = e ∙ ap (λ (y : M.Config). M.next y m) (sound_at b s) ∙ sym (after_join M (b.start b.model.words) b.model.moves (m ∷ []))

    -- there is room for a permitted move
    pub room : (a : Option Arc) → Laws M b.start → Proper m → M.verdict b.at m ≡ Ok a → length b.model.moves < 5150
    room a laws p v =
        omega (arith, bounded laws s.few (run_join s.run (run_one p v)), (laws.beginning b.model.words s.few).limit, length_push b.model.moves m)

-- a permitted move was made
pub stepped : {M : Meaning} (b : State M) (m : Move) (a : Option Arc) {ms : List Move} {c : M.Config} {u : ℕ → M.Config} → Laws M b.start → Proper m → M.verdict b.at m ≡ Ok a →
    ms ≡ b.model.moves ++ (m ∷ []) → c ≡ M.next b.at m → u ≡ b.start → Sound M b → Served M b (step m) (Ok (Made 1)) (record { model = with_moves b.model ms; at = c; start = u })
stepped b m a laws p v q i e s = served_ok b _ (step m) (Made 1) laws (step_free b m s laws a p v) refl (ap (with_moves b.model) q) e (λ s'. step_at b m s _ i)

-- undo, by going back
pub undone : {M : Meaning} (b : State M) (k : ℕ) {d : State M} → Laws M b.start → floor b.model.checkpoint < length b.model.moves → k ≡ length b.model.moves - 1 →
    WentBack M b k d → Served M b undo (Ok (Removed 1)) d
undone {M} b k {d} laws l e back =
    let m : d.model ≡ with_moves b.model (take (length b.model.moves - 1) b.model.moves) = back.model ∙ ap (λ (x : ℕ). with_moves b.model (take x b.model.moves)) e in
    served_ok b d undo (Removed 1) laws (passes (leb (length b.model.moves) (floor b.model.checkpoint)) NothingToUndo None (lt-leb _ _ l)) refl m back.same
    (λ s. back.at s ∙ ap (config M b.start) m)

-- rollback, by going back
stands : (k : Option ℕ) (j : ℕ) → k ≡ Some j → is_some k ≡ true
stands k j e = ap (λ (x : Option ℕ). is_some x) e

pub ticket_fits : (b : Model) (t j : ℕ) → b.checkpoint ≡ Some j → b.epoch ≡ t → refuse_if (not (does_fit b t)) NoSuchCheckpoint None ≡ None
ticket_fits b t j k e = passes (not (does_fit b t)) NoSuchCheckpoint None (not_from_true (does_fit b t) (and_from (is_some b.checkpoint) (eqb b.epoch t) (stands _ j k) (eq-eqb _ _ e)))

pub rolled : {M : Meaning} (b : State M) (k n t : ℕ) {d : State M} → Laws M b.start → b.model.checkpoint ≡ Some k → b.model.epoch ≡ t → n ≡ length b.model.moves - k →
    WentBack M b k d → Served M b (rollback t) (Ok (Removed n)) (record { model = with_checkpoint d.model None; at = d.at; start = d.start })
rolled {M} b k n t {d} laws e f l back =
    let i : k ≡ floor b.model.checkpoint = sym (ap floor e) in
    let m : with_checkpoint d.model None ≡ with_checkpoint (with_moves b.model (take (floor b.model.checkpoint) b.model.moves)) None =
    ap (λ (y : Model). with_checkpoint y None) back.model ∙ ap (λ (x : ℕ). with_checkpoint (with_moves b.model (take x b.model.moves)) None) i in
    served_ok b _ (rollback t) (Removed n) laws (ticket_fits b.model t k e f) (ap (λ (x : ℕ). Removed (length b.model.moves - x)) (sym i) ∙ ap Removed (sym l)) m back.same
    (λ s. back.at s ∙ ap (config M b.start) m)

-- going back to the first k moves
pub went_back : {M : Meaning} (b : State M) (k : ℕ) {ms : List Move} {c : M.Config} {u : ℕ → M.Config} → ms ≡ take k b.model.moves → u ≡ b.start →
    ((d : M.Config) → Run M (b.start b.model.words) ms d → c ≡ d) → WentBack M b k (record { model = with_moves b.model ms; at = c; start = u })
went_back {M} b k {ms} {c} q e again = record {
  model = ap (with_moves b.model) q;
  same = e;
  at = λ s. again _ (subst (λ (xs : List Move). Run M (b.start b.model.words) xs (after M (b.start b.model.words) xs)) (sym q) (run_take M k s.run));
}

-- no further back than the checkpoint
pub back_sound : {M : Meaning} (b : State M) (k : ℕ) {d : State M} → floor b.model.checkpoint ≤ k → WentBack M b k d → Sound M b → Sound M d
back_sound {M} b k {d} l back s =
    let h = sound_lawful b s in
    let most : floor b.model.checkpoint ≤ length b.model.moves = within_floor b.model.checkpoint (length b.model.moves) s.within in
    let less : Lawful M b.start (with_moves b.model (take k b.model.moves)) = record {
      few = h.few;
      run = run_take M k h.run;
      within = floor_within b.model.checkpoint (length (take k b.model.moves)) (omega (arith, length-take k b.model.moves));
    } in
    lawful_sound d back.same (back.at s) (subst (Lawful M b.start) (sym back.model) less)

-- a move of a run is permitted, and leads to where the rest of the run begins
pub run_next : {M : Meaning} {c d e : M.Config} {m : Move} {ms : List Move} (Q : Fault → Type 0) (r : Verdict) → Run M c (m ∷ ms) d → r ≡ M.verdict c m → MatchResult r (λ _. e ≡ M.next c m) Q → Run M e ms d
run_next {M} {d = d} {ms = ms} Q (Ok a) (Run.move p v rest) same next = subst (λ (x : M.Config). Run M x ms d) (sym next) rest
run_next Q (Err f) (Run.move p v rest) same next = no_way (cc)

pub run_none : {M : Meaning} {c d : M.Config} {ms : List Move} → Run M c ms d → ms ≡ [] → c ≡ d
run_none Run.stay e = refl
run_none (Run.move p v rest) e = no_way (cc)

-- a new workbench
pub new_sound : {M : Meaning} {start u : ℕ → M.Config} {ms : List Move} {c : M.Config} → Laws M start → ms ≡ [] → u ≡ start → c ≡ start 0 → Sound M (holding 0 0 ms None c u)
new_sound {M} {start} {u} {ms} {c} laws none same begun =
    let e : ◌≡◌ {A = Model} (record { words = 0; epoch = 0; moves = ms; checkpoint = None }) new_model = λ i. record { words = 0; epoch = 0; moves = none i; checkpoint = None } in
    lawful_sound (holding 0 0 ms None c u) same (begun ∙ ap (config M start) (sym e)) (subst (Lawful M start) (sym e) (new_lawful laws))
