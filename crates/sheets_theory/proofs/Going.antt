-- The lines of a sheet made one after the other, seen from inside a loop, and the whole of a replay.
use Rattle.std.proofs.Common.{◌≡◌, ℕ, ◌+◌, ◌/◌, ◌<◌, ◌≤◌, is_err, false, true, List, [], length, drop, Some, None, Ok, Err, Option, Result, sym, refl, ap, ◌∙◌, subst, le-ltb, arith}
use Rattle.std.proofs.lemmas.List.{length-drop, drop-drop, drop_all}
use Rattle.treebank.specs.declared.moves.Move.{Move}
use Rattle.treebank.specs.declared.refusals.Refusal.{Refusal}
use Rattle.transition.specs.declared.faults.Fault.{Fault}
use Rattle.transition.specs.Meaning.{Meaning, fault}
use Rattle.run_sheet.specs.Says.{move_said}
use Rattle.run_sheet.specs.Texts.{said}
use Rattle.workbench_model.specs.declared.answers.Answer.{Answer}
use Rattle.workbench_model.specs.declared.answers.Answer.TheVariants.{Loaded, Made}
use Rattle.workbench_model.specs.Models.{Model, config}
use Rattle.workbench_model.specs.Models.Call.{load, step}
use Rattle.workbench_model.specs.Serving.{Outcome, with_moves, refusal, change, unless}
use Rattle.workbench_model.specs.States.{State, Sound, Served}
use Rattle.workbench_model.proofs.Serves.{sound_at}
use Rattle.sheets_theory.specs.declared.faults.SheetFault.{SheetFault}
use Rattle.sheets_theory.specs.Replays.{at_line, for_move, unless_refused, replayed, is_new, is_headed, then_at, replay_model}
use Rattle.sheets_theory.specs.Lines.{Kept, LinesTold}
use Rattle.sheets_theory.specs.Replayed.{Accepted, RefusedSheet, ReplayTold}
use Rattle.sheets_theory.proofs.Lined.{replayed_line}
use Rattle.sheets_theory.proofs.Exact.{new_passed, says_exactly}

-- a load without a checkpoint, of at most 100 words, is not refused
load_free : (M : Meaning) (start : ℕ → M.Config) (b : Model) (n e : ℕ) → b.checkpoint ≡ None → n ≤ 100 → refusal M start b (load n e) ≡ None
load_free M start b n e k h = simp (k, le-ltb 100 n h)

-- a call that was not refused, and one that was
call_made : (o : Option Fault) (b d e : Model) (a c : Answer) → unless o b a d ≡ (Ok c, e) → (o ≡ None) × (d ≡ e)
call_made None b d e a c q = (refl, ap (λ (x : Outcome × Model). x.1) q)
call_made (Some f) b d e a c q = let r = ap (λ (x : Outcome × Model). x.0) q in cc

call_refused : (o : Option Fault) (b d e : Model) (a : Answer) (f : Fault) → unless o b a d ≡ (Err f, e) → (o ≡ Some f) × (b ≡ e)
call_refused None b d e a f q = let r = ap (λ (x : Outcome × Model). x.0) q in cc
call_refused (Some g) b d e a f q = let r = ap (λ (x : Outcome × Model). x.0) q in (cc, ap (λ (x : Outcome × Model). x.1) q)

module _ {M : Meaning} (s : State M) (text : List ℕ) where
  -- up to place p the lines are made; what is to come gives what the whole gives
  pub record Going (p : ℕ) (t : State M) : Type 0 where
    pub is : replayed M s.start t.model (p / 5 + 1) (drop p text) ≡ replayed M s.start s.model 2 (drop 5 text)
    pub kept : Kept M s t

  pub going_none : Going 5 s
  going_none = record { is = refl; kept = record { rest = refl; same = refl; sound = λ x. x } }

  module _ (p : ℕ) (t : State M) (more : p < length text) (o : Going p t) where
    -- the line at this place decides
    here : (r : Result Move Refusal) → move_said (drop p text) ≡ r → replayed M s.start s.model 2 (drop 5 text) ≡
        for_move (p / 5 + 1) r (λ m. unless_refused (p / 5 + 1) (refusal M s.start t.model (step m)) (replayed M s.start (change M s.start t.model (step m)) (p / 5 + 1 + 1) (drop 5 (drop p text))))
    here r e =
        let some : 0 < length (drop p text) = omega (arith, length-drop p text) in
        sym o.is ∙ replayed_line M s.start t.model (p / 5 + 1) (drop p text) some
        ∙ ap (λ (x : Result Move Refusal). for_move (p / 5 + 1) x (λ m. unless_refused (p / 5 + 1) (refusal M s.start t.model (step m))
        (replayed M s.start (change M s.start t.model (step m)) (p / 5 + 1 + 1) (drop 5 (drop p text))))) e

    -- it says no move
    pub going_unsaid : (why : Refusal) → move_said (drop p text) ≡ Err why → LinesTold s text (Err (at_line (p / 5 + 1) (fault why 0))) t
    going_unsaid why e = (here (Err why) e, o.kept)

    module _ (m : Move) (e : move_said (drop p text) ≡ Ok m) (u : State M) where
      served_at : (a : Outcome) → Served M t (step m) a u → unless (refusal M s.start t.model (step m)) t.model (Made 1) (change M s.start t.model (step m)) ≡ (a, u.model)
      served_at a served =
          subst (λ (x : ℕ → M.Config). unless (refusal M x t.model (step m)) t.model (Made 1) (change M x t.model (step m)) ≡ (a, u.model)) o.kept.same served.is

      -- its move is refused
      pub going_refused : (f : Fault) → Served M t (step m) (Err f) u → LinesTold s text (Err (at_line (p / 5 + 1) f)) u
      going_refused f served =
          let (r, same) = call_refused (refusal M s.start t.model (step m)) t.model (change M s.start t.model (step m)) u.model (Made 1) f (served_at (Err f) served) in (
            here (Ok m) e ∙ ap (λ (x : Option Fault). unless_refused (p / 5 + 1) x (replayed M s.start (change M s.start t.model (step m)) (p / 5 + 1 + 1) (drop 5 (drop p text)))) r,
            record { rest = ap (λ (x : Model). with_moves x []) (sym same) ∙ o.kept.rest; same = served.same ∙ o.kept.same; sound = λ x. served.sound (o.kept.sound x) },
          )

      -- its move is made
      pub going_more : Served M t (step m) (Ok (Made 1)) u → Going (p + 5) u
      going_more served =
          let (r, left) = call_made (refusal M s.start t.model (step m)) t.model (change M s.start t.model (step m)) u.model (Made 1) (Made 1) (served_at (Ok (Made 1)) served) in
          let line : (p + 5) / 5 + 1 ≡ p / 5 + 1 + 1 = omega arith in
          let rest : drop (p + 5) text ≡ drop 5 (drop p text) = sym (drop-drop 5 p text) in
          record {
            is = ap (λ (k : ℕ). replayed M s.start u.model k (drop (p + 5) text)) line
                ∙ ap (replayed M s.start u.model (p / 5 + 1 + 1)) rest
                ∙ ap (λ (x : Model). replayed M s.start x (p / 5 + 1 + 1) (drop 5 (drop p text))) (sym left)
                ∙ sym (here (Ok m) e ∙ ap (λ (x : Option Fault). unless_refused (p / 5 + 1) x (replayed M s.start (change M s.start t.model (step m)) (p / 5 + 1 + 1) (drop 5 (drop p text)))) r);
            kept = record { rest = ap (λ (x : Model). with_moves x []) (sym left) ∙ o.kept.rest; same = served.same ∙ o.kept.same; sound = λ x. served.sound (o.kept.sound x) };
          }

  -- no line is left
  pub going_done : (p k : ℕ) (t : State M) → length text ≤ p → k ≡ length t.model.moves → Going p t → LinesTold s text (Ok k) t
  going_done p k t h count o = (sym o.is ∙ ap (replayed M s.start t.model (p / 5 + 1)) (drop_all p text h), count, o.kept)

-- the whole, by its tests and its lines
module _ {M : Meaning} (s : State M) (text : List ℕ) where
  pub refused_new : (f : Fault) → is_new s.model ≡ Err f → RefusedSheet M s text (at_line 0 f) s
  refused_new f e = record {
    is = ap (λ (r : Result Unit Fault). then_at 0 r (then_at 1 (is_headed M.number s.model.words (said text)) (replayed M s.start s.model 2 (drop 5 text)))) e;
    model = refl;
    same = refl;
    unchanged = λ _. refl;
    sound = λ x. x;
  }

  module _ (new : is_new s.model ≡ Ok tt) where
    begun : replay_model M s.start s.model text ≡ then_at 1 (is_headed M.number s.model.words (said text)) (replayed M s.start s.model 2 (drop 5 text))
    begun = ap (λ (r : Result Unit Fault). then_at 0 r (then_at 1 (is_headed M.number s.model.words (said text)) (replayed M s.start s.model 2 (drop 5 text)))) new

    pub refused_heading : (f : Fault) → is_headed M.number s.model.words (said text) ≡ Err f → RefusedSheet M s text (at_line 1 f) s
    refused_heading f e = record { is = begun ∙ ap (λ (r : Result Unit Fault). then_at 1 r (replayed M s.start s.model 2 (drop 5 text))) e; model = refl; same = refl; unchanged = λ _. refl; sound = λ x. x }

    module _ (head : is_headed M.number s.model.words (said text) ≡ Ok tt) where
      as_lines : replay_model M s.start s.model text ≡ replayed M s.start s.model 2 (drop 5 text)
      as_lines = begun ∙ ap (λ (r : Result Unit Fault). then_at 1 r (replayed M s.start s.model 2 (drop 5 text))) head

      pub accepted_lines : (k : ℕ) (t : State M) → LinesTold s text (Ok k) t → Accepted M s text k t
      accepted_lines k t (e, count, kept) = record {
        is = as_lines ∙ e;
        count = count;
        exact = says_exactly M s.start s.model t.model text (as_lines ∙ e);
        same = kept.same;
        sound = kept.sound;
      }

      -- after a fault the sentence is loaded again
      pub refused_lines : (f : SheetFault) (t u : State M) (a : Outcome) → s.model.words ≤ 100 → LinesTold s text (Err f) t → Served M t (load t.model.words t.model.epoch) a u → RefusedSheet M s text f u
      refused_lines f t u a few (e, kept) served =
          let (free, none) = new_passed M s.start s.model new in
          let words : t.model.words ≡ s.model.words = ap (λ (x : Model). x.words) kept.rest in
          let epoch : t.model.epoch ≡ s.model.epoch = ap (λ (x : Model). x.epoch) kept.rest in
          let clear : t.model.checkpoint ≡ None = ap (λ (x : Model). x.checkpoint) kept.rest ∙ free in
          let loaded : Model = record { words = t.model.words; epoch = t.model.epoch; moves = []; checkpoint = None } in
          let r : refusal M t.start t.model (load t.model.words t.model.epoch) ≡ None = load_free M t.start t.model t.model.words t.model.epoch clear (omega arith) in
          let left : u.model ≡ loaded =
          sym (ap (λ (x : Outcome × Model). x.1) (sym (ap (λ (x : Option Fault). unless x t.model Loaded loaded) r) ∙ served.is)) in
          let back : loaded ≡ s.model = λ i. record { words = words i; epoch = epoch i; moves = sym none i; checkpoint = sym free i } in
          let model : u.model ≡ s.model = left ∙ back in
          let start : u.start ≡ s.start = served.same ∙ kept.same in
          let after : Sound M s → Sound M u = λ sound. served.sound (kept.sound sound) in
          record {
            is = as_lines ∙ e;
            model = model;
            same = start;
            unchanged = λ sound.
                let at : u.at ≡ s.at =
                sound_at u (after sound) ∙ ap (λ (x : ℕ → M.Config). config M x u.model) start ∙ ap (config M s.start) model ∙ sym (sound_at s sound) in
                λ i. record { model = model i; at = at i; start = start i };
            sound = after;
          }

      -- what came of the lines, by the test of whether a fault did
      pub lines_accepted : (r : Result ℕ SheetFault) (t : State M) → is_err r ≡ false → LinesTold s text r t → ReplayTold s text r t
      lines_accepted (Ok k) t e lines = accepted_lines k t lines
      lines_accepted (Err f) t e lines = cc

      pub lines_refused : (r : Result ℕ SheetFault) (t u : State M) (a : Outcome) → is_err r ≡ true → s.model.words ≤ 100 → LinesTold s text r t → Served M t (load t.model.words t.model.epoch) a u → ReplayTold s text r u
      lines_refused (Ok k) t u a e few lines served = cc
      lines_refused (Err f) t u a e few lines served = refused_lines f t u a few lines served
