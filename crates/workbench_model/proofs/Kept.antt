-- What every call of the model keeps.
use Rattle.std.proofs.Common.{◌≡◌, ℕ, ◌-◌, ◌<◌, ◌≤◌, true, not, eqb, ltb, leb, ◌↔◌, List, [], ◌∷◌, ◌++◌, length, take, is_some, Some, None, Ok, Option, sym, refl, ap, ◌∙◌, subst, arith, lit≤}
use Rattle.std.proofs.lemmas.List.{length_push, length-append, length-take-le}
use Rattle.std.proofs.lemmas.Bool.{leb-false, ltb-false, eqb-true, eq-eqb, not-false, not_from_true, and_parts}
use Rattle.treebank.specs.declared.moves.Move.{Move}
use Rattle.treebank.specs.declared.rows.Row.{Row}
use Rattle.treebank.specs.declared.refusals.Refusal.TheVariants.{TooManyWords, BadLabel, ForeignMove, WrongRowCount, BadRow, Finished, Unreachable, NothingToUndo, CheckpointStands}
use Rattle.treebank.specs.Tables.{GoodTable, are_good_rows, table_arcs}
use Rattle.treebank.specs.Trees.{SameArcs, DependencyForest}
use Rattle.treebank.proofs.Goodness.{good_exact}
use Rattle.transition.specs.declared.faults.Fault.{Fault}
use Rattle.transition.specs.Meaning.{Meaning}
use Rattle.transition.specs.Runs.{Run, Reaches, Arises, after}
use Rattle.transition.specs.Laws.{Laws}
use Rattle.transition.proofs.Running.{run_one}
use Rattle.transition.proofs.Ceilings.{bounded, words_kept}
use Rattle.transition.proofs.Forests.{arcs_forest}
use Rattle.guidance.specs.Guides.{Guides}
use Rattle.guidance.specs.Following.{Derives}
use Rattle.guidance.proofs.Followed.{follows_run, derives}
use Rattle.workbench_model.specs.declared.answers.Answer.TheVariants.{Made}
use Rattle.workbench_model.specs.Models.{Model, Call, new_model, config}
use Rattle.workbench_model.specs.Models.Call.{load, step, undo, checkpoint, commit, rollback, derive}
use Rattle.workbench_model.specs.Derivations.{is_proper, derivation}
use Rattle.workbench_model.specs.Serving.{Outcome, with_moves, floor, moves_of, refuse_if, fault_of, refusal, report, change, unless, serve}
use Rattle.workbench_model.specs.Lasting.{Lawful, Tally, count, Balanced, Led, unreachable}
use Rattle.workbench_model.proofs.Tested.{no_way, passed, passes, fault_none, some_moves, within_more, within_floor, floor_within, proper_exact}
use Rattle.workbench_model.proofs.Followed.{run_take, after_join, run_more, derivation_follows, follows_derivation}

-- a derive that is not refused has a table of as many rows as words, and moves
pub derive_passed : (M : Meaning) (start : ℕ → M.Config) (b : Model) (w : List Row) → refusal M start b (derive w) ≡ None →
    (length w ≡ b.words) × (derivation M w (config M start b) ≡ Some (moves_of (derivation M w (config M start b))))
derive_passed M start b w e =
    let o = derivation M w (config M start b) in
    let last : Option Fault = refuse_if (not (is_some o)) Unreachable None in
    let (p, q) = passed (not (eqb (length w) b.words)) WrongRowCount (refuse_if (not (are_good_rows b.words w)) BadRow last) e in
    let (r, s) = passed (not (are_good_rows b.words w)) BadRow last q in
    let (t, u) = passed (not (is_some o)) Unreachable None s in
    (eqb-true _ _ (not-false (eqb (length w) b.words) p), some_moves o (not-false (is_some o) t))

-- a derive of a good table is refused only where there are no moves
pub derive_why : (M : Meaning) (start : ℕ → M.Config) (b : Model) (w : List Row) → length w ≡ b.words → are_good_rows b.words w ≡ true →
    refusal M start b (derive w) ≡ refuse_if (not (is_some (derivation M w (config M start b)))) Unreachable None
derive_why M start b w n g =
    let last : Option Fault = refuse_if (not (is_some (derivation M w (config M start b)))) Unreachable None in
    passes (not (eqb (length w) b.words)) WrongRowCount (refuse_if (not (are_good_rows b.words w)) BadRow last) (not_from_true (eqb (length w) b.words) (eq-eqb _ _ n))
    ∙ passes (not (are_good_rows b.words w)) BadRow last (not_from_true (are_good_rows b.words w) g)

module _ {M : Meaning} {start : ℕ → M.Config} (laws : Laws M start) where
  pub lawful_arises : (b : Model) → Lawful M start b → Arises M start (config M start b)
  lawful_arises b h = (b.words, h.few, b.moves, h.run)

  pub lawful_words : (b : Model) → Lawful M start b → M.words (config M start b) ≡ b.words
  lawful_words b h = words_kept laws h.few h.run

  pub new_lawful : Lawful M start new_model
  new_lawful = record { few = lit≤ tt; run = Run.stay; within = tt }

  -- each call that is not refused
  pub change_lawful : (b : Model) (call : Call) → Lawful M start b → refusal M start b call ≡ None → Lawful M start (change M start b call)
  change_lawful b (load n s) h e =
      let (p, q) = passed (is_some b.checkpoint) CheckpointStands (refuse_if (ltb 100 n) TooManyWords None) e in
      let (r, t) = passed (ltb 100 n) TooManyWords None q in
      record { few = ltb-false 100 n r; run = Run.stay; within = tt }
  change_lawful b (step m) h e =
      let c = config M start b in
      let why : Option Fault = fault_of (M.verdict c m) in
      let (p, q) = passed (not (is_proper m)) BadLabel (refuse_if (not (M.own m)) ForeignMove (refuse_if (M.finished c) Finished why)) e in
      let (r, s) = passed (not (M.own m)) ForeignMove (refuse_if (M.finished c) Finished why) q in
      let (t, u) = passed (M.finished c) Finished why s in
      let (a, v) = fault_none (M.verdict c m) u in
      record {
        few = h.few;
        run = run_more M b.moves (m ∷ []) h.run (run_one ((proper_exact m).0 (not-false (is_proper m) p)) v);
        within = within_more b.checkpoint (length b.moves) (length (b.moves ++ (m ∷ []))) (omega (arith, length_push b.moves m)) h.within;
      }
  change_lawful b undo h e =
      let (p, q) = passed (leb (length b.moves) (floor b.checkpoint)) NothingToUndo None e in
      let l : floor b.checkpoint < length b.moves = leb-false _ _ p in
      let n : length (take (length b.moves - 1) b.moves) ≡ length b.moves - 1 = length-take-le (length b.moves - 1) b.moves (omega arith) in
      record {
        few = h.few;
        run = run_take M (length b.moves - 1) h.run;
        within = floor_within b.checkpoint (length (take (length b.moves - 1) b.moves)) (omega arith);
      }
  change_lawful b checkpoint h e = record { few = h.few; run = h.run; within = omega arith }
  change_lawful b (commit t) h e = record { few = h.few; run = h.run; within = tt }
  change_lawful b (rollback t) h e = record { few = h.few; run = run_take M (floor b.checkpoint) h.run; within = tt }
  change_lawful b (derive w) h e =
      let c = config M start b in
      let ms = moves_of (derivation M w c) in
      let (n, o) = derive_passed M start b w e in
      let (f, same) = derivation_follows laws w (lawful_arises b h) (n ∙ sym (lawful_words b h)) ms o in
      record {
        few = h.few;
        run = run_more M b.moves ms h.run (follows_run f).0;
        within = within_more b.checkpoint (length b.moves) (length (b.moves ++ ms)) (omega (arith, length-append b.moves ms)) h.within;
      }

  pub change_balanced : (b : Model) (call : Call) (t : Tally) → Lawful M start b → refusal M start b call ≡ None → Balanced t b → Balanced (count t (Ok (report M start b call))) (change M start b call)
  change_balanced b (load n s) t h e q = refl
  change_balanced b (step m) t h e q = omega (arith, length_push b.moves m)
  change_balanced b undo t h e q =
      let (p, r) = passed (leb (length b.moves) (floor b.checkpoint)) NothingToUndo None e in
      let l : floor b.checkpoint < length b.moves = leb-false _ _ p in
      omega (arith, length-take-le (length b.moves - 1) b.moves (omega arith))
  change_balanced b checkpoint t h e q = q
  change_balanced b (commit k) t h e q = q
  change_balanced b (rollback k) t h e q =
      let l : floor b.checkpoint ≤ length b.moves = within_floor b.checkpoint _ h.within in
      omega (arith, length-take-le (floor b.checkpoint) b.moves l)
  change_balanced b (derive w) t h e q = omega (arith, length-append b.moves (moves_of (derivation M w (config M start b))))

  -- each call, refused or not
  pub serve_lawful : (b : Model) (call : Call) → Lawful M start b → Lawful M start (serve M start b call).1
  serve_lawful b call h = at (refusal M start b call) refl
    where
      at : (o : Option Fault) → refusal M start b call ≡ o → Lawful M start (unless o b (report M start b call) (change M start b call)).1
      at None e = change_lawful b call h e
      at (Some f) e = h

  pub serve_balanced : (b : Model) (call : Call) (t : Tally) → Lawful M start b → Balanced t b → Balanced (count t (serve M start b call).0) (serve M start b call).1
  serve_balanced b call t h q = at (refusal M start b call) refl
    where
      at : (o : Option Fault) → refusal M start b call ≡ o → Balanced (count t (unless o b (report M start b call) (change M start b call)).0) (unless o b (report M start b call) (change M start b call)).1
      at None e = change_balanced b call t h e q
      at (Some f) e = q

  -- what holds of the moves standing
  pub lawful_ceiling : (b : Model) → Lawful M start b → length b.moves ≤ M.ceiling b.words
  lawful_ceiling b h = omega (arith, bounded laws h.few h.run)

  pub lawful_forest : (b : Model) → Lawful M start b → DependencyForest (M.arcs (config M start b))
  lawful_forest b h = arcs_forest laws (lawful_arises b h)

  -- a derive, whatever it answers
  pub derive_led : Guides M start → (b : Model) (w : List Row) → Lawful M start b → GoodTable b.words w →
      Led M w (config M start b) (serve M start b (derive w)).0 (config M start (serve M start b (derive w)).1)
  derive_led guides b w h good = at (derivation M w c) refl
    where
      c : M.Config
      c = config M start b

      len : length w ≡ M.words c
      len = good.rows ∙ sym (lawful_words b h)

      reach : Reaches M c w ↔ Derives M c w
      reach = derives laws guides w (lawful_arises b h) (subst (λ (n : ℕ). GoodTable n w) (sym (lawful_words b h)) good)

      rows : are_good_rows b.words w ≡ true
      rows = (and_parts (eqb (length w) b.words) (are_good_rows b.words w) ((good_exact b.words w).1 good)).1

      why : (o : Option (List Move)) → derivation M w c ≡ o → refusal M start b (derive w) ≡ refuse_if (not (is_some o)) Unreachable None
      why o e = derive_why M start b w good.rows rows ∙ ap (λ (x : Option (List Move)). refuse_if (not (is_some x)) Unreachable None) e

      at : (o : Option (List Move)) → derivation M w c ≡ o → Led M w c (serve M start b (derive w)).0 (config M start (serve M start b (derive w)).1)
      at None e =
          let s : serve M start b (derive w) ≡ (unreachable, b) = ap (λ (x : Option Fault). unless x b (report M start b (derive w)) (change M start b (derive w))) (why None e) in
          let a : (serve M start b (derive w)).0 ≡ unreachable = ap (λ (x : Outcome × Model). x.0) s in
          let no : Reaches M c w → ⊥ = λ r. (let (ms, d, f, t) = reach.0 r in let z : ◌≡◌ {A = ℕ} 0 1 = cc (follows_derivation laws w (lawful_arises b h) len ms f t) in omega arith) in
          record { refused = (λ q. no, λ q. a); accepted = λ q. absurd (q a) }
      at (Some ms) e =
          let (f, same) = derivation_follows laws w (lawful_arises b h) len ms e in
          let d : Model = with_moves b (b.moves ++ ms) in
          let s : serve M start b (derive w) ≡ (Ok (Made (length ms)), d) =
          ap (λ (x : Option Fault). unless x b (report M start b (derive w)) (change M start b (derive w))) (why (Some ms) e)
          ∙ ap (λ (o : Option (List Move)). (Ok (Made (length (moves_of o))), with_moves b (b.moves ++ moves_of o))) e in
          let yes : Reaches M c w = reach.1 (ms, after M c ms, f, same) in
          let there : config M start d ≡ after M c ms = after_join M (start b.words) b.moves ms in
          subst (λ (x : Outcome × Model). Led M w c x.0 (config M start x.1)) (sym s) (record {
            refused = (λ q. no_way (cc), λ no. absurd (no yes));
            accepted = λ q. (
                let P : M.Config → Type 0 = λ x. (M.finished x ≡ true) × SameArcs (M.arcs x) (table_arcs w) in
                let (end, arcs) = subst P (sym there) ((follows_run f).1, same) in
                (length ms, refl, end, arcs));
          })
