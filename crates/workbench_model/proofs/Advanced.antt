-- Following the advice turn by turn.
use Rattle.std.proofs.Common.{◌≡◌, ℕ, zero, suc, ◌+◌, ◌-◌, ◌<◌, ◌≤◌, Bool, true, false, cond, List, [], ◌∷◌, ◌++◌, length, Some, None, Ok, Err, Option, sym, refl, ap, ◌∙◌, subst, append_assoc, append-nil, arith}
use Rattle.std.proofs.lemmas.List.{length_push}
use Rattle.treebank.specs.declared.arcs.Arc.{Arc}
use Rattle.treebank.specs.declared.moves.Move.{Move}
use Rattle.treebank.specs.declared.rows.Row.{Row}
use Rattle.treebank.specs.Moves.{Proper}
use Rattle.transition.specs.Meaning.{Meaning, Verdict}
use Rattle.transition.specs.Runs.{Run}
use Rattle.transition.specs.Laws.{Laws}
use Rattle.transition.proofs.Running.{run_join, run_one}
use Rattle.transition.proofs.Ceilings.{run_falls, bounded}
use Rattle.workbench_model.specs.Derivations.{is_proper, with_first, advised, permitted, followed}
use Rattle.workbench_model.specs.Advances.{Went}
use Rattle.workbench_model.proofs.Tested.{proper_exact}
use Rattle.workbench_model.proofs.Followed.{turn_made, followed_none}

-- these moves before the others
abbrev with_front : List Move → Option (List Move) → Option (List Move)
with_front [] o = o
with_front (m ∷ ms) o = with_first m (with_front ms o)

front_push : (ms : List Move) (m : Move) (o : Option (List Move)) → with_front (ms ++ (m ∷ [])) o ≡ with_front ms (with_first m o)
front_push [] m o = refl
front_push (k ∷ ms) m o = ap (with_first k) (front_push ms m o)

front_end : (ms : List Move) → with_front ms (Some []) ≡ Some ms
front_end [] = refl
front_end (m ∷ ms) = ap (with_first m) (front_end ms)

front_none : (ms : List Move) → with_front ms None ≡ None
front_none [] = refl
front_none (m ∷ ms) = ap (with_first m) (front_none ms)

-- where no permitted move is advised, nothing follows
stuck : (M : Meaning) (w : List Row) (d : M.Config) → M.finished d ≡ false → ((m : Move) (a : Option Arc) → M.advice d w ≡ Some m → Proper m → M.verdict d m ≡ Ok a → ⊥) → (k : ℕ) → followed M w k d ≡ None
stuck M w d u never zero = ap (λ (t : Bool). cond t (Some []) None) u
stuck M w d u never (suc k) = ap (λ (t : Bool). cond t (Some []) (advised (M.advice d w) turn)) u ∙ told (M.advice d w) refl
  where
    turn : Move → Option (List Move)
    turn m = cond (is_proper m) (permitted (M.verdict d m) (with_first m (followed M w k (M.next d m)))) None

    went : (m : Move) (v : Verdict) → M.advice d w ≡ Some m → Proper m → M.verdict d m ≡ v → permitted v (with_first m (followed M w k (M.next d m))) ≡ None
    went m (Ok a) s p v = absurd (never m a s p v)
    went m (Err f) s p v = refl

    labelled : (m : Move) (t : Bool) → is_proper m ≡ t → M.advice d w ≡ Some m → cond t (permitted (M.verdict d m) (with_first m (followed M w k (M.next d m)))) None ≡ None
    labelled m true p s = went m (M.verdict d m) s ((proper_exact m).0 p) refl
    labelled m false p s = refl

    told : (o : Option Move) → M.advice d w ≡ o → advised o turn ≡ None
    told None s = refl
    told (Some m) s = labelled m (is_proper m) refl s

-- the advice has come from c to d by these moves: to follow it further is to follow it from c
pub record On (M : Meaning) (w : List Row) (ms : List Move) (c : M.Config) (ns : List Move) (d : M.Config) : Type 0 where
  pub made : List Move
  pub longer : ns ≡ ms ++ made
  pub run : Run M c made d
  pub onward : (k : ℕ) → followed M w (length made + k) c ≡ with_front made (followed M w k d)

pub on_start : {M : Meaning} {w : List Row} {ms : List Move} {c : M.Config} → On M w ms c ms c
on_start {M} {w} {ms} {c} = record { made = []; longer = sym (append-nil ms); run = Run.stay; onward = λ k. (let e : 0 + k ≡ k = omega arith in ap (λ (x : ℕ). followed M w x c) e) }

module _ {M : Meaning} {w : List Row} {ms ns : List Move} {c d : M.Config} (o : On M w ms c ns d) where
  pub on_more : {ns' : List Move} {d' : M.Config} (m : Move) (a : Option Arc) → M.finished d ≡ false → M.advice d w ≡ Some m → Proper m → M.verdict d m ≡ Ok a →
      ns' ≡ ns ++ (m ∷ []) → d' ≡ M.next d m → On M w ms c ns' d'
  on_more {ns'} {d'} m a u s p v e f =
      let all = o.made ++ (m ∷ []) in
      subst (λ (x : M.Config). On M w ms c ns' x) (sym f) (record {
        made = all;
        longer = e ∙ ap (λ (xs : List Move). xs ++ (m ∷ [])) o.longer ∙ append_assoc ms o.made (m ∷ []);
        run = run_join o.run (run_one p v);
        onward = λ k.
            let count : length all + k ≡ length o.made + suc k = omega (arith, length_push o.made m) in
            ap (λ (x : ℕ). followed M w x c) count ∙ o.onward (suc k) ∙ ap (with_front o.made) (turn_made M w k d m a u s p v) ∙ sym (front_push o.made m (followed M w k (M.next d m)));
      })

  module _ {start : ℕ → M.Config} (laws : Laws M start) where
    -- all that derive looks at is followed from d
    rest : (n : ℕ) → n ≤ 100 → Run M (start n) ms c → (k : ℕ) × (followed M w (M.remaining c) c ≡ with_front o.made (followed M w k d))
    rest n h r =
        let fall : length o.made + M.remaining d ≤ M.remaining c = run_falls laws (n, h, ms, r) o.run in
        let k = M.remaining c - length o.made in
        let count : M.remaining c ≡ length o.made + k = omega arith in
        (k, ap (λ (x : ℕ). followed M w x c) count ∙ o.onward k)

    pub on_finished : M.finished d ≡ true → Went M start w ms c true ns d
    on_finished f = record {
      made = o.made;
      longer = o.longer;
      run = o.run;
      is = λ n h r. let (k, e) = rest n h r in e ∙ ap (with_front o.made) (followed_none M w k d f) ∙ front_end o.made;
    }

    pub on_stuck : M.finished d ≡ false → ((n : ℕ) → n ≤ 100 → Run M (start n) ns d → (m : Move) (a : Option Arc) → M.advice d w ≡ Some m → Proper m → M.verdict d m ≡ Ok a → ⊥) → Went M start w ms c false ns d
    on_stuck u never = record {
      made = o.made;
      longer = o.longer;
      run = o.run;
      is = λ n h r.
          let (k, e) = rest n h r in
          let all : Run M (start n) ns d = subst (λ (xs : List Move). Run M (start n) xs d) (sym o.longer) (run_join r o.run) in
          e ∙ ap (with_front o.made) (stuck M w d u (never n h all) k) ∙ front_none o.made;
    }

    pub on_silent : M.finished d ≡ false → M.advice d w ≡ None → Went M start w ms c false ns d
    on_silent u s = on_stuck u (λ n h r m a t. let e : ◌≡◌ {A = Option Move} None (Some m) = sym s ∙ t in let z : ◌≡◌ {A = ℕ} 0 1 = cc in omega arith)

    pub on_refused : (m : Move) → M.finished d ≡ false → M.advice d w ≡ Some m → ((a : Option Arc) → Proper m → M.verdict d m ≡ Ok a → ⊥) → Went M start w ms c false ns d
    on_refused m u s never = on_stuck u (λ n h r k a t p v.
        let e : ◌≡◌ {A = Option Move} (Some k) (Some m) = sym t ∙ s in
        let f : k ≡ m = cc in
        never a (subst Proper f p) (subst (λ (x : Move). M.verdict d x ≡ Ok a) f v))

    -- where there is no room for a move none is permitted
    pub on_full : (r : Bool) → 5150 ≤ length ns → r ≡ M.finished d → Went M start w ms c r ns d
    on_full true l e = on_finished (sym e)
    on_full false l e = on_stuck (sym e) (λ n h r m a t p v.
        let fall : M.remaining (M.next d m) < M.remaining d = laws.falling m a (n, h, ns, r) v in
        let most : length ns + M.remaining d ≤ M.ceiling n = bounded laws h r in
        let limit : M.ceiling n ≤ 5150 = (laws.beginning n h).limit in
        omega arith)
