-- An accepted push on bytes is one push of the abstract machine, with its set pushed; a refused one is none. It answers no 31. Assumes the laws of `CallsAgree`.
use Rattle.std.specs.Prelude.{ℕ, ◌≤◌, ◌<◌, ◌≡◌, ◌≢◌, Bool, true, false, cond, ltb, length, take as first_of}
use Rattle.std.proofs.Math.Path.{refl}
use Rattle.std.proofs.Common.{sym, ap, subst, ◌∙◌, arith, eq-eqb, ne_eqb}
use mathlib.Core.List.{List, [], ◌∷◌, ◌++◌}
use Rattle.std.proofs.Math.Option.{some}
use Rattle.std.proofs.Math.Decide.{dec_lt}
use Rattle.std.proofs.Math.ListN.{drop, take-append-drop}
use Rattle.value.specs.declared.Value.{Value}
use Rattle.network.specs.Net.{Links, Able, act}
use Rattle.theory_pieces.specs.Tape.{pushing}
use Rattle.formula.specs.Tree.{Exp}
use Rattle.formula.specs.declared.Refusal.TheVariants.{Memory, Set, Untaken, Full, Altered}
use Rattle.formula.specs.Refusals.{number_of}
use Rattle.graph.specs.Translation.{made_of}
use Rattle.value_sets.specs.Sets.{set_values, set_ok}
use Rattle.value_sets.proofs.Sets.{values-set}
use Rattle.machine_layout.specs.Layout.{size_of, need, inputs_of, untaken_of, stored_kinds}
use Rattle.machine_calls.specs.Calls.{Outcome, outcome, answers, size_in, standing, rooms_ok, pushed_memory, pushed}
use Rattle.machine_calls.specs.CallLaws.{pushed-refused, pushed-no-set, pushed-untaken, pushed-full, pushed-accepted}
use Rattle.theory_verdicts.specs.Running.{places, push_of, dec_able, pushes, steps_of}
use Rattle.demand_view.specs.Stands.{Stands}
use Rattle.demand.specs.MemoryCalls.{accepted}
use Rattle.demand_begin.proofs.Lent.{stands-lent, stands-behind, short-refused}
use Rattle.demand_view.proofs.FireCall.{stands-size}
use Rattle.demand.specs.Agree.{CallsAgree}
use Rattle.demand.proofs.Followed.{Follows, follows-none, follows-one, can-accepted}
use Rattle.demand.specs.Followed.{Unaltered}

module _ (x : Exp) (kinds : List ℕ) (capacity : ℕ) (low : 1 ≤ capacity) (high : capacity ≤ 16) (A : CallsAgree x kinds capacity) (m : List ℕ)
    (q : Links) (H : Stands (made_of x) kinds capacity m q) (lent : ℕ) where
  abbrev lentPart : List ℕ
  lentPart = first_of lent m

  abbrev pub Push-follows : List ℕ → Outcome → Type 0
  Push-follows set o = Follows x kinds capacity q (o.mem ++ drop lent m) (cond (accepted o.answer) (set ∷ []) []) [] × Unaltered o.answer.refusal

  push-refused : (set : List ℕ) (r : ℕ) → r ≢ 0 → Unaltered r → Push-follows set (outcome (answers r 0) lentPart)
  unfolding accepted
  push-refused set r n u = rw (ne_eqb r 0 n, take-append-drop lent m) (follows-none x kinds capacity q m H, u)

  module _ (set : List ℕ) (L : Stands (made_of x) kinds capacity lentPart q) where
    push-steps : (v : List Value) → set_values kinds set ≡ some v → Able (places capacity) (push_of x v) q
        → steps_of x capacity (pushes v) q ≡ pushing v ∷ []
    unfolding steps_of
    push-steps v r a =
        rw (eq-eqb (length v) (made_of x).inputs ((values-set kinds set v r).count ∙ L.kinds-count)) (can-accepted (pushing v) (dec_able (places capacity) (push_of x v) q) a)

    push-made : (v : List Value) → set_values kinds set ≡ some v → ltb (untaken_of lentPart) 16 ≡ true
        → rooms_ok lentPart (size_of capacity) (made_of x).inputs ≡ true → Push-follows set (outcome (answers 0 0) (pushed_memory lentPart set))
    unfolding accepted
    push-made v r b c = (
      follows-one x kinds capacity q (pushed_memory lentPart set ++ drop lent m) (set ∷ []) [] (pushes v) (pushing v ∷ []) (push-steps v r (A.push-able lentPart q L set v r b c))
          (stands-behind (made_of x) A.sound kinds capacity (pushed_memory lentPart set) (act (push_of x v) q) (A.pushed lentPart q L set v r b c) (drop lent m))
          (r, tt) refl,
      λ (e : 0 ≡ number_of Altered). absurd (omega arith),
    )

    push-tested : Push-follows set (pushed lentPart set)
    push-tested = go (set_ok (stored_kinds lentPart) set) refl (ltb (untaken_of lentPart) 16) refl (rooms_ok lentPart (size_in lentPart) (inputs_of lentPart)) refl
      where
        st : standing lentPart ≡ 0
        st = A.good lentPart q L

        go : (a : Bool) → set_ok (stored_kinds lentPart) set ≡ a → (b : Bool) → ltb (untaken_of lentPart) 16 ≡ b
            → (c : Bool) → rooms_ok lentPart (size_in lentPart) (inputs_of lentPart) ≡ c → Push-follows set (pushed lentPart set)
        go false a b e c f = subst (Push-follows set) (sym (pushed-no-set lentPart st set a)) (push-refused set (number_of Set) (omega arith) (omega arith))
        go true a false e c f = subst (Push-follows set) (sym (pushed-untaken lentPart st set a e)) (push-refused set (number_of Untaken) (omega arith) (omega arith))
        go true a true e false f = subst (Push-follows set) (sym (pushed-full lentPart st set a e f)) (push-refused set (number_of Full) (omega arith) (omega arith))
        go true a true e true f =
            let s = stands-size (made_of x) A.sound kinds capacity low high lentPart q L in
            let v = A.set-read set (subst (λ (ks : List ℕ). set_ok ks set ≡ true) L.kinds-are a) in
            subst (Push-follows set) (sym (pushed-accepted lentPart st set a e f))
            (push-made v.0 v.1 e (subst (λ (n : ℕ). rooms_ok lentPart (size_of capacity) n ≡ true) L.inputs_are (subst (λ (z : ℕ). rooms_ok lentPart z (inputs_of lentPart) ≡ true) s f)))

  pub push-follows : (set : List ℕ) → Push-follows set (pushed lentPart set)
  push-follows set = go (dec_lt lent (need (size_of capacity)))
    where
      go : Dec (lent < need (size_of capacity)) → Push-follows set (pushed lentPart set)
      go (yes h) =
          let st = short-refused (made_of x) kinds capacity m q low high H lent h in
          subst (Push-follows set) (sym (pushed-refused lentPart set (λ z. absurd (omega (arith, st, z))) ∙ ap (λ (r : ℕ). outcome (answers r 0) lentPart) st))
          (push-refused set (number_of Memory) (omega arith) (omega arith))
      go (no h) = push-tested set (stands-lent (made_of x) A.sound kinds capacity m q H lent (omega arith))
