-- An accepted fire on bytes is one firing of the abstract machine; a refused one is none. It answers no 31. Assumes the laws of `CallsAgree`.
use Rattle.std.specs.Prelude.{ℕ, ◌≤◌, ◌<◌, ◌≡◌, refl, Bool, true, false, List, [], ◌∷◌, ◌++◌, ltb, length, drop, take as first_of}
use Rattle.std.proofs.Common.{sym, ap, subst, ◌∙◌, arith, ltb-true, take-append-drop}
use Rattle.std.proofs.Math.Decide.{dec_lt}
use Rattle.network.specs.Net.{Links, Able, act}
use Rattle.theory_pieces.specs.Tape.{firing}
use Rattle.formula.specs.Tree.{Exp}
use Rattle.formula.specs.declared.Refusal.TheVariants.{Memory, NotAble, Altered}
use Rattle.formula.specs.Refusals.{number_of}
use Rattle.graph.specs.Translation.{made_of}
use Rattle.machine_layout.specs.Layout.{size_of, need, operators_of}
use Rattle.machine_firing.specs.Fire.{able_at, fired_at}
use Rattle.machine_calls.specs.Calls.{Outcome, outcome, answers, size_in, standing, fired}
use Rattle.machine_calls.specs.CallLaws.{fired-refused, fired-absent, fired-idle, fired-accepted}
use Rattle.theory_verdicts.specs.Running.{places, operator_at, dec_able, fires, steps_of}
use Rattle.demand_view.specs.Stands.{Stands}
use Rattle.demand_begin.proofs.Lent.{stands-lent, stands-behind, short-refused}
use Rattle.demand_view.proofs.FireCall.{stands-size}
use Rattle.demand.specs.Agree.{CallsAgree}
use Rattle.demand.proofs.Followed.{Follows, follows-none, follows-one, can-accepted}
use Rattle.demand.specs.Followed.{Unaltered}

module _ (x : Exp) (kinds : List ℕ) (capacity : ℕ) (low : 1 ≤ capacity) (high : capacity ≤ 16) (A : CallsAgree x kinds capacity) (m : List ℕ)
    (q : Links) (H : Stands (made_of x) kinds capacity m q) (lent : ℕ) where
  abbrev lentPart : List ℕ
  lentPart = first_of lent m

  abbrev pub Fire-follows : Outcome → Type 0
  Fire-follows o = Follows x kinds capacity q (o.mem ++ drop lent m) [] [] × Unaltered o.answer.refusal

  pub fire-refused : (r : ℕ) → Unaltered r → Fire-follows (outcome (answers r 0) lentPart)
  fire-refused r u = rw (take-append-drop lent m) (follows-none x kinds capacity q m H, u)

  module _ (i : ℕ) (L : Stands (made_of x) kinds capacity lentPart q) where
    fire-steps : Able (places capacity) (operator_at x i) q → steps_of x capacity (fires i) q ≡ firing i ∷ []
    unfolding steps_of
    fire-steps a = can-accepted (firing i) (dec_able (places capacity) (operator_at x i) q) a

    fire-made : i < length (made_of x).operators → able_at lentPart (size_of capacity) i ≡ true → Fire-follows (outcome (answers 0 0) (fired_at lentPart (size_of capacity) i))
    fire-made l a = (
      follows-one x kinds capacity q (fired_at lentPart (size_of capacity) i ++ drop lent m) [] [] (fires i) (firing i ∷ []) (fire-steps (A.able-links lentPart q L i l a))
          (stands-behind (made_of x) A.sound kinds capacity (fired_at lentPart (size_of capacity) i) (act (operator_at x i) q) (A.fired lentPart q L i l a) (drop lent m))
          tt refl,
      λ (e : 0 ≡ number_of Altered). absurd (omega arith),
    )

    fire-tested : Fire-follows (fired lentPart i)
    fire-tested = go (ltb i (operators_of lentPart)) refl (able_at lentPart (size_in lentPart) i) refl
      where
        st : standing lentPart ≡ 0
        st = A.good lentPart q L

        go : (a : Bool) → ltb i (operators_of lentPart) ≡ a → (b : Bool) → able_at lentPart (size_in lentPart) i ≡ b → Fire-follows (fired lentPart i)
        go false a b e = subst Fire-follows (sym (fired-absent lentPart st i a)) (fire-refused (number_of NotAble) (omega arith))
        go true a false e = subst Fire-follows (sym (fired-idle lentPart st i a e)) (fire-refused (number_of NotAble) (omega arith))
        go true a true e =
            let s = stands-size (made_of x) A.sound kinds capacity low high lentPart q L in
            let l = ltb-true i (operators_of lentPart) a in
            subst Fire-follows (sym (fired-accepted lentPart st i a e ∙ ap (λ (z : ℕ). outcome (answers 0 0) (fired_at lentPart z i)) s))
            (fire-made (omega (arith, L.operators-are)) (subst (λ (z : ℕ). able_at lentPart z i ≡ true) s e))

  pub fire-follows : (i : ℕ) → Fire-follows (fired lentPart i)
  fire-follows i = go (dec_lt lent (need (size_of capacity)))
    where
      go : Dec (lent < need (size_of capacity)) → Fire-follows (fired lentPart i)
      go (yes h) =
          let st = short-refused (made_of x) kinds capacity m q low high H lent h in
          subst Fire-follows (sym (fired-refused lentPart i (λ z. absurd (omega (arith, st, z))) ∙ ap (λ (r : ℕ). outcome (answers r 0) lentPart) st))
          (fire-refused (number_of Memory) (omega arith))
      go (no h) = fire-tested i (stands-lent (made_of x) A.sound kinds capacity m q H lent (omega arith))
