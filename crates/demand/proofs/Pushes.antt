-- Laws of specs/Pushes.antt, and what only they need.
use Prim.Native.Nat.{ℕ, zero, suc, ◌+◌, ◌≤◌}
use Rattle.std.specs.Prelude.{◌≡◌, Bool, ltb, length, take as first_of}
use Rattle.std.proofs.Math.Path.{refl, ap₂, subst}
use Rattle.std.proofs.Common.{sym, ap, ◌∙◌, arith}
use Rattle.std.proofs.Math.Bool.{true, false}
use Rattle.std.proofs.lemmas.Bool.{false≢true}
use mathlib.Core.List.{List, ◌∷◌, ◌++◌}
use Rattle.std.proofs.Math.Option.{some}
use borrow.Author.Tests.{ltb-true, lt-ltb}
use Rattle.std.proofs.Math.ListN.{drop}
use Rattle.names.specs.Names.{bit}
use Rattle.value.specs.declared.Value.{Value}
use Rattle.formula.specs.Tree.{Exp, formula_of}
use Rattle.formula.specs.Faults.{letters_of}
use Rattle.network.specs.Net.{Links, Able}
use Rattle.graph.specs.Translation.{made_of}
use Rattle.machine_layout.specs.Layout.{inputs_of, untaken_of, size_of, need, stored_kinds}
use Rattle.machine_valid.specs.Below.{all_below, and_both, below_at, below_all}
use Rattle.machine_calls.specs.Calls.{Outcome, size_in, standing, rooms_ok, pushed}
use Rattle.value_sets.specs.Sets.{set_ok, set_values, IsSet}
use Rattle.value_sets.proofs.Sets.{values-pass, values-set}
use Rattle.machine_calls.specs.CallLaws.{pushed-untaken, pushed-full}
use Rattle.theory_verdicts.specs.Owed.{credit_link}
use Rattle.theory_verdicts.specs.Running.{places, push_of, start_of}
use Rattle.demand_view.specs.Sound.{Sound}
use Rattle.demand_view.specs.Stands.{Stands}
use Rattle.demand_ends.proofs.PushLinks.{push-room, room-push}
use Rattle.demand_ends.proofs.Push.{tests-push, push-accepted, stands-pushed}
use Rattle.demand_begin.proofs.Lent.{stands-lent, stands-behind}
use Rattle.demand_view.proofs.FireCall.{stands-size}
use Rattle.demand_begin.proofs.StandsValid.{stands-well}
use Rattle.machine_start.specs.Start.{started}
use Rattle.demand_begin.proofs.MadeSound.{made-sound}
use Rattle.demand_begin.proofs.StartedStands.{accepted-stands}
use Rattle.machine_start.specs.StartLaws.{accepted-start}
use Rattle.demand.specs.MemoryCalls.{answers_of, memory_after, answer_of}
use Rattle.demand.specs.Pushes.{has_room, push_refusal, after_push, push_refusals, push_answers}

-- ---- the same
module _ (x : Exp) (S : Sound (made_of x)) (kinds : List ℕ) (capacity : ℕ) (low : 1 ≤ capacity) (high : capacity ≤ 16) (count : length kinds ≡ (made_of x).inputs)
    (set : List ℕ) (v : List Value) (I : IsSet kinds set v) where
  near : (made_of x).inputs + bit (made_of x).triggered ≤ credit_link
  near = omega (arith, S.names-below, S.few-links)

  abbrev Rooms : Links → Bool
  Rooms q = all_below ((made_of x).inputs + bit (made_of x).triggered) (has_room capacity q)

  rooms-able : (q : Links) → ltb (length (q credit_link)) 16 ≡ true → Rooms q ≡ true → Able (places capacity) (push_of x v) q
  unfolding has_room
  rooms-able q a b =
      room-push (made_of x) v q (I.count ∙ count) near capacity (ltb-true (length (q credit_link)) 16 a)
      (λ l h. ltb-true (length (q l)) capacity (below_at ((made_of x).inputs + bit (made_of x).triggered) (has_room capacity q) b l h))

  able-rooms : (q : Links) → Able (places capacity) (push_of x v) q → Rooms q ≡ true
  unfolding has_room
  able-rooms q a =
      below_all ((made_of x).inputs + bit (made_of x).triggered) (has_room capacity q)
      (λ l h. lt-ltb (length (q l)) capacity ((push-room (made_of x) v q (I.count ∙ count) near capacity a).1 l h))

  -- One push answers what the links say, and leaves the memory of the links after it.
  pub record Answered (o : Outcome) (q : Links) : Type 0 where
    pub answer : o.answer.refusal ≡ push_refusal x capacity q
    pub stands : Stands (made_of x) kinds capacity o.mem (after_push x capacity v q)

  module _ (m : List ℕ) (q : Links) (H : Stands (made_of x) kinds capacity m q) where
    good : standing m ≡ 0
    good = stands-well (made_of x) S kinds capacity low high m q H

    set-good : set_ok (stored_kinds m) set ≡ true
    set-good = rw H.kinds-are (values-pass kinds set v I.values)

    untaken : (b : Bool) → ltb (length (q credit_link)) 16 ≡ b → ltb (untaken_of m) 16 ≡ b
    untaken b e = ap (λ (n : ℕ). ltb n 16) H.untaken-is ∙ e

    rooms_in : (b : Bool) → rooms_ok m (size_of capacity) (made_of x).inputs ≡ b → rooms_ok m (size_in m) (inputs_of m) ≡ b
    rooms_in b e = ap₂ (λ (z n : ℕ). rooms_ok m z n) (stands-size (made_of x) S kinds capacity low high m q H) H.inputs_are ∙ e

    accepted : ltb (length (q credit_link)) 16 ≡ true → Rooms q ≡ true → Answered (pushed m set) q
    unfolding push_refusal after_push
    accepted a b =
        let can = rooms-able q a b in
        subst (λ (o : Outcome). Answered o q) (sym (push-accepted (made_of x) S kinds capacity low high m q H set v I good can))
        (record {
          answer = rw (a, b) refl;
          stands = rw (a, b) (stands-pushed (made_of x) S kinds capacity low high m q H set v I can);
        })

    full : ltb (length (q credit_link)) 16 ≡ true → Rooms q ≡ false → Answered (pushed m set) q
    unfolding push_refusal after_push
    full a b = go (rooms_ok m (size_of capacity) (made_of x).inputs) refl
      where
        go : (c : Bool) → rooms_ok m (size_of capacity) (made_of x).inputs ≡ c → Answered (pushed m set) q
        go true e =
            absurd (false≢true (sym b ∙ able-rooms q (tests-push (made_of x) S kinds capacity low high m q H set v I (and_both (untaken true a) e))))
        go false e =
            subst (λ (o : Outcome). Answered o q) (sym (pushed-full m good set set-good (untaken true a) (rooms_in false e)))
            (record { answer = rw (a, b) refl; stands = rw (a, b) H })

    sixteen-untaken : ltb (length (q credit_link)) 16 ≡ false → Answered (pushed m set) q
    unfolding push_refusal after_push
    sixteen-untaken a =
        subst (λ (o : Outcome). Answered o q) (sym (pushed-untaken m good set set-good (untaken false a)))
        (record { answer = rw a refl; stands = rw a H })

    pub push-answered : Answered (pushed m set) q
    push-answered = go (ltb (length (q credit_link)) 16) refl (Rooms q) refl
      where
        go : (a : Bool) → ltb (length (q credit_link)) 16 ≡ a → (b : Bool) → Rooms q ≡ b → Answered (pushed m set) q
        go true e true f = accepted e f
        go true e false f = full e f
        go false e b f = sixteen-untaken e

  -- Pushes on the memory are answered as the links say.
  pub pushes-answered : (lent : ℕ) → need (size_of capacity) ≤ lent → (k : ℕ) (m : List ℕ) (q : Links) → Stands (made_of x) kinds capacity m q
      → push_answers lent k set m ≡ push_refusals x capacity v k q
  unfolding push_answers push_refusals answers_of answer_of memory_after
  pushes-answered lent h zero m q H = refl
  pushes-answered lent h (suc k) m q H =
      let A = push-answered (first_of lent m) q (stands-lent (made_of x) S kinds capacity m q H lent h) in
      ap₂ {B = List ℕ} (λ (r : ℕ) (rs : List ℕ). r ∷ rs) A.answer
      (pushes-answered lent h k ((pushed (first_of lent m) set).mem ++ drop lent m) (after_push x capacity v q)
      (stands-behind (made_of x) S kinds capacity (pushed (first_of lent m) set).mem (after_push x capacity v q) A.stands (drop lent m)))

-- From an accepted start on, for any set that passes 12.
pub pushes-from-start : (sheet line : List ℕ) (capacity : ℕ) (memory : List ℕ) → (started sheet line capacity memory).answer.refusal ≡ 0
    → (set : List ℕ) (v : List Value) → set_values (letters_of (formula_of sheet) line) set ≡ some v → (lent : ℕ) → need (size_of capacity) ≤ lent → (k : ℕ)
    → push_answers lent k set (started sheet line capacity memory).mem ≡ push_refusals (formula_of sheet) capacity v k (start_of (formula_of sheet))
pushes-from-start sheet line capacity memory h set v r lent enough k =
    let a = accepted-start sheet line capacity memory h in
    let x = formula_of sheet in
    let kinds = letters_of x line in
    let H = accepted-stands sheet line capacity memory h in
    pushes-answered x (made-sound sheet a.admissible) kinds capacity a.some a.most H.kinds-count set v (values-set kinds set v r) lent enough k
    (started sheet line capacity memory).mem (start_of x) H
