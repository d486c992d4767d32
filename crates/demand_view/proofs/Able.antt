-- An operator can fire on the bytes of a standing memory where it can on the links, and only there: `able-on-links` and `able-on-bytes`. Document 01, "The
-- graph": "An operator fires only when every token listed waits and each link it emits on has a free place." A number past the last is no operator.
-- Assumes a capacity of at least 1.
use Rattle.std.specs.Prelude.{ℕ, ◌+◌, ◌≤◌, ◌<◌, ◌≡◌, ◌≢◌, Bool, false, ◌&&◌, List, length}
use Rattle.std.proofs.Math.Path.{refl, ap, subst}
use Rattle.std.proofs.Common.{sym, ◌∙◌, arith}
use Rattle.std.proofs.Math.Bool.{true}
use Rattle.std.proofs.lemmas.Bool.{false≢true}
use Rattle.std.proofs.Math.Option.{Option, none, some}
use borrow.Author.Tests.{ltb-true, lt-ltb}
use Rattle.value.specs.declared.Value.{Value}
use Rattle.value.specs.Bytes.{decoded}
use Rattle.network.specs.Net.{Links, Able}
use Rattle.network.specs.Fill.{remembering}
use Rattle.network.specs.Decide.{Decision}
use Rattle.network.specs.Firing.{Holds}
use Rattle.network.proofs.Firing.{fill-able, able-fill}
use Rattle.network.specs.FiringLinks.{Output, output1, output2, output3, output, Own-links}
use Rattle.machine_layout.specs.Layout.{size_of}
use Rattle.machine_firing.specs.Links.{room_at, room_from}
use Rattle.machine_firing.specs.Fire.{given, ready_for, ready_from, able_at, able_from}
use Rattle.graph.specs.Assembly.{Operator}
use Rattle.graph.specs.Translation.{Made}
use Rattle.theory_reference.specs.Plugged.{registers, link-of, ports_of, demand_of}
use Rattle.theory_wiring.specs.Machine.{net_of}
use Rattle.theory_verdicts.specs.Owed.{credit_link}
use Rattle.theory_verdicts.specs.Running.{places}
use Rattle.demand_view.specs.Sound.{Ith, Sound}
use Rattle.demand_view.specs.Stands.{Stands}
use Rattle.demand_view.proofs.Moves.{stands-room}
use Rattle.demand_view.proofs.Operators.{ith-there, net-ith, output-below, own-links}
use Rattle.demand_view.specs.Decision.{Linked-in}
use Rattle.demand_view.proofs.Decision.{registerNow, decisionNow, plan-read, plan-none}
use Rattle.demand_view.specs.Emitting.{Place}
use Rattle.demand_view.proofs.Emitting.{room-places, places-room}

both_hold : (a b : Bool) → a && b ≡ true → (a ≡ true) × (b ≡ true)
both_hold true b e = (refl, e)
both_hold false b e = absurd (false≢true e)

module _ (g : Made) (S : Sound g) (kinds : List ℕ) (capacity : ℕ) (m : List ℕ) (q : Links) (H : Stands g kinds capacity m q) where
  abbrev size : ℕ
  size = size_of capacity

  -- room on the link of a port for what is given there, on the bytes
  abbrev pub room_for : Option ℕ → Option Value → Bool
  room_for x v = room_at m size (given (decoded v) (link-of x))

  pub room-is-place : (x : Option ℕ) (v : Option Value) → Linked-in g x → room_for x v ≡ true → Place capacity x v q
  unfolding given
  room-is-place none v b e = tt
  room-is-place (some l) none b e = tt
  room-is-place (some l) (some v) b e = ltb-true (length (q l)) capacity (sym (stands-room g S kinds capacity m q H l (b l refl)) ∙ e)

  place-is-room : (x : Option ℕ) (v : Option Value) → Linked-in g x → Place capacity x v q → room_for x v ≡ true
  unfolding given room_from
  place-is-room none none b h = refl
  place-is-room none (some v) b h = refl
  place-is-room (some l) none b h = refl
  place-is-room (some l) (some v) b h = stands-room g S kinds capacity m q H l (b l refl) ∙ lt-ltb (length (q l)) capacity h

  module _ (i : ℕ) (o : Operator) (at : Ith g.operators i o) where
    abbrev now : Option Decision
    now = decisionNow g S kinds capacity m q H i o at

    pub owns : Own-links o.kind (ports_of o) q
    owns = own-links g S i o at q H.nowhere-empty

    pub holds : Holds (remembering o.kind) (ports_of o) q (registerNow g S kinds capacity m q H i o at)
    holds = (H.registered i o at).held

    not-credit : (x : Output) (l : ℕ) → output (ports_of o) x ≡ some l → l ≢ credit_link
    not-credit x l e f = let b = output-below g S i o at x l e in omega (arith, S.few-links)

    -- Ready: a decision, and a place for each token that it gives.
    abbrev pub Places : Decision → Type 0
    Places d = Place capacity o.out1 d.give1 q × Place capacity o.out2 d.give2 q × Place capacity o.out3 d.give3 q

    pub ready-places : (d : Decision) → now ≡ some d → able_at m size i ≡ true → Places d
    unfolding able_from ready_from
    ready-places d e t =
        let a : room_for o.out1 d.give1 && (room_for o.out2 d.give2 && room_for o.out3 d.give3) ≡ true
        = subst (λ p. ready_for m size p ≡ true) (plan-read g S kinds capacity m q H i o at d e) t in
        let b = both_hold (room_for o.out1 d.give1) (room_for o.out2 d.give2 && room_for o.out3 d.give3) a in
        let c = both_hold (room_for o.out2 d.give2) (room_for o.out3 d.give3) b.1 in (
          room-is-place o.out1 d.give1 (output-below g S i o at output1) b.0,
          room-is-place o.out2 d.give2 (output-below g S i o at output2) c.0,
          room-is-place o.out3 d.give3 (output-below g S i o at output3) c.1,
        )

    pub places-ready : (d : Decision) → now ≡ some d → Places d → able_at m size i ≡ true
    unfolding able_from ready_from
    places-ready d e p =
        let a = place-is-room o.out1 d.give1 (output-below g S i o at output1) p.0 in
        let b = place-is-room o.out2 d.give2 (output-below g S i o at output2) p.1 in
        let c = place-is-room o.out3 d.give3 (output-below g S i o at output3) p.2 in
        ap (ready_for m size) (plan-read g S kinds capacity m q H i o at d e) ∙ simp (a, b, c)

    undecided : now ≡ none → able_at m size i ≡ false
    unfolding able_from ready_from
    undecided e = simp (plan-none g S kinds capacity m q H i o at e)

    -- what the machine decided, where it found itself able
    pub decided-able : able_at m size i ≡ true → (d : Decision) × (now ≡ some d)
    decided-able t = go now refl
      where
        go : (z : Option Decision) → now ≡ z → (d : Decision) × (now ≡ some d)
        go none e = absurd (false≢true (sym (undecided e) ∙ t))
        go (some d) e = (d, e)

    pub able-links : 1 ≤ capacity → able_at m size i ≡ true → Able (places capacity) (demand_of o) q
    able-links c t =
        let w = decided-able t in
        let p = ready-places w.0 w.1 t in
        able-fill o.kind (ports_of o) q (registerNow g S kinds capacity m q H i o at) owns.inputs_apart owns.register-no-input holds (places capacity) w.0 w.1
        (places-room credit_link capacity o.kind (ports_of o) q owns w.0 not-credit c register-below (registerNow g S kinds capacity m q H i o at) holds p.0 p.1 p.2)
      where
        first_below : (x : Option ℕ) → ((l : ℕ) → x ≡ some l → l < g.links) → registers + link-of x ≢ credit_link
        first_below none b e = omega arith
        first_below (some l) b e = let z = b l refl in omega (arith, S.few-links)

        register-below : registers + link-of o.out1 ≢ credit_link
        register-below = first_below o.out1 (output-below g S i o at output1)

    able-bytes : Able (places capacity) (demand_of o) q → able_at m size i ≡ true
    able-bytes a =
        let w = fill-able o.kind (ports_of o) q (registerNow g S kinds capacity m q H i o at) owns.inputs_apart owns.register-no-input holds (places capacity) a in
        places-ready w.0 w.1 (room-places credit_link capacity o.kind (ports_of o) q owns w.0 not-credit w.2)

  -- ABLE ON THE BYTES, ABLE ON THE LINKS.
  pub able-on-links : 1 ≤ capacity → (i : ℕ) → i < length g.operators → able_at m size i ≡ true → Able (places capacity) (net_of g.operators i) q
  able-on-links c i h t =
      let w = ith-there g.operators i h in
      subst (λ d. Able (places capacity) d q) (sym (net-ith g.operators i w.0 w.1)) (able-links i w.0 w.1 c t)

  pub able-on-bytes : (i : ℕ) → i < length g.operators → Able (places capacity) (net_of g.operators i) q → able_at m size i ≡ true
  able-on-bytes i h a =
      let w = ith-there g.operators i h in
      able-bytes i w.0 w.1 (subst (λ d. Able (places capacity) d q) (net-ith g.operators i w.0 w.1) a)
