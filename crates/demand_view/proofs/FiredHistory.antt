-- Laws of specs/FiredHistory.antt, and what only they need.
use Rattle.std.specs.Prelude.{ℕ, ◌≤◌, ◌≡◌, refl, true, false, List, length}
use Rattle.std.proofs.Common.{sym, ◌∙◌, ltb-true}
use Rattle.std.proofs.lemmas.Bool.{false≢true}
use Rattle.std.proofs.Math.Option.{Option, none, some}
use Rattle.value.specs.declared.Value.{Value}
use Rattle.network.specs.Rules.{Register}
use Rattle.network.specs.Histories.{silence}
use Rattle.network.specs.Net.{Links, act}
use Rattle.network.specs.Decide.{Decision}
use Rattle.network.proofs.Firing.{none-is-not-some, fill-able}
use Rattle.network.specs.FiringLinks.{output1, output2, output3}
use Rattle.network.specs.FiringHistory.{to-come, Wants-token}
use Rattle.network.proofs.FiringHistory.{firing-does-what-history-says}
use Rattle.machine_layout.specs.Layout.{size_of}
use Rattle.machine_firing.specs.Links.{room_at}
use Rattle.machine_firing.specs.Fire.{able_at, fired_at}
use Rattle.graph.specs.Assembly.{Operator}
use Rattle.graph.specs.Translation.{Made}
use Rattle.theory_reference.specs.Plugged.{link-of, ports_of, demand_of}
use Rattle.theory_verdicts.specs.Running.{places}
use Rattle.demand_view.specs.Sound.{Ith, Sound}
use Rattle.demand_view.specs.Stands.{Stands}
use Rattle.demand_view.proofs.Moves.{stands-room}
use Rattle.demand_view.proofs.Operators.{output-below}
use Rattle.demand_view.specs.Decision.{Linked-in}
use Rattle.demand_view.proofs.Decision.{registerNow, decisionNow}
use Rattle.demand_view.specs.Emitting.{Place}
use Rattle.demand_view.proofs.Able.{owns, holds, places-ready, able-links}
use Rattle.demand_view.proofs.Fired.{fired-operator}
use Rattle.demand_view.specs.FiredHistory.{Fires-in-memory}

module _ (g : Made) (S : Sound g) (kinds : List ℕ) (capacity : ℕ) (m : List ℕ) (q : Links) (H : Stands g kinds capacity m q) (i : ℕ) (o : Operator) (at : Ith g.operators i o) where
  abbrev size : ℕ
  size = size_of capacity

  abbrev now : Register
  now = registerNow g S kinds capacity m q H i o at

  -- THE SENTENCE, on the bytes: an accepted fire.
  pub fired-by-history : 1 ≤ capacity → able_at m size i ≡ true → Fires-in-memory g kinds capacity m q i o (fired_at m size i)
  fired-by-history c t =
      record {
        register = now;
        stored-register = (H.registered i o at).word;
        after = act (demand_of o) q;
        stands = fired-operator g S kinds capacity m q H i o at t;
        by-history =
            (firing-does-what-history-says (places capacity) o.kind (ports_of o) q now (owns g S kinds capacity m q H i o at) (holds g S kinds capacity m q H i o at)).0
            (able-links g S kinds capacity m q H i o at c t);
      }

  place-for : (x : Option ℕ) (v : Option Value) → Linked-in g x → room_at m size (link-of x) ≡ true → Place capacity x v q
  place-for none v b e = tt
  place-for (some l) none b e = tt
  place-for (some l) (some v) b e = ltb-true (length (q l)) capacity (sym (stands-room g S kinds capacity m q H l (b l refl)) ∙ e)

  -- A refused fire, with a free place on each output: a token that it wants does not wait, and the rule is silent.
  pub silent-by-history : able_at m size i ≡ false → room_at m size (link-of o.out1) ≡ true → room_at m size (link-of o.out2) ≡ true →
      room_at m size (link-of o.out3) ≡ true → to-come o.kind now (ports_of o) q ≡ silence
  silent-by-history f r1 r2 r3 =
      (firing-does-what-history-says (places capacity) o.kind (ports_of o) q now (owns g S kinds capacity m q H i o at) (holds g S kinds capacity m q H i o at)).1 wants
    where
      none-decided : (z : Option Decision) → decisionNow g S kinds capacity m q H i o at ≡ z → decisionNow g S kinds capacity m q H i o at ≡ none
      none-decided none e = e
      none-decided (some d) e =
          absurd
          (false≢true
          (sym f
          ∙ places-ready g S kinds capacity m q H i o at d e (
            place-for o.out1 d.give1 (output-below g S i o at output1) r1,
            place-for o.out2 d.give2 (output-below g S i o at output2) r2,
            place-for o.out3 d.give3 (output-below g S i o at output3) r3,
          )))

      wants : Wants-token o.kind (ports_of o) q
      wants cap a =
          let w =
          fill-able o.kind (ports_of o) q now (owns g S kinds capacity m q H i o at).inputs_apart (owns g S kinds capacity m q H i o at).register-no-input
          (holds g S kinds capacity m q H i o at) cap a in
          none-is-not-some w.0 (sym (none-decided (decisionNow g S kinds capacity m q H i o at) refl) ∙ w.1)
