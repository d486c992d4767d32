-- A firing on the bytes of a standing memory is the firing on its links: `fired-stands`. Step by step as machine_firing/specs/Fire's `performed` goes: the tokens
-- taken, the tokens given, the register. Document 01, "The graph" and "Running". Assumes an operator of the graph that can fire.
use Rattle.std.specs.Prelude.{ℕ, ◌+◌, ◌<◌, ◌≡◌, refl, ◌≢◌, Bool, List}
use Rattle.std.proofs.Common.{sym, subst, ◌∙◌, arith}
use Rattle.std.proofs.Math.Path.{ap}
use Rattle.std.proofs.Math.Bool.{true, false}
use Rattle.std.proofs.Math.Option.{Option, none, some}
use Rattle.std.proofs.Math.Decide.{ℕ_discrete, dec_lt}
use Rattle.std.proofs.Math.ListN.{length}
use Rattle.value.specs.declared.Value.{Value}
use Rattle.value.specs.Bytes.{decoded, word_or, word_at, stored}
use Rattle.value.proofs.Words.{length-stored, word-stored, word-before, word_after, byte-before, word_lt}
use Rattle.network.specs.Rules.{Register, first, second, third, rule}
use Rattle.network.specs.Net.{Links, act, appends}
use Rattle.network.specs.Fill.{Ports, emission, remembering}
use Rattle.network.specs.Decide.{Decision, untouched}
use Rattle.network.specs.Firing.{heads, pop-if, gone, Took, Holds, carried}
use Rattle.network.proofs.Firing.{pop-if-other, none-took, fill-acts}
use Rattle.network.specs.FiringLinks.{Output, output1, output2, output3, output}
use Rattle.network.proofs.FiringLinks.{decided-took, register-after}
use Rattle.machine_layout.specs.Layout.{register_at, link_at, size_of}
use Rattle.machine_firing.specs.Links.{removed_at, removed_from, appended_at, appended_from}
use Rattle.machine_firing.specs.LinkLaws.{link_part, part-stored}
use Rattle.machine_firing.specs.Fire.{taken, given, performed, performed_from, able_at, fired_at, fired_from}
use Rattle.graph.specs.Assembly.{Operator}
use Rattle.graph.specs.Translation.{Made}
use Rattle.theory_reference.specs.Plugged.{nowhere, registers, link-of, ports_of, demand_of}
use Rattle.theory_wiring.specs.Machine.{net_of}
use Rattle.theory_verdicts.specs.Owed.{credit_link}
use Rattle.demand_view.specs.Sound.{Ith, Sound}
use Rattle.demand_view.specs.Stands.{Waits, word_in, Fine, Registered, Stands}
use Rattle.demand_view.proofs.Frame.{operator-below, stands-changed}
use Rattle.demand_view.proofs.Moves.{stands-append, stands-remove}
use Rattle.demand_view.proofs.Operators.{ith-there, ith-one, net-ith, input-below, output-below, register-apart}
use Rattle.demand_view.specs.Given.{Fine-decision}
use Rattle.demand_view.proofs.Given.{decision-fine}
use Rattle.demand_view.specs.Decision.{Linked-in}
use Rattle.demand_view.proofs.Decision.{word-given, registerNow, decisionNow, heads-fine, plan-read}
use Rattle.demand_view.proofs.Emitting.{gone-other, emission-other, carried-beside, place_same}
use Rattle.demand_view.specs.Emitting.{given_out, Place}
use Rattle.demand_view.proofs.Able.{owns, holds, ready-places, decided-able}

-- ---- one port
module _ (g : Made) (S : Sound g) (kinds : List ℕ) (capacity : ℕ) (m : List ℕ) (q : Links) (H : Stands g kinds capacity m q) (x : Option ℕ) (b : Linked-in g x) where
  -- taken from an input, or not
  stands-taken : (t : Bool) → (t ≡ true → 0 < length (q (link-of x))) → Stands g kinds capacity (removed_at m (size_of capacity) (taken t (link-of x))) (pop-if t (link-of x) q)
  unfolding taken removed_from
  stands-taken false h = H
  stands-taken true h = go x b (h refl)
    where
      go : (x : Option ℕ) → Linked-in g x → 0 < length (q (link-of x)) → Stands g kinds capacity (removed_at m (size_of capacity) (link-of x)) (pop-if true (link-of x) q)
      go none b h = let z = ap length H.nowhere-empty in absurd (omega arith)
      go (some l) b h = stands-remove g S kinds capacity m q H l (b l refl) h

  -- given on an output, or not
  stands-given : (v : Option Value) → Fine v → Place capacity x v q →
      Stands g kinds capacity (appended_at m (size_of capacity) (given (decoded v) (link-of x)) (word_or (decoded v))) (appends (emission x v) q)
  unfolding given appended_from
  stands-given v f h = go x v b f h
    where
      go : (x : Option ℕ) (v : Option Value) → Linked-in g x → Fine v → Place capacity x v q →
          Stands g kinds capacity (appended_at m (size_of capacity) (given (decoded v) (link-of x)) (word_or (decoded v))) (appends (emission x v) q)
      go none none b f h = H
      go none (some v) b f h = H
      go (some l) none b f h = H
      go (some l) (some v) b f h = stands-append g S kinds capacity m q H l (b l refl) v h f

word_small : (r : Register) → Fine r → word_in r < 1099511627776
word_small none f = omega arith
word_small (some v) f = word_lt v f

-- ---- the register stored
module _ (g : Made) (S : Sound g) (kinds : List ℕ) (capacity : ℕ) (m : List ℕ) (q : Links) (H : Stands g kinds capacity m q) (i : ℕ) (o : Operator) (at : Ith g.operators i o) where
  abbrev size : ℕ
  size = size_of capacity

  -- The links r are q but for the register link of operator i, which holds the new register where the operator remembers.
  stands-stored : (r : Links) (new : Register) → Fine new → ((l : ℕ) → l ≢ registers + link-of o.out1 → r l ≡ q l) →
      Holds (remembering o.kind) (ports_of o) r new → Stands g kinds capacity (stored m (register_at i) (word_in new)) r
  stands-stored r new fine same holds =
      stands-changed g S kinds capacity m q H (stored m (register_at i) (word_in new)) r
      (length-stored m (register_at i) (word_in new))
      (λ p h ne. byte-before m (register_at i) (word_in new) p (omega arith))
      (byte-before m (register_at i) (word_in new) 7 (omega arith) ∙ H.untaken-is ∙ ap length (sym credit))
      (rw credit H.untaken-few)
      (λ j x there. each j x there (ℕ_discrete j i))
      waits-still
      (same nowhere past-nowhere ∙ H.nowhere-empty)
    where
      few : i < 1024
      few = operator-below g S kinds capacity m q H i o at

      below-register : (l : ℕ) → l < 65536 → l ≢ registers + link-of o.out1
      below-register l h e = omega arith

      past-nowhere : nowhere ≢ registers + link-of o.out1
      past-nowhere = below-register nowhere (omega arith)

      first_below : (x : Option ℕ) → Linked-in g x → credit_link ≢ registers + link-of x
      first_below none b e = omega arith
      first_below (some l) b e = let z = b l refl in omega (arith, S.few-links)

      credit : r credit_link ≡ q credit_link
      credit = same credit_link (first_below o.out1 (output-below g S i o at output1))

      waits-still : (l : ℕ) → l < g.links → Waits capacity (link_part (stored m (register_at i) (word_in new)) size l) (r l)
      waits-still l h =
          let e : link_part (stored m (register_at i) (word_in new)) size l ≡ link_part m size l
          = part-stored m (register_at i) (word_in new) (link_at size l) size (omega (arith, few)) in
          subst (λ s. Waits capacity s (r l)) (sym e)
          (subst (Waits capacity (link_part m size l)) (sym (same l (below-register l (omega (arith, S.few-links))))) (H.waits l h))

      other_word : (j : ℕ) → j ≢ i → word_at (stored m (register_at i) (word_in new)) (register_at j) ≡ word_at m (register_at j)
      other_word j ne = side (dec_lt j i)
        where
          side : Dec (j < i) → word_at (stored m (register_at i) (word_in new)) (register_at j) ≡ word_at m (register_at j)
          side (yes l) = word-before m (register_at i) (word_in new) (register_at j) (omega arith)
          side (no n) = word_after m (register_at i) (word_in new) (register_at j) (omega arith)

      other-holds : (b : Bool) (x : Operator) (z : Register) → registers + link-of x.out1 ≢ registers + link-of o.out1 →
          Holds b (ports_of x) q z → Holds b (ports_of x) r z
      other-holds true x z ne h = same (registers + link-of x.out1) ne ∙ h
      other-holds false x z ne h = h

      each : (j : ℕ) (x : Operator) → Ith g.operators j x → Dec (j ≡ i) → Registered (stored m (register_at i) (word_in new)) r j x
      each j x there (no ne) =
          let old = H.registered j x there in
          record {
            register = old.register;
            fine = old.fine;
            word = other_word j ne ∙ old.word;
            held = other-holds (remembering x.kind) x old.register (register-apart g S i o at j x there ne) old.held;
          }
      each j x there (yes e) =
          let s : x ≡ o = ith-one g.operators i x o (subst (λ n. Ith g.operators n x) e there) at in
          subst (λ n. Registered (stored m (register_at i) (word_in new)) r n x) (sym e)
          (subst (Registered (stored m (register_at i) (word_in new)) r i) (sym s)
          (record {
            register = new;
            fine = fine;
            word = word-stored m (register_at i) (word_in new) (omega (arith, few, H.long)) (word_small new fine);
            held = holds;
          }))

-- ---- the whole firing
module _ (g : Made) (S : Sound g) (kinds : List ℕ) (capacity : ℕ) (m : List ℕ) (q : Links) (H : Stands g kinds capacity m q) (i : ℕ) (o : Operator) (at : Ith g.operators i o)
    (able : able_at m (size_of capacity) i ≡ true) where
  abbrev s : ℕ
  s = size_of capacity

  abbrev p : Ports
  p = ports_of o

  abbrev now : Register
  now = registerNow g S kinds capacity m q H i o at

  chosen : (d : Decision) × (decisionNow g S kinds capacity m q H i o at ≡ some d)
  chosen = decided-able g S kinds capacity m q H i o at able

  module _ (d : Decision) (e : decisionNow g S kinds capacity m q H i o at ≡ some d) where
    took : Took p q d.taken
    took = decided-took p q (rule o.kind now) untouched d (none-took p q) e

    fine : Fine-decision d
    fine = decision-fine o.kind now (heads p q) d (H.registered i o at).fine (heads-fine g S kinds capacity m q H i o at) e

    -- the tokens taken
    abbrev m1 : List ℕ
    m1 = removed_at m s (taken d.taken.take1 (link-of o.in1))

    abbrev q1 : Links
    q1 = pop-if d.taken.take1 (link-of o.in1) q

    H1 : Stands g kinds capacity m1 q1
    H1 = stands-taken g S kinds capacity m q H o.in1 (input-below g S i o at first) d.taken.take1 took.0

    abbrev m2 : List ℕ
    m2 = removed_at m1 s (taken d.taken.take2 (link-of o.in2))

    abbrev q2 : Links
    q2 = pop-if d.taken.take2 (link-of o.in2) q1

    second-waits : d.taken.take2 ≡ true → 0 < length (q1 (link-of o.in2))
    second-waits f =
        subst (λ ts. 0 < length ts)
        (sym (pop-if-other d.taken.take1 p.in1 p.in2 q (λ a z. (owns g S kinds capacity m q H i o at).inputs_apart.apart12 (took.0 a) (took.1 f) (sym z))))
        (took.1 f)

    H2 : Stands g kinds capacity m2 q2
    H2 = stands-taken g S kinds capacity m1 q1 H1 o.in2 (input-below g S i o at second) d.taken.take2 second-waits

    abbrev m3 : List ℕ
    m3 = removed_at m2 s (taken d.taken.take3 (link-of o.in3))

    abbrev q3 : Links
    q3 = gone d.taken p q

    third-waits : d.taken.take3 ≡ true → 0 < length (q2 (link-of o.in3))
    third-waits f =
        subst (λ ts. 0 < length ts)
        (sym (pop-if-other d.taken.take2 p.in2 p.in3 q1 (λ a z. (owns g S kinds capacity m q H i o at).inputs_apart.apart23 (took.1 a) (took.2 f) (sym z))
        ∙ pop-if-other d.taken.take1 p.in1 p.in3 q (λ a z. (owns g S kinds capacity m q H i o at).inputs_apart.apart13 (took.0 a) (took.2 f) (sym z))))
        (took.2 f)

    H3 : Stands g kinds capacity m3 q3
    H3 = stands-taken g S kinds capacity m2 q2 H2 o.in3 (input-below g S i o at third) d.taken.take3 third-waits

    -- the tokens given
    output-kept : (x : Output) (l : ℕ) → output p x ≡ some l → q3 l ≡ q l
    output-kept x l f = gone-other p q d.taken l (λ j z. (owns g S kinds capacity m q H i o at).output-no-input x j (f ∙ ap some (sym z)))

    free : Place capacity o.out1 d.give1 q × Place capacity o.out2 d.give2 q × Place capacity o.out3 d.give3 q
    free = ready-places g S kinds capacity m q H i o at d e able

    abbrev m4 : List ℕ
    m4 = appended_at m3 s (given (decoded d.give1) (link-of o.out1)) (word_or (decoded d.give1))

    abbrev q4 : Links
    q4 = appends (emission o.out1 d.give1) q3

    H4 : Stands g kinds capacity m4 q4
    H4 =
        stands-given g S kinds capacity m3 q3 H3 o.out1 (output-below g S i o at output1) d.give1 fine.0
        (place_same capacity o.out1 d.give1 q q3 (output-kept output1) free.0)

    abbrev m5 : List ℕ
    m5 = appended_at m4 s (given (decoded d.give2) (link-of o.out2)) (word_or (decoded d.give2))

    abbrev q5 : Links
    q5 = appends (emission o.out2 d.give2) q4

    second-kept : (l : ℕ) → o.out2 ≡ some l → q4 l ≡ q l
    second-kept l f =
        emission-other o.out1 d.give1 q3 l (λ z. (owns g S kinds capacity m q H i o at).outputs12 l z f) ∙ output-kept output2 l f

    H5 : Stands g kinds capacity m5 q5
    H5 =
        stands-given g S kinds capacity m4 q4 H4 o.out2 (output-below g S i o at output2) d.give2 fine.1
        (place_same capacity o.out2 d.give2 q q4 second-kept free.1)

    abbrev m6 : List ℕ
    m6 = appended_at m5 s (given (decoded d.give3) (link-of o.out3)) (word_or (decoded d.give3))

    third-kept : (l : ℕ) → o.out3 ≡ some l → q5 l ≡ q l
    third-kept l f =
        emission-other o.out2 d.give2 q4 l (λ z. (owns g S kinds capacity m q H i o at).outputs23 l z f)
        ∙ emission-other o.out1 d.give1 q3 l (λ z. (owns g S kinds capacity m q H i o at).outputs13 l z f)
        ∙ output-kept output3 l f

    H6 : Stands g kinds capacity m6 (given_out p d q3)
    H6 =
        stands-given g S kinds capacity m5 q5 H5 o.out3 (output-below g S i o at output3) d.give3 fine.2
        (place_same capacity o.out3 d.give3 q q5 third-kept free.2)

    -- the register
    carried-stands : Stands g kinds capacity (stored m6 (register_at i) (word_in d.register)) (carried o.kind p q d)
    carried-stands =
        stands-stored g S kinds capacity m6 (given_out p d q3) H6 i o at (carried o.kind p q d) d.register fine.3
        (λ l ne. carried-beside o.kind p q d l ne)
        (register-after o.kind p q now (owns g S kinds capacity m q H i o at) d e (holds g S kinds capacity m q H i o at))

    fired-is : fired_at m s i ≡ stored m6 (register_at i) (word_in d.register)
    unfolding fired_from performed_from
    fired-is =
        rw able
        (ap (performed m s i) (plan-read g S kinds capacity m q H i o at d e) ∙ ap (stored m6 (register_at i)) (word-given d.register))

    acts-is : act (demand_of o) q ≡ carried o.kind p q d
    acts-is =
        fill-acts o.kind p q now (owns g S kinds capacity m q H i o at).inputs_apart (owns g S kinds capacity m q H i o at).register-no-input
        (holds g S kinds capacity m q H i o at) d e

  pub fired-operator : Stands g kinds capacity (fired_at m s i) (act (demand_of o) q)
  fired-operator =
      let w = chosen in
      subst (λ n. Stands g kinds capacity n (act (demand_of o) q)) (sym (fired-is w.0 w.1))
      (subst (Stands g kinds capacity (stored (m6 w.0 w.1) (register_at i) (word_in w.0.register))) (sym (acts-is w.0 w.1)) (carried-stands w.0 w.1))

-- THE FIRING: an operator that can fire leaves the memory of the links after its firing.
pub fired-stands : (g : Made) (S : Sound g) (kinds : List ℕ) (capacity : ℕ) (m : List ℕ) (q : Links) (H : Stands g kinds capacity m q) (i : ℕ) → i < length g.operators →
    able_at m (size_of capacity) i ≡ true → Stands g kinds capacity (fired_at m (size_of capacity) i) (act (net_of g.operators i) q)
fired-stands g S kinds capacity m q H i h able =
    let w = ith-there g.operators i h in
    subst (λ d. Stands g kinds capacity (fired_at m (size_of capacity) i) (act d q)) (sym (net-ith g.operators i w.0 w.1))
    (fired-operator g S kinds capacity m q H i w.0 w.1 able)
