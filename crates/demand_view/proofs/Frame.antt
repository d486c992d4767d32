-- Laws of specs/Frame.antt, and what only they need.
use Rattle.std.specs.Prelude.{ℕ, zero, suc, ◌+◌, ◌*◌, ◌≤◌, ◌<◌, ◌≡◌, ◌≢◌, Bool, true, false, List, [], ◌∷◌, length, get_or, drop}
use Rattle.std.proofs.Math.Path.{refl}
use Rattle.std.proofs.Common.{sym, ap, ◌∙◌, subst, arith, get_or-take, get_or-drop, ext_get_or}
use Rattle.network.specs.Rules.{Register}
use Rattle.network.specs.Net.{Links}
use Rattle.network.specs.Fill.{remembering}
use Rattle.network.specs.Firing.{Holds}
use Rattle.machine_layout.specs.Layout.{input_kinds_at, number16, name_at, inputs_of, untaken_of, operator_at, port_of, register_at, size_of, part}
use Rattle.machine_firing.specs.Parts.{part_length}
use Rattle.machine_firing.specs.LinkLaws.{link_part}
use Rattle.graph.specs.Assembly.{Operator}
use Rattle.graph.specs.Translation.{Made}
use Rattle.theory_reference.specs.Plugged.{nowhere, registers, link-of, ports_of}
use Rattle.theory_verdicts.specs.Owed.{credit_link}
use Rattle.demand_view.specs.Sound.{Ith, Sound}
use Rattle.demand_view.specs.Stands.{Waits, Recorded, Registered, Stands}
use Rattle.demand_view.proofs.Waits.{word-agrees}
use Rattle.demand_view.specs.Frame.{Figures-kept, Low-kept}

pub ith-below : (os : List Operator) (i : ℕ) (o : Operator) → Ith os i o → i < length os
ith-below [] i o h = absurd h
ith-below (x ∷ os) zero o h = omega arith
ith-below (x ∷ os) (suc i) o h = omega (arith, ith-below os i o h)

-- A byte of a part, and parts that agree byte by byte.
pub part-byte : (m : List ℕ) (base size i : ℕ) → i < size → get_or (part m base size) i 0 ≡ get_or m (base + i) 0
part-byte m base size i h = get_or-take size (drop base m) i 0 h ∙ get_or-drop base m i 0

pub part_same : (m n : List ℕ) (base size : ℕ) → base + size ≤ length m → base + size ≤ length n →
    ((i : ℕ) → i < size → get_or n (base + i) 0 ≡ get_or m (base + i) 0) → part n base size ≡ part m base size
part_same m n base size a b same =
    let p : length (part n base size) ≡ size = part_length n base size b in
    ext_get_or 0 (part n base size) (part m base size) (p ∙ sym (part_length m base size a))
    (λ i l.
    let z : i < size = subst (λ (s : ℕ). i < s) p l in
    part-byte n base size i z ∙ same i z ∙ sym (part-byte m base size i z)
    )

module _ (m n : List ℕ) (k : Figures-kept m n) where
  figure-kept : (at : ℕ) → at + 1 < 16640 → at ≢ 7 → at + 1 ≢ 7 → number16 n at ≡ number16 m at
  unfolding number16
  figure-kept at h a b = rw (k at (omega arith) a, k (at + 1) h b) refl

  name-kept : (at j : ℕ) → 8 ≤ at → at + 2 * j + 1 < 16640 → name_at n at j ≡ name_at m at j
  unfolding name_at
  name-kept at j a h = figure-kept (at + 2 * j) h (omega arith) (omega arith)

  pub recorded-kept : (i : ℕ) (o : Operator) → i < 1024 → Recorded m i o → Recorded n i o
  recorded-kept i o h r =
      record {
        kind = k (operator_at i) (omega arith) (omega arith) ∙ r.kind;
        in1 = port 0 (omega arith) ∙ r.in1;
        in2 = port 1 (omega arith) ∙ r.in2;
        in3 = port 2 (omega arith) ∙ r.in3;
        out1 = port 3 (omega arith) ∙ r.out1;
        out2 = port 4 (omega arith) ∙ r.out2;
        out3 = port 5 (omega arith) ∙ r.out3;
      }
    where
      port : (p : ℕ) → p < 6 → port_of n i p ≡ port_of m i p
      port p l = name-kept (operator_at i + 2) p (omega arith) (omega arith)

module _ (g : Made) (S : Sound g) (kinds : List ℕ) (capacity : ℕ) (m : List ℕ) (q : Links) (H : Stands g kinds capacity m q) where
  pub operator-below : (i : ℕ) (o : Operator) → Ith g.operators i o → i < 1024
  operator-below i o h = omega (arith, ith-below g.operators i o h, S.few-operators)

  -- THE FRAME of every call.
  pub stands-changed : (n : List ℕ) (r : Links) → length n ≡ length m → Figures-kept m n → untaken_of n ≡ length (r credit_link) → length (r credit_link) ≤ 16 →
      ((i : ℕ) (o : Operator) → Ith g.operators i o → Registered n r i o) →
      ((l : ℕ) → l < g.links → Waits capacity (link_part n (size_of capacity) l) (r l)) → r nowhere ≡ [] → Stands g kinds capacity n r
  stands-changed n r e k u f ri w z =
      record {
        long = omega (arith, H.long);
        capacity-is = k 0 (omega arith) (omega arith) ∙ H.capacity-is;
        operators-are = figure-kept m n k 1 (omega arith) (omega arith) (omega arith) ∙ H.operators-are;
        links-are = figure-kept m n k 3 (omega arith) (omega arith) (omega arith) ∙ H.links-are;
        inputs_are = k 5 (omega arith) (omega arith) ∙ H.inputs_are;
        kinds-are =
            ap (part n input_kinds_at) (k 5 (omega arith) (omega arith))
            ∙ part_same m n input_kinds_at (inputs_of m) (omega (arith, H.long, H.inputs_are, S.few-inputs)) (omega (arith, H.long, H.inputs_are, S.few-inputs))
            (λ i l. k (input_kinds_at + i) (omega (arith, H.inputs_are, S.few-inputs)) (omega arith))
            ∙ H.kinds-are;
        kinds-count = H.kinds-count;
        kinds-letters = H.kinds-letters;
        results-are = k 6 (omega arith) (omega arith) ∙ H.results-are;
        untaken-is = u;
        untaken-few = f;
        trigger-is = figure-kept m n k 8 (omega arith) (omega arith) (omega arith) ∙ H.trigger-is;
        input-links = λ j h. name-kept m n k 10 j (omega arith) (omega (arith, S.few-inputs)) ∙ H.input-links j h;
        result-links = λ j h. name-kept m n k 74 j (omega arith) (omega (arith, S.few-results)) ∙ H.result-links j h;
        recorded = λ i o h. recorded-kept m n k i o (operator-below i o h) (H.recorded i o h);
        registered = ri;
        waits = w;
        nowhere-empty = z;
      }

  -- ---- a change of links alone
  holds_kept : (b : Bool) (o : Operator) (r : Links) (x : Register) → ((l : ℕ) → g.links ≤ l → r l ≡ q l) → Holds b (ports_of o) q x → Holds b (ports_of o) r x
  holds_kept true o r x e h = e (registers + link-of o.out1) (omega (arith, S.few-links)) ∙ h
  holds_kept false o r x e h = h

  pub registered-kept : (n : List ℕ) (r : Links) (i : ℕ) (o : Operator) → Low-kept m n → ((l : ℕ) → g.links ≤ l → r l ≡ q l) → Ith g.operators i o →
      Registered n r i o
  registered-kept n r i o k e h =
      let x = H.registered i o h in
      let b = operator-below i o h in
      record {
        register = x.register;
        fine = x.fine;
        word = word-agrees n m (register_at i) (register_at i) (λ j l. k (register_at i + j) (omega arith)) ∙ x.word;
        held = holds_kept (remembering o.kind) o r x.register e x.held;
      }

  pub stands-links : (n : List ℕ) (r : Links) → length n ≡ length m → Low-kept m n → ((l : ℕ) → g.links ≤ l → r l ≡ q l) →
      ((l : ℕ) → l < g.links → Waits capacity (link_part n (size_of capacity) l) (r l)) → Stands g kinds capacity n r
  stands-links n r e k s w =
      let c : r credit_link ≡ q credit_link = s credit_link (omega (arith, S.few-links)) in
      stands-changed n r e (λ at h a. k at (omega arith)) (k 7 (omega arith) ∙ H.untaken-is ∙ ap length (sym c)) (rw c H.untaken-few)
      (λ i o h. registered-kept n r i o k s h) w (s nowhere (omega (arith, S.few-links)) ∙ H.nowhere-empty)
