-- Laws of specs/Decision.antt, and what only they need.
use Rattle.std.specs.Prelude.{ℕ, ◌≡◌, true, false}
use Rattle.std.proofs.Math.Path.{refl, ap, fun_ext}
use Rattle.std.proofs.Common.{sym, subst, ◌∙◌}
use mathlib.Core.List.{List, [], ◌∷◌}
use Rattle.std.proofs.Math.Option.{Option, none, some}
use Rattle.value.specs.declared.Value.{Value}
use Rattle.value.specs.Bytes.{InRange, value_of, decoded, word_or}
use Rattle.value.proofs.Words.{value-of-word, no_value}
use Rattle.network.specs.Rules.{Register, Input, first, second, third}
use Rattle.network.specs.Net.{Token, Links}
use Rattle.network.specs.Fill.{value-of}
use Rattle.network.specs.Decide.{Decision, decide}
use Rattle.network.specs.Firing.{first-token, heads}
use Rattle.machine_layout.specs.Layout.{kind_byte, port_of, size_of}
use Rattle.machine_layout.specs.Kinds.{kind_of, kind-of-byte}
use Rattle.machine_gates.specs.Decide.{optional, told, decide_at}
use Rattle.machine_gates.specs.Decide.{heads as heads-read}
use Rattle.machine_firing.specs.Links.{head_from, token_at, token_from}
use Rattle.machine_firing.specs.Fire.{Plan, taken, given, planned, register_of, decision_at, decision_from, plan_at, plan_from}
use Rattle.graph.specs.Assembly.{Operator}
use Rattle.graph.specs.Translation.{Made}
use Rattle.theory_reference.specs.Plugged.{nowhere, link-of, ports_of}
use Rattle.demand_view.specs.Sound.{Ith, Sound}
use Rattle.demand_view.specs.Stands.{word_in, Fine, Stands}
use Rattle.demand_view.proofs.Moves.{stands-head, stands-none, stands-value}
use Rattle.demand_view.proofs.Operators.{input-below}
use Rattle.demand_view.specs.Decision.{Linked-in}

optional-decoded : (v : Option Value) → optional (decoded v) ≡ v
optional-decoded none = refl
optional-decoded (some v) = refl

-- a word as it is stored is read back
register-word : (r : Register) → Fine r → value_of (word_in r) ≡ r
register-word none f = no_value
register-word (some v) f = value-of-word v f

pub word-given : (v : Option Value) → word_or (decoded v) ≡ word_in v
word-given none = refl
word-given (some v) = refl

module _ (g : Made) (S : Sound g) (kinds : List ℕ) (capacity : ℕ) (m : List ℕ) (q : Links) (H : Stands g kinds capacity m q) where
  abbrev size : ℕ
  size = size_of capacity

  nothing-nowhere : token_at m size nowhere ≡ decoded (first-token (q nowhere))
  unfolding token_from head_from
  nothing-nowhere = rw H.nowhere-empty (ap decoded no_value)

  -- THE FIRST TOKEN of a port's link, as the machine reads it.
  pub token-read : (x : Option ℕ) → Linked-in g x → token_at m size (link-of x) ≡ decoded (first-token (q (link-of x)))
  unfolding token_from
  token-read none b = nothing-nowhere
  token-read (some l) b = go (q l) refl
    where
      go : (ts : List Token) → q l ≡ ts → token_at m size l ≡ decoded (first-token ts)
      go [] e = ap (λ (w : ℕ). decoded (value_of w)) (stands-none g S kinds capacity m q H l (b l refl) e) ∙ ap decoded no_value
      go (t ∷ ts) e =
          let f = stands-value g S kinds capacity m q H l (b l refl) t ts e in
          let h = stands-head g S kinds capacity m q H l (b l refl) f.0 ts (e ∙ ap (λ z. z ∷ ts) f.2) in
          ap (λ (w : ℕ). decoded (value_of w)) h ∙ ap decoded (value-of-word f.0 f.1) ∙ ap (λ z. decoded (some (value-of z))) (sym f.2)

  pub token-fine : (x : Option ℕ) → Linked-in g x → Fine (first-token (q (link-of x)))
  token-fine none b = rw H.nowhere-empty tt
  token-fine (some l) b = go (q l) refl
    where
      go : (ts : List Token) → q l ≡ ts → Fine (first-token ts)
      go [] e = tt
      go (t ∷ ts) e =
          let f = stands-value g S kinds capacity m q H l (b l refl) t ts e in
          subst (λ z. InRange (value-of z)) (sym f.2) f.1

  module _ (i : ℕ) (o : Operator) (at : Ith g.operators i o) where
    -- The register that waits or is held now.
    abbrev pub registerNow : Register
    registerNow = (H.registered i o at).register

    -- The table's decision on the links.
    abbrev pub decisionNow : Option Decision
    decisionNow = decide o.kind registerNow (heads (ports_of o) q)

    pub heads-fine : (x : Input) → Fine (heads (ports_of o) q x)
    heads-fine first = token-fine o.in1 (input-below g S i o at first)
    heads-fine second = token-fine o.in2 (input-below g S i o at second)
    heads-fine third = token-fine o.in3 (input-below g S i o at third)

    register-read : register_of m i ≡ decoded registerNow
    unfolding register_of
    register-read =
        ap (λ (w : ℕ). decoded (value_of w)) (H.registered i o at).word ∙ ap decoded (register-word registerNow (H.registered i o at).fine)

    heads-same : heads-read (decoded (first-token (q (link-of o.in1)))) (decoded (first-token (q (link-of o.in2)))) (decoded (first-token (q (link-of o.in3))))
        ≡ heads (ports_of o) q
    heads-same = fun_ext each
      where
        each : (x : Input) →
            heads-read (decoded (first-token (q (link-of o.in1)))) (decoded (first-token (q (link-of o.in2)))) (decoded (first-token (q (link-of o.in3)))) x
            ≡ heads (ports_of o) q x
        each first = optional-decoded (first-token (q (link-of o.in1)))
        each second = optional-decoded (first-token (q (link-of o.in2)))
        each third = optional-decoded (first-token (q (link-of o.in3)))

    port-read : (p : ℕ) (x : Option ℕ) → port_of m i p ≡ link-of x → Linked-in g x → token_at m size (port_of m i p) ≡ decoded (first-token (q (link-of x)))
    port-read p x e b = ap (token_at m size) e ∙ token-read x b

    -- THE DECISION read from the bytes is the table's on the links.
    pub decision-read : decision_at m size i ≡ told decisionNow
    unfolding decision_from decide_at
    decision-read =
        let R = H.recorded i o at in
        let k : kind_of (kind_byte m i) ≡ some o.kind = ap kind_of R.kind ∙ kind-of-byte o.kind (S.formed i o at).coded in
        let a = port-read 0 o.in1 R.in1 (input-below g S i o at first) in
        let b = port-read 1 o.in2 R.in2 (input-below g S i o at second) in
        let c = port-read 2 o.in3 R.in3 (input-below g S i o at third) in
        rw (k, a, b, c, register-read, optional-decoded registerNow, heads-same) refl

    -- The plan of a decision, with the graph's links.
    abbrev pub plan_of : Decision → Plan
    plan_of d =
        record {
          able = true;
          in1 = taken d.taken.take1 (link-of o.in1);
          in2 = taken d.taken.take2 (link-of o.in2);
          in3 = taken d.taken.take3 (link-of o.in3);
          out1 = given (decoded d.give1) (link-of o.out1);
          out2 = given (decoded d.give2) (link-of o.out2);
          out3 = given (decoded d.give3) (link-of o.out3);
          word1 = word_or (decoded d.give1);
          word2 = word_or (decoded d.give2);
          word3 = word_or (decoded d.give3);
          register = word_or (decoded d.register);
        }

    pub plan-read : (d : Decision) → decisionNow ≡ some d → plan_at m size i ≡ plan_of d
    unfolding plan_from planned
    plan-read d e =
        let R = H.recorded i o at in
        rw (decision-read, e, R.in1, R.in2, R.in3, R.out1, R.out2, R.out3) refl

    pub plan-none : decisionNow ≡ none → (plan_at m size i).able ≡ false
    unfolding plan_from planned
    plan-none e = rw (decision-read, e) refl
