-- Laws of specs/FiringHistory.antt, and what only they need.
use Rattle.std.specs.Prelude.{ℕ, ◌+◌, ◌≡◌, refl, Bool, true, false, List, [], ◌∷◌, ◌++◌, length}
use Rattle.std.proofs.Common.{sym, ◌∙◌, ap, subst, arith}
use Rattle.std.proofs.Math.Path.{fun_ext}
use Rattle.std.proofs.Math.Option.{Option, none, some}
use Rattle.value.specs.declared.Value.{Value}
use Rattle.network.specs.Rules.{Kind, Register, Input, first, second, third}
use Rattle.network.specs.Histories.{History, Outputs, silence, ahead, followed, history}
use Rattle.network.specs.HistoryLaw.{continued}
use Rattle.network.proofs.HistoryLaw.{history-law}
use Rattle.network.specs.Net.{Token, Links, Able, act}
use Rattle.network.specs.Fill.{Ports, input, emissions, remembering, kept, fill}
use Rattle.network.specs.Decide.{is-taken, Decision, decide, left, earliest, heads-of, carried-out}
use Rattle.network.proofs.Decide.{decide-outcome}
use Rattle.network.specs.Firing.{gone, first-token, heads, Holds, unregistered, carried}
use Rattle.network.proofs.Firing.{fill-acts, fill-able, able-fill}
use Rattle.network.specs.FiringLinks.{Output, output1, output2, output3, given, without, tokens, Own-links}
use Rattle.network.proofs.FiringLinks.{room-enough, input-after, output-after, elsewhere-after, register-after}
use Rattle.network.specs.FiringHistory.{values, port, to-come, Fires-by-history, Wants-token}

earliest-value : (ts : List Token) → earliest (values ts) ≡ first-token ts
earliest-value [] = refl
earliest-value (t ∷ ts) = refl

heads-waiting : (p : Ports) (q : Links) → heads-of (values (q p.in1)) (values (q p.in2)) (values (q p.in3)) ≡ heads p q
heads-waiting p q = fun_ext each
  where
    each : (i : Input) → heads-of (values (q p.in1)) (values (q p.in2)) (values (q p.in3)) i ≡ heads p q i
    each first = earliest-value (q p.in1)
    each second = earliest-value (q p.in2)
    each third = earliest-value (q p.in3)

values-left : (b : Bool) (ts : List Token) → left b (values ts) ≡ values (without b ts)
values-left true [] = refl
values-left true (t ∷ ts) = refl
values-left false ts = refl

ahead_of : (v : Option Value) (ys : History) → ahead v ys ≡ values (tokens v) ++ ys
ahead_of none ys = refl
ahead_of (some v) ys = refl

module _ (k : Kind) (p : Ports) (q : Links) (g : Register) where
  by-decision : (o : Option Decision) → decide k g (heads p q) ≡ o →
      to-come k g p q ≡ continued k (carried-out o (values (q p.in1)) (values (q p.in2)) (values (q p.in3)))
  by-decision o e =
      history-law k g (values (q p.in1)) (values (q p.in2)) (values (q p.in3))
      ∙ ap (continued k)
      (decide-outcome k g (values (q p.in1)) (values (q p.in2)) (values (q p.in3))
      ∙ ap (λ z. carried-out z (values (q p.in1)) (values (q p.in2)) (values (q p.in3))) (ap (decide k g) (heads-waiting p q) ∙ e))

  -- with the inputs that are left on the links after the firing
  by-links : (d : Decision) → decide k g (heads p q) ≡ some d → (q' : Links) →
      ((i : Input) → q' (input p i) ≡ without (is-taken d.taken i) (q (input p i))) →
      to-come k g p q ≡ followed d.give1 d.give2 d.give3 (to-come k d.register p q')
  by-links d e q' h =
      by-decision (some d) e
      ∙ ap (λ (z : History). followed d.give1 d.give2 d.give3 (history k d.register z left2 left3)) (same first)
      ∙ ap (λ (z : History). followed d.give1 d.give2 d.give3 (history k d.register (values (q' p.in1)) z left3)) (same second)
      ∙ ap (λ (z : History). followed d.give1 d.give2 d.give3 (history k d.register (values (q' p.in1)) (values (q' p.in2)) z)) (same third)
    where
      left2 : History
      left2 = left d.taken.take2 (values (q p.in2))

      left3 : History
      left3 = left d.taken.take3 (values (q p.in3))

      same : (i : Input) → left (is-taken d.taken i) (values (q (input p i))) ≡ values (q' (input p i))
      same i = values-left (is-taken d.taken i) (q (input p i)) ∙ ap values (sym (h i))

  at-port : (d : Decision) (later : Outputs) (x : Output) → to-come k g p q ≡ followed d.give1 d.give2 d.give3 later →
      port (to-come k g p q) x ≡ values (tokens (given d x)) ++ port later x
  at-port d later output1 e = ap (λ (z : Outputs). z.out1) e ∙ ahead_of d.give1 later.out1
  at-port d later output2 e = ap (λ (z : Outputs). z.out2) e ∙ ahead_of d.give2 later.out2
  at-port d later output3 e = ap (λ (z : Outputs). z.out3) e ∙ ahead_of d.give3 later.out3

  module _ (own : Own-links k p q) (h : Holds (remembering k) p q g) where
    fires : (d : Decision) → decide k g (heads p q) ≡ some d → Fires-by-history k p g q (act (fill k p) q)
    fires d e = record {
      decision = d;
      by-rule = e;
      at-inputs = inputs;
      at-outputs = λ x l f. acts l ∙ output-after k p q g own d e x l f;
      at_register = subst (λ (z : Links). Holds (remembering k) p z d.register) (sym (fill-acts k p q g own.inputs_apart own.register-no-input h d e)) (register-after k p q g own d e h);
      elsewhere = λ l w. acts l ∙ elsewhere-after k p q g own d e l w;
      by-history = λ x. at-port d (to-come k d.register p (act (fill k p) q)) x (by-links d e (act (fill k p) q) inputs);
    }
      where
        acts : (l : ℕ) → act (fill k p) q l ≡ carried k p q d l
        acts l = ap (λ (z : Links). z l) (fill-acts k p q g own.inputs_apart own.register-no-input h d e)

        inputs : (i : Input) → act (fill k p) q (input p i) ≡ without (is-taken d.taken i) (q (input p i))
        inputs i = acts (input p i) ∙ input-after k p q g own d e i

    starved : (o : Option Decision) → decide k g (heads p q) ≡ o → Wants-token k p q → to-come k g p q ≡ silence
    starved none e w = by-decision none e
    starved (some d) e w =
        absurd (w room (able-fill k p q g own.inputs_apart own.register-no-input h room d e (room-enough room emitted before (λ l. omega arith))))
      where
        emitted : List (ℕ × Token)
        emitted = emissions p d.give1 d.give2 d.give3 ++ kept (remembering k) p d.register

        before : Links
        before = gone d.taken p (unregistered (remembering k) p q)

        room : ℕ → ℕ
        room l = length (before l) + length emitted

-- THE SENTENCE: a firing that can be made does what Brock's rule says for the tokens that wait, and where it cannot be made for want of a
-- token, his rule gives nothing.
pub firing-does-what-history-says : (cap : ℕ → ℕ) (k : Kind) (p : Ports) (q : Links) (g : Register) → Own-links k p q →
    Holds (remembering k) p q g →
    (Able cap (fill k p) q → Fires-by-history k p g q (act (fill k p) q)) × (Wants-token k p q → to-come k g p q ≡ silence)
firing-does-what-history-says cap k p q g own h = (able, starved k p q g own h (decide k g (heads p q)) refl)
  where
    able : Able cap (fill k p) q → Fires-by-history k p g q (act (fill k p) q)
    able z =
        let f = fill-able k p q g own.inputs_apart own.register-no-input h cap z in
        fires k p q g own h f.0 f.1
