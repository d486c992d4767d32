-- One operator of a sound graph: its ports' links are links of the graph, none is named twice, and its register link is nobody else's. From
-- theory_wiring/specs/MadeGraph's `WellWired`, in the words that network/specs/Firing and FiringLinks ask for. Assumes that nothing waits nowhere.
use Rattle.std.specs.Prelude.{ℕ, zero, suc, ◌+◌, ◌<◌, ◌≡◌, refl, ◌≢◌, ◌⊎◌, Bool, true, false, List, [], ◌∷◌, ◌++◌, length}
use Rattle.std.proofs.Common.{sym, ap, subst, ◌∙◌, inl, inr, arith}
use Rattle.std.proofs.Math.Option.{Option, none, some}
use Rattle.network.specs.Rules.{Input, first, second, third}
use Rattle.network.specs.Net.{Links}
use Rattle.network.specs.Fill.{input, remembering}
use Rattle.network.specs.Uses.{In}
use Rattle.network.specs.Firing.{Apart, Own-register}
use Rattle.network.proofs.Firing.{none-is-not-some, some_same}
use Rattle.network.specs.FiringLinks.{Output, output1, output2, output3, output, Own-links}
use Rattle.theory_pieces.proofs.Rows.{in-front, in-back}
use Rattle.theory_pieces.specs.Sets.{Different}
use Rattle.graph.specs.Assembly.{Operator}
use Rattle.graph.specs.Translation.{Made}
use Rattle.theory_reference.specs.Plugged.{nowhere, registers, link-of, ports_of, demand_of, Each}
use Rattle.theory_wiring.specs.Links.{optional, input_links, output_links}
use Rattle.theory_wiring.specs.Wiring.{inputs_at, outputs_at}
use Rattle.theory_wiring.specs.Ports.{port, Ported}
use Rattle.theory_wiring.specs.Machine.{net_of}
use Rattle.demand_view.specs.Sound.{Ith, Sound}

-- ---- the i-th of a list
pub ith-there : (os : List Operator) (i : ℕ) → i < length os → (o : Operator) × Ith os i o
ith-there [] i h = absurd (omega arith)
ith-there (x ∷ os) zero h = (x, refl)
ith-there (x ∷ os) (suc i) h = ith-there os i (omega arith)

pub ith-one : (os : List Operator) (i : ℕ) (o r : Operator) → Ith os i o → Ith os i r → o ≡ r
ith-one [] i o r h k = absurd h
ith-one (x ∷ os) zero o r h k = sym h ∙ k
ith-one (x ∷ os) (suc i) o r h k = ith-one os i o r h k

pub net-ith : (os : List Operator) (i : ℕ) (o : Operator) → Ith os i o → net_of os i ≡ demand_of o
net-ith [] i o h = absurd h
net-ith (x ∷ os) zero o h = ap demand_of h
net-ith (x ∷ os) (suc i) o h = net-ith os i o h

inputs-ith : (os : List Operator) (i : ℕ) (o : Operator) → Ith os i o → inputs_at os i ≡ input_links o
unfolding inputs_at
inputs-ith [] i o h = absurd h
inputs-ith (x ∷ os) zero o h = ap input_links h
inputs-ith (x ∷ os) (suc i) o h = inputs-ith os i o h

outputs-ith : (os : List Operator) (i : ℕ) (o : Operator) → Ith os i o → outputs_at os i ≡ output_links o
unfolding outputs_at
outputs-ith [] i o h = absurd h
outputs-ith (x ∷ os) zero o h = ap output_links h
outputs-ith (x ∷ os) (suc i) o h = outputs-ith os i o h

each-ith : (P : Operator → Type 0) (os : List Operator) (i : ℕ) (o : Operator) → Each P os → Ith os i o → P o
each-ith P [] i o e h = absurd h
each-ith P (x ∷ os) zero o e h = subst P h e.0
each-ith P (x ∷ os) (suc i) o e h = each-ith P os i o e.1 h

-- ---- three ports
module _ (a b c : Option ℕ) where
  abbrev three : List ℕ
  three = optional a ++ (optional b ++ optional c)

  optional-in : (x : Option ℕ) (l : ℕ) → x ≡ some l → In l (optional x)
  optional-in x l e = subst (λ z. In l (optional z)) (sym e) (inl refl)

  first-in : (l : ℕ) → a ≡ some l → In l three
  first-in l e = in-front l (optional a) (optional b ++ optional c) (optional-in a l e)

  second-in : (l : ℕ) → b ≡ some l → In l three
  second-in l e = in-back l (optional a) (optional b ++ optional c) (in-front l (optional b) (optional c) (optional-in b l e))

  third-in : (l : ℕ) → c ≡ some l → In l three
  third-in l e = in-back l (optional a) (optional b ++ optional c) (in-back l (optional b) (optional c) (optional-in c l e))

-- what is different in a list is different port by port
first-second : (a b c : Option ℕ) → Different (three a b c) → (l : ℕ) → a ≡ some l → b ≡ some l → ⊥
first-second none b c d l e f = none-is-not-some l e
first-second (some x) none c d l e f = none-is-not-some l f
first-second (some x) (some y) c d l e f = d.0 (inl (some_same x l e ∙ sym (some_same y l f)))

first-third : (a b c : Option ℕ) → Different (three a b c) → (l : ℕ) → a ≡ some l → c ≡ some l → ⊥
first-third none b c d l e f = none-is-not-some l e
first-third (some x) b none d l e f = none-is-not-some l f
first-third (some x) none (some z) d l e f = d.0 (inl (some_same x l e ∙ sym (some_same z l f)))
first-third (some x) (some y) (some z) d l e f = d.0 (inr (inl (some_same x l e ∙ sym (some_same z l f))))

second-third : (a b c : Option ℕ) → Different (three a b c) → (l : ℕ) → b ≡ some l → c ≡ some l → ⊥
second-third a none c d l e f = none-is-not-some l e
second-third a (some y) none d l e f = none-is-not-some l f
second-third none (some y) (some z) d l e f = d.0 (inl (some_same y l e ∙ sym (some_same z l f)))
second-third (some x) (some y) (some z) d l e f = d.1.0 (inl (some_same y l e ∙ sym (some_same z l f)))

absent-or-linked : (z : Option ℕ) → (link-of z ≡ nowhere) ⊎ (z ≡ some (link-of z))
absent-or-linked none = inl refl
absent-or-linked (some l) = inr refl

-- ---- the operator
module _ (g : Made) (S : Sound g) (i : ℕ) (o : Operator) (at : Ith g.operators i o) where
  input-in : (x : Input) (l : ℕ) → port o x ≡ some l → In l (inputs_at g.operators i)
  input-in x l e = subst (In l) (sym (inputs-ith g.operators i o at)) (go x e)
    where
      go : (x : Input) → port o x ≡ some l → In l (input_links o)
      go first e = first-in o.in1 o.in2 o.in3 l e
      go second e = second-in o.in1 o.in2 o.in3 l e
      go third e = third-in o.in1 o.in2 o.in3 l e

  output-in : (x : Output) (l : ℕ) → output (ports_of o) x ≡ some l → In l (outputs_at g.operators i)
  output-in x l e = subst (In l) (sym (outputs-ith g.operators i o at)) (go x e)
    where
      go : (x : Output) → output (ports_of o) x ≡ some l → In l (output_links o)
      go output1 e = first-in o.out1 o.out2 o.out3 l e
      go output2 e = second-in o.out1 o.out2 o.out3 l e
      go output3 e = third-in o.out1 o.out2 o.out3 l e

  pub input-below : (x : Input) (l : ℕ) → port o x ≡ some l → l < g.links
  input-below x l e = S.wired.takes-below i l (input-in x l e)

  pub output-below : (x : Output) (l : ℕ) → output (ports_of o) x ≡ some l → l < g.links
  output-below x l e = (S.wired.puts-below i l (output-in x l e)).1

  different-inputs : Different (input_links o)
  different-inputs = subst Different (inputs-ith g.operators i o at) (S.wired.inputs-differ i)

  different-outputs : Different (output_links o)
  different-outputs = subst Different (outputs-ith g.operators i o at) (S.wired.outputs-differ i)

  -- an absent input is a link past the graph's
  input-low : (x : Input) → (input (ports_of o) x ≡ nowhere) ⊎ (port o x ≡ some (input (ports_of o) x))
  input-low first = absent-or-linked o.in1
  input-low second = absent-or-linked o.in2
  input-low third = absent-or-linked o.in3

  pub no-register-input : (x : Input) → input (ports_of o) x ≢ registers + link-of o.out1
  no-register-input x = go (input-low x)
    where
      go : (input (ports_of o) x ≡ nowhere) ⊎ (port o x ≡ some (input (ports_of o) x)) → input (ports_of o) x ≢ registers + link-of o.out1
      go (inl e) f = omega arith
      go (inr e) f = let b = input-below x (input (ports_of o) x) e in omega (arith, S.few-links)

  pub no-register-output : (x : Output) → output (ports_of o) x ≢ some (registers + link-of o.out1)
  no-register-output x e = let b = output-below x (registers + link-of o.out1) e in omega (arith, S.few-links)

  no-input-output : (x : Output) (y : Input) → output (ports_of o) x ≢ some (input (ports_of o) y)
  no-input-output x y e = go (input-low y)
    where
      go : (input (ports_of o) y ≡ nowhere) ⊎ (port o y ≡ some (input (ports_of o) y)) → ⊥
      go (inl f) = let b = output-below x (input (ports_of o) y) e in omega (arith, S.few-links)
      go (inr f) = S.wired.ports-apart i (input (ports_of o) y) (input-in y (input (ports_of o) y) f) (output-in x (input (ports_of o) y) e)

  module _ (q : Links) (empty : q nowhere ≡ []) where
    apart_of : (a b : Option ℕ) → ((l : ℕ) → a ≡ some l → b ≡ some l → ⊥) → 0 < length (q (link-of a)) → 0 < length (q (link-of b)) → link-of a ≢ link-of b
    apart_of none b d h k = let z = ap length empty in absurd (omega arith)
    apart_of (some x) none d h k = let z = ap length empty in absurd (omega arith)
    apart_of (some x) (some y) d h k = λ e. d x refl (ap some (sym e))

    pub inputs_apart : Apart (ports_of o) q
    inputs_apart =
        record {
          apart12 = apart_of o.in1 o.in2 (first-second o.in1 o.in2 o.in3 different-inputs);
          apart13 = apart_of o.in1 o.in3 (first-third o.in1 o.in2 o.in3 different-inputs);
          apart23 = apart_of o.in2 o.in3 (second-third o.in1 o.in2 o.in3 different-inputs);
        }

    own-register : (b : Bool) → Own-register b (ports_of o)
    own-register true = no-register-input
    own-register false = tt

    -- NO LINK IS NAMED TWICE, as FiringHistory asks.
    pub own-links : Own-links o.kind (ports_of o) q
    own-links =
        record {
          inputs_apart = inputs_apart;
          register-no-input = own-register (remembering o.kind);
          output-no-input = no-input-output;
          output-no-register = λ x r. no-register-output x;
          outputs12 = first-second o.out1 o.out2 o.out3 different-outputs;
          outputs13 = first-third o.out1 o.out2 o.out3 different-outputs;
          outputs23 = second-third o.out1 o.out2 o.out3 different-outputs;
        }

  -- Two operators have different register links, since no link has two putters.
  pub register-apart : (j : ℕ) (r : Operator) → Ith g.operators j r → j ≢ i → registers + link-of r.out1 ≢ registers + link-of o.out1
  register-apart j r there ne e = ne (S.wired.one-putter j i l in-other (output-in output1 l (subst (λ z. o.out1 ≡ some z) same mine.1)))
    where
      mine : (l : ℕ) × (o.out1 ≡ some l)
      mine = (each-ith Ported g.operators i o S.wired.all-ported at).emits

      other : (l : ℕ) × (r.out1 ≡ some l)
      other = (each-ith Ported g.operators j r S.wired.all-ported there).emits

      l : ℕ
      l = other.0

      same : mine.0 ≡ l
      same =
          let a = ap link-of mine.1 in
          let b = ap link-of other.1 in
          let c : link-of r.out1 ≡ link-of o.out1 = omega arith in
          sym a ∙ sym c ∙ b

      in-other : In l (outputs_at g.operators j)
      in-other = subst (In l) (sym (outputs-ith g.operators j r there)) (first-in r.out1 r.out2 r.out3 l other.1)
