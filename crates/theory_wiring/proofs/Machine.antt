-- Laws of specs/Machine.antt, and what only they need.
use Rattle.std.specs.Prelude.{ℕ, zero, suc, ◌+◌, ◌≤◌, ◌<◌, ◌≡◌, refl, ◌≢◌, ◌⊎◌, List, [], ◌∷◌, ◌++◌, length}
use Rattle.std.proofs.Common.{sym, ap, ◌∙◌, subst, inl, inr, arith}
use Rattle.std.proofs.Math.Option.{Option, some}
use Rattle.network.specs.Rules.{Input, first as input₁, second as input₂, third as input₃}
use Rattle.network.specs.Net.{Demand, halt}
use Rattle.network.specs.Fill.{input}
use Rattle.network.specs.Commute.{Free, Never-emits}
use Rattle.network.specs.Wired.{Uses}
use Rattle.network.proofs.Wired.{never-asks, never-emits}
use Rattle.network.proofs.Ends.{machine}
use Rattle.network.specs.Uses.{In, Takes-from, Puts-onto}
use Rattle.network.proofs.Uses.{fill-uses}
use Rattle.theory_pieces.proofs.Rows.{in-front, in-back}
use Rattle.theory_pieces.proofs.Sets.{Bench}
use Rattle.theory_pieces.proofs.Wiring.{Wiring, wiring-free}
use Rattle.graph.specs.Assembly.{Graph, free, Env, Operator, links_of, outputs, operators_of}
use Rattle.graph.specs.Yields.{Yields}
use Rattle.graph.specs.Fit.{Fit}
use Rattle.theory_reference.specs.Plan.{Between, Envs}
use Rattle.theory_reference.specs.Plugged.{nowhere, registers, link-of, ports_of, Each}
use Rattle.theory_reference.proofs.Plugged.{Numbered, Has, numbered-has}
use Rattle.theory_pieces.specs.Goes.{any-list}
use Rattle.theory_reference.specs.Bystanders.{Unused}
use Rattle.theory_reference.proofs.Schedule.{serves}
use Rattle.theory_reference.proofs.WholeGraph.{whole, yields, Idle-load}
use Rattle.theory_reference.proofs.GraphBench.{ends-apart, fresh, fresh-is-idle, graph-bench}
use Rattle.theory_wiring.specs.Links.{optional, input_links, output_links}
use Rattle.theory_wiring.proofs.Wiring.{Zone, outputs-zone, Wired, wired}
use Rattle.theory_wiring.specs.Wiring.{inputs_at, outputs_at}
use Rattle.theory_wiring.specs.Ports.{port, Ported}
use Rattle.theory_wiring.proofs.PortedGraphs.{ported}
use Rattle.theory_wiring.specs.Machine.{net_of, TakesAt, PutsAt}

numbered-from : (net : ℕ → Demand) (m : ℕ) (os : List Operator) → ((i : ℕ) → net (m + i) ≡ net_of os i) → Numbered (any-list net) m os
numbered-from net m [] h = tt
numbered-from net m (o ∷ os) h =
    (ap net (omega arith) ∙ h 0, tt, numbered-from net (suc m) os (λ i. ap net (omega arith) ∙ h (suc i)))

-- It has them all, each under its position.
pub net-has : (os : List Operator) → Has (any-list (net_of os)) os
net-has os = numbered-has (any-list (net_of os)) 0 os (numbered-from (net_of os) 0 os (λ i. ap (net_of os) (omega arith)))

-- A number past the last is no operator.
pub net-past : (os : List Operator) (i : ℕ) → length os ≤ i → net_of os i ≡ halt
net-past [] i h = refl
net-past (o ∷ os) zero h = absurd (omega arith)
net-past (o ∷ os) (suc i) h = net-past os i (omega arith)

pub net-uses : (os : List Operator) (i : ℕ) → Uses (TakesAt os i) (PutsAt os i) (net_of os i)
net-uses [] i = tt
net-uses (o ∷ os) zero = fill-uses o.kind (ports_of o)
net-uses (o ∷ os) (suc i) = net-uses os i

-- ---- what they are in the lists of links
-- the register link of an operator is numbered by an output
abbrev RegisterOf : List ℕ → ℕ → Type 0
RegisterOf outs l = (k : ℕ) × In k outs × (l ≡ registers + k)

optional-in : (p : Option ℕ) (l : ℕ) → p ≡ some l → In l (optional p)
optional-in p l e = subst (λ q. In l (optional q)) (sym e) (inl refl)

port-in : (o : Operator) (i : Input) (l : ℕ) → port o i ≡ some l → In l (input_links o)
port-in o input₁ l e = in-front l (optional o.in1) (optional o.in2 ++ optional o.in3) (optional-in o.in1 l e)
port-in o input₂ l e =
    in-back l (optional o.in1) (optional o.in2 ++ optional o.in3) (in-front l (optional o.in2) (optional o.in3) (optional-in o.in2 l e))
port-in o input₃ l e =
    in-back l (optional o.in1) (optional o.in2 ++ optional o.in3) (in-back l (optional o.in2) (optional o.in3) (optional-in o.in3 l e))

port-link : (o : Operator) (i : Input) → input (ports_of o) i ≡ link-of (port o i)
port-link o input₁ = refl
port-link o input₂ = refl
port-link o input₃ = refl

out-in : (o : Operator) (l : ℕ) → (o.out1 ≡ some l) ⊎ ((o.out2 ≡ some l) ⊎ (o.out3 ≡ some l)) → In l (output_links o)
out-in o l (inl e) = in-front l (optional o.out1) (optional o.out2 ++ optional o.out3) (optional-in o.out1 l e)
out-in o l (inr (inl e)) =
    in-back l (optional o.out1) (optional o.out2 ++ optional o.out3) (in-front l (optional o.out2) (optional o.out3) (optional-in o.out2 l e))
out-in o l (inr (inr e)) =
    in-back l (optional o.out1) (optional o.out2 ++ optional o.out3) (in-back l (optional o.out2) (optional o.out3) (optional-in o.out3 l e))

register-is : (o : Operator) (l : ℕ) → Ported o → l ≡ registers + link-of o.out1 → RegisterOf (output_links o) l
register-is o l p e =
    let w = p.emits in
    (w.0, out-in o w.0 (inl w.1), e ∙ ap (λ q. registers + link-of q) w.1)

takes-in : (o : Operator) → Ported o → (l : ℕ) → Takes-from o.kind (ports_of o) l → In l (input_links o) ⊎ RegisterOf (output_links o) l
takes-in o p l (inl (i, h, e)) =
    let w = p.linked i h in
    inl (subst (λ k. In k (input_links o)) (sym (e ∙ port-link o i ∙ ap link-of w.1)) (port-in o i w.0 w.1))
takes-in o p l (inr (r, e)) = inr (register-is o l p e)

puts-in : (o : Operator) → Ported o → (l : ℕ) → Puts-onto o.kind (ports_of o) l → In l (output_links o) ⊎ RegisterOf (output_links o) l
puts-in o p l (inl e) = inl (out-in o l (inl e))
puts-in o p l (inr (inl e)) = inl (out-in o l (inr (inl e)))
puts-in o p l (inr (inr (inl e))) = inl (out-in o l (inr (inr e)))
puts-in o p l (inr (inr (inr (r, e)))) = inr (register-is o l p e)

takes_at : (os : List Operator) → Each Ported os → (i l : ℕ) → TakesAt os i l → In l (inputs_at os i) ⊎ RegisterOf (outputs_at os i) l
unfolding inputs_at outputs_at
takes_at [] p i l t = absurd t
takes_at (o ∷ os) p zero l t = takes-in o p.0 l t
takes_at (o ∷ os) p (suc i) l t = takes_at os p.1 i l t

puts-at : (os : List Operator) → Each Ported os → (i l : ℕ) → PutsAt os i l → In l (outputs_at os i) ⊎ RegisterOf (outputs_at os i) l
unfolding inputs_at outputs_at
puts-at [] p i l t = absurd t
puts-at (o ∷ os) p zero l t = puts-in o p.0 l t
puts-at (o ∷ os) p (suc i) l t = puts-at os p.1 i l t

-- ---- the machine of a fit graph
module _ (g : Graph) (n : ℕ) (env : Env) (fit : Fit g) (E : Envs (free g) env n) (room : n + links_of g ≤ nowhere) where
  abbrev ops : List Operator
  ops = operators_of g n env

  abbrev outs : List ℕ
  outs = outputs g n env

  abbrev top : ℕ
  top = n + links_of g

  W : Wired g n env fit E
  W = wired g n env fit E

  all-ported : Each Ported ops
  all-ported = ported g n env fit E room

  port-low : (l k x : ℕ) → l ≡ env x → env x < n → l < n + k
  port-low l k x e h = omega arith

  zone-low : (l : ℕ) → Zone g n env l → l < top
  zone-low l (inl o) = o.1
  zone-low l (inr (x, e, z)) = port-low l (links_of g) x z (E.below x e)

  takes : (i l : ℕ) → TakesAt ops i l → In l (inputs_at ops i) ⊎ RegisterOf (outputs_at ops i) l
  takes i l t = takes_at ops all-ported i l t

  puts : (i l : ℕ) → PutsAt ops i l → In l (outputs_at ops i) ⊎ RegisterOf (outputs_at ops i) l
  puts i l t = puts-at ops all-ported i l t

  -- a link of the graph is no register link
  clash : (l k t : ℕ) → l < t → t ≤ nowhere → l ≡ registers + k → ⊥
  clash l k t a b e = omega arith

  same-register : (j k l : ℕ) → l ≡ registers + j → l ≡ registers + k → j ≡ k
  same-register j k l p q = omega arith

  one-register : (i j l : ℕ) → RegisterOf (outputs_at ops i) l → RegisterOf (outputs_at ops j) l → i ≡ j
  one-register i j l (k, p, e) (m, q, h) = W.one-putter i j m (subst (λ z. In z (outputs_at ops i)) (same-register k m l e h) p) q

  input-low : (i l : ℕ) → In l (inputs_at ops i) → l < top
  input-low i l p = zone-low l (W.takes-in-zone i l p)

  output-low : (i l : ℕ) → In l (outputs_at ops i) → l < top
  output-low i l p = (W.puts-own i l p).1

  pub one-taker : (i j l : ℕ) → TakesAt ops i l → TakesAt ops j l → i ≡ j
  one-taker i j l s t = go (takes i l s) (takes j l t)
    where
      go : In l (inputs_at ops i) ⊎ RegisterOf (outputs_at ops i) l → In l (inputs_at ops j) ⊎ RegisterOf (outputs_at ops j) l → i ≡ j
      go (inl p) (inl q) = W.one-taker i j l p q
      go (inl p) (inr (k, q, e)) = absurd (clash l k top (input-low i l p) room e)
      go (inr (k, p, e)) (inl q) = absurd (clash l k top (input-low j l q) room e)
      go (inr p) (inr q) = one-register i j l p q

  pub one-putter : (i j l : ℕ) → PutsAt ops i l → PutsAt ops j l → i ≡ j
  one-putter i j l s t = go (puts i l s) (puts j l t)
    where
      go : In l (outputs_at ops i) ⊎ RegisterOf (outputs_at ops i) l → In l (outputs_at ops j) ⊎ RegisterOf (outputs_at ops j) l → i ≡ j
      go (inl p) (inl q) = W.one-putter i j l p q
      go (inl p) (inr (k, q, e)) = absurd (clash l k top (output-low i l p) room e)
      go (inr (k, p, e)) (inl q) = absurd (clash l k top (output-low j l q) room e)
      go (inr p) (inr q) = one-register i j l p q

  pub takes-no-result : (i l : ℕ) → TakesAt ops i l → In l outs → ⊥
  takes-no-result i l s o = go (takes i l s)
    where
      go : In l (inputs_at ops i) ⊎ RegisterOf (outputs_at ops i) l → ⊥
      go (inl p) = W.takes-no-output i l p o
      go (inr (k, p, e)) = clash l k top (zone-low l (outputs-zone g n env fit E l o)) room e

  -- A link that is neither the graph's nor one of its register links.
  abbrev pub Spare : ℕ → Type 0
  Spare l = (top ≤ l) × (Between registers top l → ⊥)

  spare-register : (l k : ℕ) → k < top → l ≡ registers + k → Between registers top l
  spare-register l k h e = (omega arith, omega arith)

  not_low : (l t : ℕ) → t ≤ l → l < t → ⊥
  not_low l t p q = omega arith

  pub takes-no-spare : (i l : ℕ) → Spare l → TakesAt ops i l → ⊥
  takes-no-spare i l s t = go (takes i l t)
    where
      go : In l (inputs_at ops i) ⊎ RegisterOf (outputs_at ops i) l → ⊥
      go (inl p) = not_low l top s.0 (input-low i l p)
      go (inr (k, p, e)) = s.1 (spare-register l k (output-low i k p) e)

  pub puts-no-spare : (i l : ℕ) → Spare l → PutsAt ops i l → ⊥
  puts-no-spare i l s t = go (puts i l t)
    where
      go : In l (outputs_at ops i) ⊎ RegisterOf (outputs_at ops i) l → ⊥
      go (inl p) = not_low l top s.0 (output-low i l p)
      go (inr (k, p, e)) = s.1 (spare-register l k (output-low i k p) e)

  pub puts-no-input : (i l : ℕ) → PutsAt ops i l → l < n → ⊥
  puts-no-input i l t h = go (puts i l t)
    where
      below_top : (l n k : ℕ) → l < n → l < n + k
      below_top l n k h = omega arith

      go : In l (outputs_at ops i) ⊎ RegisterOf (outputs_at ops i) l → ⊥
      go (inl p) = not_low l n (W.puts-own i l p).0 h
      go (inr (k, p, e)) = clash l k top (below_top l n (links_of g) h) room e

  -- No operator uses a spare link.
  pub spare-unused : (l : ℕ) → Spare l → Unused (net_of ops) l
  spare-unused l s =
      record {
        asks = λ i. never-asks (TakesAt ops i) (PutsAt ops i) (net_of ops i) (net-uses ops i) l (takes-no-spare i l s);
        emits = λ i. never-emits (TakesAt ops i) (PutsAt ops i) (net_of ops i) (net-uses ops i) l (puts-no-spare i l s);
      }

  -- Where one operator puts, no other does.
  pub puts-alone : (i l : ℕ) → PutsAt ops i l → (e : ℕ) → i ≢ e → Never-emits (net_of ops e) l
  puts-alone i l s e ne = never-emits (TakesAt ops e) (PutsAt ops e) (net_of ops e) (net-uses ops e) l (λ t. ne (one-putter i e l s t))

  -- Push and take beside the graph: they have numbers past the last operator, the inputs are links below the graph's own, the results its outputs.
  pub record Ends (push take source credit : ℕ) (ins : List ℕ) : Type 0 where
    pub push-past : length ops ≤ push
    pub take_past : length ops ≤ take
    pub push-not-take : push ≢ take
    pub spare-source : Spare source
    pub spare-credit : Spare credit
    pub source-not-credit : source ≢ credit
    pub inputs-below : (l : ℕ) → In l ins → l < n

  module _ (push take source credit : ℕ) (ins : List ℕ) (H : Ends push take source credit ins) where
    spare-no-input : (l : ℕ) → Spare l → In l ins → ⊥
    spare-no-input l s i = apart l n (links_of g) s.0 (H.inputs-below l i)
      where
        apart : (l n k : ℕ) → n + k ≤ l → l < n → ⊥
        apart l n k p q = omega arith

    spare-no-result : (l : ℕ) → Spare l → In l outs → ⊥
    spare-no-result l s o = not_low l top s.0 (zone-low l (outputs-zone g n env fit E l o))

    -- What the maker owes about numbers.
    pub graph-wiring : Wiring (net_of ops) push take source credit ins outs (TakesAt ops) (PutsAt ops)
    graph-wiring =
        record {
          ends = record {
            graph-uses = net-uses ops;
            one-taker = one-taker;
            one-putter = one-putter;
            takes-no-result = takes-no-result;
            takes-no-source = λ i t. takes-no-spare i source H.spare-source t;
            takes-no-credit = λ i t. takes-no-spare i credit H.spare-credit t;
            puts-no-input = λ i l t j. puts-no-input i l t (H.inputs-below l j);
            puts-no-credit = λ i t. puts-no-spare i credit H.spare-credit t;
            source-no-result = spare-no-result source H.spare-source;
            source-no-credit = H.source-not-credit;
          };
          puts-no-source = λ i t. puts-no-spare i source H.spare-source t;
          push-halts = net-past ops push H.push-past;
          take-halts = net-past ops take H.take_past;
          push-not-take = H.push-not-take;
          source-no-input = spare-no-input source H.spare-source;
          credit-no-input = spare-no-input credit H.spare-credit;
          credit-no-result = spare-no-result credit H.spare-credit;
        }

    -- Any two firings of the machine are free of one another.
    pub machine-commutes : (a b : ℕ) → a ≢ b → Free (machine (net_of ops) push take source credit ins outs a) (machine (net_of ops) push take source credit ins outs b)
    machine-commutes = wiring-free (net_of ops) push take source credit ins outs (TakesAt ops) (PutsAt ops) graph-wiring

    -- The bench of the schedule lemma.
    pub bench : Bench (net_of ops) push take source credit (whole g n env source credit) (yields g n env source credit)
    bench =
        graph-bench g fit n env E room source credit
        (ends-apart g fit n env E room source credit H.spare-source H.spare-credit H.source-not-credit) (any-list (net_of ops)) push take (Yields g)
        (serves (any-list (net_of ops)) g fit n env E room (net-has ops))
        (spare-unused source H.spare-source) (spare-unused credit H.spare-credit) (net-past ops push H.push-past) (net-past ops take H.take_past)
        H.push-not-take

    -- What start leaves: every register of a loop's gate marked, everything else empty.
    pub start-idle : Idle-load g n env source credit (fresh g fit n env E room source credit)
    start-idle =
        fresh-is-idle g fit n env E room source credit (ends-apart g fit n env E room source credit H.spare-source H.spare-credit H.source-not-credit)
