-- Laws of specs/AtRest.antt, and what only they need.
use Rattle.std.specs.Prelude.{ℕ, zero, suc, ◌+◌, ◌≤◌, ◌<◌, ◌≡◌, refl, ◌≢◌, ◌⊎◌, Bool, true, false, List, [], ◌∷◌, ◌++◌, length}
use Rattle.std.proofs.Common.{sym, ap, ◌∙◌, subst, inl, inr, arith}
use Rattle.std.proofs.lemmas.Bool.{false≢true}
use Rattle.std.proofs.Math.Option.{Option, none, some}
use Rattle.value.specs.declared.Value.{Value}
use Rattle.value.specs.Senses.{sense}
use Rattle.network.specs.Values.{false-value, one-operand}
use Rattle.network.specs.Rules.{Kind, constant, copy, operator, T-gate, F-gate, M-gate, E-gate, IC-gate, FM-gate, FS-gate, Register, rule, M-rule, FS-rule, fired, first as input₁, second as input₂, third as input₃}
use Rattle.network.specs.Net.{Token, val, mark, Links, head, pop, Able}
use Rattle.network.proofs.Net.{pop-other}
use Rattle.network.specs.Fill.{Ports, remembering, fill, wire, kept, value-of, register_of}
use Rattle.network.specs.Uses.{In, inputs, has-input, operand-inputs}
use Rattle.graph.specs.Assembly.{Graph, free, Env, Operator, nth, ring_gate, links_of, operators_of}
use Rattle.graph.specs.Fit.{Fit}
use Rattle.theory_reference.specs.Plugged.{nowhere, registers, link-of, ports_of, demand_of, Each}
use Rattle.theory_reference.specs.Plan.{Control, Envs, Before}
use Rattle.theory_reference.specs.GraphLayout.{plan_of}
use Rattle.theory_reference.specs.WrittenOut.{no-values}
use Rattle.theory_reference.proofs.Marks.{rings-each}
use Rattle.theory_pieces.specs.Sets.{Different}
use Rattle.theory_pieces.proofs.Rows.{in-back}
use Rattle.theory_wiring.specs.Links.{optional, input_links}
use Rattle.theory_wiring.specs.Wiring.{inputs_at}
use Rattle.theory_wiring.proofs.Wiring.{Wired, wired}
use Rattle.theory_wiring.specs.Ports.{Linked, Ported}
use Rattle.theory_wiring.proofs.PortedGraphs.{ported}
use Rattle.theory_wiring.specs.Machine.{net_of}
use Rattle.theory_wiring.specs.AtRest.{At, Gate-of}

-- ---- what an able operator has waiting
module _ (cap : ℕ → ℕ) (p : Ports) (q : Links) where
  pub first-waits : (k : Kind) → remembering k ≡ false → Able cap (fill k p) q → 0 < length (q p.in1)
  first-waits constant e a = go p.held refl a
    where
      go : (g : Register) → p.held ≡ g → Able cap (fill constant p) q → 0 < length (q p.in1)
      go none h a = absurd (subst (λ (r : Register). Able cap (fill constant (record { in1 = p.in1; in2 = p.in2; in3 = p.in3; out1 = p.out1; out2 = p.out2; out3 = p.out3; register = p.register; held = r })) q) h a)
      go (some v) h a = (subst (λ (r : Register). Able cap (fill constant (record { in1 = p.in1; in2 = p.in2; in3 = p.in3; out1 = p.out1; out2 = p.out2; out3 = p.out3; register = p.register; held = r })) q) h a).0
  first-waits copy e a = a.0
  first-waits (operator code) e a = a.0
  first-waits T-gate e a = a.0
  first-waits F-gate e a = a.0
  first-waits M-gate e a = a.0
  first-waits E-gate e a = a.0
  first-waits IC-gate e a = a.0
  first-waits FM-gate e a = absurd (false≢true (sym e))
  first-waits FS-gate e a = absurd (false≢true (sym e))

  -- With nothing on its control, or one false, a gate of a loop waits for its data.
  abbrev pub Calm-control : Type 0
  Calm-control = 0 < length (q p.in1) → q p.in1 ≡ val false-value ∷ []

  two-pops : (l m k : ℕ) → l ≢ m → l ≢ k → 0 < length (pop k (pop m q) l) → 0 < length (q l)
  two-pops l m k n o h = subst (λ (ts : List Token). 0 < length ts) (pop-other k l (pop m q) o ∙ pop-other m l q n) h

  pub FM-data : p.in1 ≢ p.register → p.in3 ≢ p.register → p.in3 ≢ p.in1 → Calm-control → Able cap (fill FM-gate p) q → 0 < length (q p.in3)
  FM-data n1 n3 n31 f a = go (head (q p.register)) a.1
    where
      go : (t : Token) → Able cap (wire (kept true p) p (rule FM-gate (register_of t))) (pop p.register q) → 0 < length (q p.in3)
      go mark b = subst (λ (ts : List Token). 0 < length ts) (pop-other p.register p.in3 q n3) b.0
      go (val v) b =
          let w = pop-other p.register p.in1 q n1 in
          let z : pop p.register q p.in1 ≡ val false-value ∷ [] = w ∙ f (subst (λ (ts : List Token). 0 < length ts) w b.0) in
          two-pops p.in3 p.register p.in1 n3 n31
          (subst (λ (ts : List Token). Able cap (wire (kept true p) p (M-rule fired (sense (value-of (head ts))))) (pop p.in1 (pop p.register q))) z b.1).0

  pub FS-data : p.in1 ≢ p.register → p.in2 ≢ p.register → p.in2 ≢ p.in1 → Calm-control → Able cap (fill FS-gate p) q → 0 < length (q p.in2)
  FS-data n1 n2 n21 f a = go (head (q p.register)) a.1
    where
      go : (t : Token) → Able cap (wire (kept true p) p (rule FS-gate (register_of t))) (pop p.register q) → 0 < length (q p.in2)
      go mark b = subst (λ (ts : List Token). 0 < length ts) (pop-other p.register p.in2 q n2) b.0
      go (val v) b =
          let w = pop-other p.register p.in1 q n1 in
          let z : pop p.register q p.in1 ≡ val false-value ∷ [] = w ∙ f (subst (λ (ts : List Token). 0 < length ts) w b.0) in
          two-pops p.in2 p.register p.in1 n2 n21
          (subst (λ (ts : List Token). Able cap (wire (kept true p) p (FS-rule v (sense (value-of (head ts))))) (pop p.in1 (pop p.register q))) z b.1).0

at_same : (os : List Operator) (i : ℕ) (o o' : Operator) → At os i o → At os i o' → o ≡ o'
at_same [] i o o' a b = absurd a
at_same (x ∷ os) zero o o' a b = sym a ∙ b
at_same (x ∷ os) (suc i) o o' a b = at_same os i o o' a b

at-inputs : (os : List Operator) (i : ℕ) (o : Operator) → At os i o → inputs_at os i ≡ input_links o
unfolding inputs_at
at-inputs [] i o a = absurd a
at-inputs (x ∷ os) zero o a = ap input_links a
at-inputs (x ∷ os) (suc i) o a = at-inputs os i o a

at_each : (P : Operator → Type 0) (os : List Operator) (i : ℕ) (o : Operator) → Each P os → At os i o → P o
at_each P [] i o h a = absurd a
at_each P (x ∷ os) zero o h a = subst P a h.0
at_each P (x ∷ os) (suc i) o h a = at_each P os i o h.1 a

each_at : (P : Operator → Type 0) (os : List Operator) → ((i : ℕ) (o : Operator) → At os i o → P o) → Each P os
each_at P [] f = tt
each_at P (x ∷ os) f = (f 0 x refl, each_at P os (λ i o a. f (suc i) o a))

net-at : (cap : ℕ → ℕ) (q : Links) (os : List Operator) (i : ℕ) → Able cap (net_of os i) q → (o : Operator) × At os i o × Able cap (demand_of o) q
net-at cap q [] i a = absurd a
net-at cap q (x ∷ os) zero a = (x, refl, a)
net-at cap q (x ∷ os) (suc i) a = net-at cap q os i a

placed-gate : (os : List Operator) (b : Bool) (c i s w o : ℕ) → ((j : ℕ) × At os j (ring_gate b c i s w o)) → Gate-of os c
unfolding ring_gate nth
placed-gate os true c i s w o (j, a) = (j, ring_gate true c i s w o, a, refl, refl)
placed-gate os false c i s w o (j, a) = (j, ring_gate false c i s w o, a, refl, refl)

first-input : (k : Kind) → has-input (inputs k) input₁ ≡ true
first-input constant = refl
first-input copy = refl
first-input (operator code) = go (one-operand code)
  where
    go : (b : Bool) → has-input (operand-inputs b) input₁ ≡ true
    go true = refl
    go false = refl
first-input T-gate = refl
first-input F-gate = refl
first-input M-gate = refl
first-input E-gate = refl
first-input IC-gate = refl
first-input FM-gate = refl
first-input FS-gate = refl

none-waits : (ts : List Token) → ts ≡ [] → 0 < length ts → ⊥
none-waits ts e h = let z : length ts ≡ 0 = ap length e in omega arith

module _ (g : Graph) (n : ℕ) (env : Env) (fit : Fit g) (E : Envs (free g) env n) (room : n + links_of g ≤ nowhere) where
  abbrev ops : List Operator
  ops = operators_of g n env

  W : Wired g n env fit E
  W = wired g n env fit E

  -- A control link is the first input of a gate of a loop, and of no other operator.
  control-first : (i l : ℕ) (o : Operator) → At ops i o → In l (input_links o) → Control (plan_of g n env) l → (remembering o.kind ≡ true) × (o.in1 ≡ some l)
  control-first i l o a m (r, k) =
      let G : Gate-of ops l = rings-each (λ x. (j : ℕ) × At ops j x) (λ c r. Gate-of ops c) (placed-gate ops) g fit n env (each_at (λ x. (j : ℕ) × At ops j x) ops (λ j x b. (j, b))) l r k in
      let own : In l (input_links G.1) = subst (λ (z : Option ℕ). In l (optional z ++ (optional G.1.in2 ++ optional G.1.in3))) (sym G.4) (inl refl) in
      let e : i ≡ G.0 = W.one-taker i G.0 l (subst (In l) (sym (at-inputs ops i o a)) m) (subst (In l) (sym (at-inputs ops G.0 G.1 G.2)) own) in
      let same : G.1 ≡ o = at_same ops G.0 G.1 o G.2 (subst (λ (j : ℕ). At ops j o) e a) in
      subst (λ (x : Operator). (remembering x.kind ≡ true) × (x.in1 ≡ some l)) same (G.3, G.4)

  module _ (s : Links) (B : Before (plan_of g n env) no-values s) where
    -- An input link that is no control is empty.
    input-empty : (i l : ℕ) (o : Operator) → At ops i o → In l (input_links o) → (Control (plan_of g n env) l → ⊥) → 0 < length (s l) → ⊥
    input-empty i l o a m nc h = go (W.takes-in-zone i l (subst (In l) (sym (at-inputs ops i o a)) m))
      where
        go : ((n ≤ l) × (l < n + links_of g)) ⊎ ((x : ℕ) × (free g x ≡ true) × (l ≡ env x)) → ⊥
        go (inl own) = none-waits (s l) (B.clear l own nc) h
        go (inr (x, e, z)) = none-waits (s l) (ap s z ∙ B.laid x e) h

    -- A link of an operator is no register link.
    input-low : (i l : ℕ) (o : Operator) → At ops i o → In l (input_links o) → (k : ℕ) → l ≢ registers + k
    input-low i l o a m k e = go (W.takes-in-zone i l (subst (In l) (sym (at-inputs ops i o a)) m))
      where
        go : ((n ≤ l) × (l < n + links_of g)) ⊎ ((x : ℕ) × (free g x ≡ true) × (l ≡ env x)) → ⊥
        go (inl own) = omega arith
        go (inr (x, t, z)) = let b = E.below x t in omega arith

    calm : (c r : ℕ) → ((s r ≡ mark ∷ []) × (s c ≡ [])) ⊎ ((v : Value) × (s r ≡ val v ∷ []) × (s c ≡ val false-value ∷ [])) → 0 < length (s c) → s c ≡ val false-value ∷ []
    calm c r (inl (a, b)) h = absurd (none-waits (s c) b h)
    calm c r (inr (v, a, b)) h = b

    module _ (cap : ℕ → ℕ) (i : ℕ) (o : Operator) (at : At ops i o) where
      P : Ported o
      P = at_each Ported ops i o (ported g n env fit E room) at

      apart : Different (input_links o)
      apart = subst Different (at-inputs ops i o at) (W.inputs-differ i)

      in-first : In (link-of o.in1) (input_links o)
      in-first = go (P.linked input₁ (first-input o.kind))
        where
          go : Linked o.in1 → In (link-of o.in1) (input_links o)
          go (l, e) = subst (λ (z : Option ℕ). In (link-of z) (optional z ++ (optional o.in2 ++ optional o.in3))) (sym e) (inl refl)

      -- A gate of a loop whose data input is another than its control.
      starved : (d : ℕ) → In d (input_links o) → d ≢ link-of o.in1 → ((0 < length (s (link-of o.in1)) → s (link-of o.in1) ≡ val false-value ∷ []) → 0 < length (s d)) → ⊥
      starved d m ne f = lacks (λ h. absurd (input-empty i (link-of o.in1) o at in-first (λ c. lacks (calm (link-of o.in1) c.0 (B.ready (link-of o.in1) c.0 c.1))) h))
        where
          lacks : (0 < length (s (link-of o.in1)) → s (link-of o.in1) ≡ val false-value ∷ []) → ⊥
          lacks k = input-empty i d o at m (λ c. ne (sym (ap link-of (control-first i d o at m c).1))) (f k)

      by_kind : (k : Kind) → o.kind ≡ k → Able cap (fill k (ports_of o)) s → ⊥
      by_kind k e a = go k e a (plain k e a)
        where
          plain : (k : Kind) → o.kind ≡ k → Able cap (fill k (ports_of o)) s → remembering k ≡ false → ⊥
          plain k e a z =
              input-empty i (link-of o.in1) o at in-first
              (λ c. false≢true (sym z ∙ ap remembering (sym e) ∙ (control-first i (link-of o.in1) o at in-first c).0)) (first-waits cap (ports_of o) s k z a)

          go : (k : Kind) → o.kind ≡ k → Able cap (fill k (ports_of o)) s → (remembering k ≡ false → ⊥) → ⊥
          go constant e a f = f refl
          go copy e a f = f refl
          go (operator code) e a f = f refl
          go T-gate e a f = f refl
          go F-gate e a f = f refl
          go M-gate e a f = f refl
          go E-gate e a f = f refl
          go IC-gate e a f = f refl
          go FM-gate e a f = third (P.linked input₁ (first-input o.kind)) (P.linked input₃ (subst (λ (k : Kind). has-input (inputs k) input₃ ≡ true) (sym e) refl))
            where
              third : Linked o.in1 → Linked o.in3 → ⊥
              third (l, y) (d, z) =
                  let m : In (link-of o.in3) (input_links o)
                  = subst (λ (x : Option ℕ). In (link-of x) (optional o.in1 ++ (optional o.in2 ++ optional x))) (sym z)
                  (in-back d (optional o.in1) (optional o.in2 ++ (d ∷ [])) (in-back d (optional o.in2) (d ∷ []) (inl refl))) in
                  let ne : link-of o.in3 ≢ link-of o.in1 = λ w.
                  (subst (λ (x : Option ℕ). Different (optional x ++ (optional o.in2 ++ optional o.in3))) y apart).0
                  (subst (λ (v : ℕ). In v (optional o.in2 ++ optional o.in3)) (w ∙ ap link-of y)
                  (subst (λ (x : Option ℕ). In (link-of x) (optional o.in2 ++ optional x)) (sym z) (in-back d (optional o.in2) (d ∷ []) (inl refl)))) in
                  starved (link-of o.in3) m ne
                  (λ c. FM-data cap (ports_of o) s (input-low i (link-of o.in1) o at in-first (link-of o.out1)) (input-low i (link-of o.in3) o at m (link-of o.out1)) ne c a)
          go FS-gate e a f = second (P.linked input₁ (first-input o.kind)) (P.linked input₂ (subst (λ (k : Kind). has-input (inputs k) input₂ ≡ true) (sym e) refl))
            where
              second : Linked o.in1 → Linked o.in2 → ⊥
              second (l, y) (d, z) =
                  let m : In (link-of o.in2) (input_links o)
                  = subst (λ (x : Option ℕ). In (link-of x) (optional o.in1 ++ (optional x ++ optional o.in3))) (sym z)
                  (in-back d (optional o.in1) (d ∷ optional o.in3) (inl refl)) in
                  let ne : link-of o.in2 ≢ link-of o.in1 = λ w.
                  (subst (λ (x : Option ℕ). Different (optional x ++ (optional o.in2 ++ optional o.in3))) y apart).0
                  (subst (λ (v : ℕ). In v (optional o.in2 ++ optional o.in3)) (w ∙ ap link-of y)
                  (subst (λ (x : Option ℕ). In (link-of x) (optional x ++ optional o.in3)) (sym z) (inl refl))) in
                  starved (link-of o.in2) m ne
                  (λ c. FS-data cap (ports_of o) s (input-low i (link-of o.in1) o at in-first (link-of o.out1)) (input-low i (link-of o.in2) o at m (link-of o.out1)) ne c a)

    -- Nothing can fire.
    pub none-able : (cap : ℕ → ℕ) (i : ℕ) → Able cap (net_of ops i) s → ⊥
    none-able cap i a = let w = net-at cap s ops i a in by_kind cap i w.0 w.1 w.0.kind refl w.2
