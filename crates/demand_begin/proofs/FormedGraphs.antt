-- Laws of specs/FormedGraphs.antt, and what only they need.
use Rattle.std.specs.Prelude.{ℕ, zero, suc, ◌+◌, ◌≤◌, ◌<◌, ◌≡◌, refl, Bool, true, false, List, [], ◌∷◌, ◌++◌, length, drop, get_or, ltb}
use Rattle.std.proofs.Common.{sym, ◌∙◌, subst, lt-ltb, le-ltb, le-leb, ne_eqb, arith}
use Rattle.std.proofs.Math.Option.{none, some}
use Rattle.std.proofs.Math.Decide.{dec_lt, ℕ_discrete}
use Rattle.value.specs.Operators.{operands}
use Rattle.names.specs.Names.{Names, common, without}
use Rattle.machine_layout.specs.Kinds.{has_port, may_lack, inputs_of_kind, outputs_of_kind}
use Rattle.graph.specs.Assembly.{Gate, const, oper, T, F, M, E, IC, Graph, wire, nothing, beside, bind, gate, loop, free, member_of, Env, Operator, nth, copy_of, gate_of, copies_for, sharing, shared_links, first_use, second_use, named, spread, chain, chain_ends, ring_gate, ring, total, listed, links_of, outputs, operators_of}
use Rattle.graph.specs.Fit.{Fit, gate_inputs}
use Rattle.theory_reference.specs.Plugged.{Each}
use Rattle.theory_wiring.proofs.Conservation.{length-outputs}
use Rattle.theory_wiring.proofs.Ports.{each_append}
use Rattle.demand_view.specs.Sound.{PortOf, Formed}
use Rattle.demand_begin.specs.FormedGraphs.{ProperGate, Proper}

-- ---- one operator
pub copy-formed : (a b c : ℕ) → Formed (copy_of a b c)
unfolding nth has_port inputs_of_kind outputs_of_kind may_lack
copy-formed a b c = record { coded = tt; in1 = tt; in2 = tt; in3 = tt; out1 = tt; out2 = tt; out3 = tt; held = refl }

pub ring-formed : (b : Bool) (c i s o t : ℕ) → Formed (ring_gate b c i s o t)
unfolding ring_gate nth has_port inputs_of_kind outputs_of_kind may_lack
ring-formed true c i s o t = record { coded = tt; in1 = tt; in2 = tt; in3 = tt; out1 = tt; out2 = tt; out3 = tt; held = refl }
ring-formed false c i s o t = record { coded = tt; in1 = tt; in2 = tt; in3 = tt; out1 = tt; out2 = tt; out3 = tt; held = refl }

-- As many ports as links.
nth-port : (ins : List ℕ) (j : ℕ) (lacks : Bool) → PortOf (ltb j (length ins)) lacks (nth ins j)
unfolding nth
nth-port [] j lacks = rw (le-ltb j 0 (omega arith)) tt
nth-port (x ∷ ins) zero lacks = rw (lt-ltb 0 (suc (length ins)) (omega arith)) tt
nth-port (x ∷ ins) (suc j) lacks = go (dec_lt j (length ins)) (nth-port ins j lacks)
  where
    go : Dec (j < length ins) → PortOf (ltb j (length ins)) lacks (nth ins j) → PortOf (ltb (suc j) (suc (length ins))) lacks (nth ins j)
    go (yes h) p = subst (λ (b : Bool). PortOf b lacks (nth ins j)) (lt-ltb j (length ins) h ∙ sym (lt-ltb (suc j) (suc (length ins)) (omega arith))) p
    go (no h) p = subst (λ (b : Bool). PortOf b lacks (nth ins j)) (le-ltb j (length ins) (omega arith) ∙ sym (le-ltb (suc j) (suc (length ins)) (omega arith))) p

in-port : (ins : List ℕ) (k j : ℕ) (lacks : Bool) → length ins ≡ k → PortOf (ltb j k) lacks (nth ins j)
in-port ins k j lacks e = subst (λ (n : ℕ). PortOf (ltb j n) lacks (nth ins j)) e (nth-port ins j lacks)

-- "10 and 11 take one operand, the rest two."
operand-ports : (k : ℕ) → 1 ≤ k → k ≤ 11 → operands k ≡ inputs_of_kind k
unfolding operands inputs_of_kind
operand-ports k p q = go (dec_lt k 10)
  where
    go : Dec (k < 10) → operands k ≡ inputs_of_kind k
    go (yes h) = rw (ne_eqb k 10 (λ e. omega arith), ne_eqb k 11 (λ e. omega arith), le-leb k 9 (omega arith)) refl
    go (no h) = last (ℕ_discrete k 10)
      where
        last : Dec (k ≡ 10) → operands k ≡ inputs_of_kind k
        last (yes e) = rw e refl
        last (no n) = let e : k ≡ 11 = omega arith in rw e refl

operator-outputs : (k : ℕ) → k ≤ 11 → outputs_of_kind k ≡ 1
unfolding outputs_of_kind
operator-outputs k h = rw (ne_eqb k 13 (λ e. omega arith), ne_eqb k 18 (λ e. omega arith)) refl

pub gate-formed : (g : Gate) (ins : List ℕ) (n : ℕ) → ProperGate g → length ins ≡ gate_inputs g → Formed (gate_of g ins n)
unfolding gate_of gate_inputs has_port inputs_of_kind outputs_of_kind may_lack
gate-formed (const v) ins n p e =
    record { coded = tt; in1 = in-port ins 1 0 false e; in2 = in-port ins 1 1 false e; in3 = in-port ins 1 2 false e; out1 = tt; out2 = tt; out3 = tt; held = p }
gate-formed (oper k) ins n p e =
    let z : length ins ≡ inputs_of_kind k = e ∙ operand-ports k p.0 p.1 in
    let o : outputs_of_kind k ≡ 1 = operator-outputs k p.1 in
    record {
      coded = p;
      in1 = in-port ins (inputs_of_kind k) 0 (may_lack k 0) z;
      in2 = in-port ins (inputs_of_kind k) 1 (may_lack k 1) z;
      in3 = in-port ins (inputs_of_kind k) 2 (may_lack k 2) z;
      out1 = subst (λ (c : ℕ). PortOf (ltb 0 c) (may_lack k 3) (some n)) (sym o) tt;
      out2 = subst (λ (c : ℕ). PortOf (ltb 1 c) (may_lack k 4) none) (sym o) tt;
      out3 = subst (λ (c : ℕ). PortOf (ltb 2 c) (may_lack k 5) none) (sym o) tt;
      held = refl;
    }
gate-formed T ins n p e =
    record { coded = tt; in1 = in-port ins 2 0 false e; in2 = in-port ins 2 1 false e; in3 = in-port ins 2 2 false e; out1 = tt; out2 = tt; out3 = tt; held = refl }
gate-formed F ins n p e =
    record { coded = tt; in1 = in-port ins 2 0 false e; in2 = in-port ins 2 1 false e; in3 = in-port ins 2 2 false e; out1 = tt; out2 = tt; out3 = tt; held = refl }
gate-formed M ins n p e =
    record { coded = tt; in1 = in-port ins 3 0 false e; in2 = in-port ins 3 1 false e; in3 = in-port ins 3 2 false e; out1 = tt; out2 = tt; out3 = tt; held = refl }
gate-formed E ins n p e =
    record { coded = tt; in1 = in-port ins 2 0 false e; in2 = in-port ins 2 1 false e; in3 = in-port ins 2 2 false e; out1 = tt; out2 = tt; out3 = tt; held = refl }
gate-formed (IC true) ins n p e =
    record { coded = tt; in1 = in-port ins 3 0 false e; in2 = in-port ins 3 1 false e; in3 = in-port ins 3 2 false e; out1 = tt; out2 = tt; out3 = tt; held = refl }
gate-formed (IC false) ins n p e =
    record { coded = tt; in1 = in-port ins 3 0 false e; in2 = in-port ins 3 1 false e; in3 = in-port ins 3 2 false e; out1 = tt; out2 = refl; out3 = tt; held = refl }

-- ---- the operators of a graph
copies-formed : (xs : List ℕ) (env e₁ e₂ : Env) → Each Formed (copies_for xs env e₁ e₂)
unfolding copies_for
copies-formed [] env e₁ e₂ = tt
copies-formed (x ∷ xs) env e₁ e₂ = (copy-formed (env x) (e₁ x) (e₂ x), copies-formed xs env e₁ e₂)

sharing-formed : (f g : Names) (n : ℕ) (env : Env) → Each Formed (sharing f g n env)
unfolding sharing
sharing-formed f g n env = copies-formed (listed (common f g)) env (first_use f g n env) (second_use f g n env)

chain-formed : (k l n : ℕ) → Each Formed (chain l n k)
unfolding chain
chain-formed zero l n = tt
chain-formed (suc zero) l n = tt
chain-formed (suc (suc k)) l n = (copy-formed l n (suc n), chain-formed (suc k) (suc n) (suc (suc n)))

rings-formed : (xs : List ℕ) (ids : Names) (cs : List ℕ) (it st ow out : Env) → Each Formed (ring xs ids cs it st ow out)
unfolding ring
rings-formed [] ids cs it st ow out = tt
rings-formed (x ∷ xs) ids [] it st ow out = tt
rings-formed (x ∷ xs) ids (c ∷ cs) it st ow out = (ring-formed (ids x) c (it x) (st x) (ow x) (out x), rings-formed xs ids cs it st ow out)

pub graph-formed : (g : Graph) (n : ℕ) (env : Env) → Fit g → Proper g → Each Formed (operators_of g n env)
unfolding operators_of
graph-formed (wire x) n env fit proper = tt
graph-formed nothing n env fit proper = tt
graph-formed (beside a b) n env fit proper =
    let f : Names = free a in
    let g : Names = free b in
    let m : ℕ = n + shared_links f g in
    let A : List Operator = operators_of a m (first_use f g n env) in
    let B : List Operator = operators_of b (m + links_of a) (second_use f g n env) in
    each_append Formed (sharing f g n env) (A ++ B) (sharing-formed f g n env)
    (each_append Formed A B (graph-formed a m (first_use f g n env) fit.0 proper.0) (graph-formed b (m + links_of a) (second_use f g n env) fit.1 proper.1))
graph-formed (bind ns a b) n env fit proper =
    let f : Names = free a in
    let g : Names = without (free b) (member_of ns) in
    let m : ℕ = n + shared_links f g in
    let e₁ : Env = first_use f g n env in
    let link : Env = named ns (outputs a m e₁) (second_use f g n env) in
    let A : List Operator = operators_of a m e₁ in
    let B : List Operator = operators_of b (m + links_of a) link in
    each_append Formed (sharing f g n env) (A ++ B) (sharing-formed f g n env)
    (each_append Formed A B (graph-formed a m e₁ fit.0 proper.0) (graph-formed b (m + links_of a) link fit.1 proper.1))
graph-formed (gate g a) n env fit proper =
    each_append Formed (operators_of a n env) (gate_of g (outputs a n env) (n + links_of a) ∷ []) (graph-formed a n env fit.0 proper.1)
    (gate-formed g (outputs a n env) (n + links_of a) proper.0 (length-outputs a n env fit.0 ∙ fit.1), tt)
graph-formed (loop ns a b) n env fit proper =
    let f : Names = free a in
    let g : Names = without (free b) (member_of ns) in
    let m : ℕ = n + shared_links f g in
    let e₁ : Env = first_use f g n env in
    let s : ℕ = total (free b) in
    let o : ℕ = m + links_of a in
    let inner : Env = spread (free b) o in
    let outs : List ℕ = outputs b (o + s) inner in
    let it : ℕ = get_or outs 0 0 in
    let c : ℕ = o + s + links_of b in
    let A : List Operator = operators_of a m e₁ in
    let B : List Operator = operators_of b (o + s) inner in
    let C : List Operator = chain it c s in
    let R : List Operator =
    ring (listed (free b)) (member_of ns) (chain_ends it c s) (named ns (drop 1 outs) env) (named ns (outputs a m e₁) env) (second_use f g n env) inner in
    each_append Formed (sharing f g n env) (A ++ (B ++ (C ++ R))) (sharing-formed f g n env)
    (each_append Formed A (B ++ (C ++ R)) (graph-formed a m e₁ fit.0 proper.0)
    (each_append Formed B (C ++ R) (graph-formed b (o + s) inner fit.1 proper.1)
    (each_append Formed C R (chain-formed s it c)
    (rings-formed (listed (free b)) (member_of ns) (chain_ends it c s) (named ns (drop 1 outs) env) (named ns (outputs a m e₁) env) (second_use f g n env) inner))))
