-- Laws of specs/Ports.antt, and what only they need.
use Rattle.std.specs.Prelude.{ℕ, zero, suc, ◌<◌, ◌≡◌, Bool, true, false, List, [], ◌∷◌, ◌++◌, length}
use Rattle.std.proofs.Math.Path.{refl}
use Rattle.std.proofs.Common.{sym, ◌∙◌, subst, inl, inr, leb-true, arith}
use Rattle.std.proofs.lemmas.Bool.{false≢true}
use Rattle.std.proofs.Math.Option.{some}
use Rattle.value.specs.Operators.{pick, operands}
use Rattle.network.specs.Values.{one-operand}
use Rattle.network.specs.Rules.{Input, first as input₁, second as input₂, third as input₃}
use Rattle.network.specs.Uses.{In, inputs, has-input, operand-inputs}
use Rattle.graph.specs.Assembly.{Gate, const, oper, T, F, M, E, IC, gate_outputs, Operator, nth, copy_of, gate_of, ring_gate, up_from}
use Rattle.graph.specs.Fit.{gate_inputs}
use Rattle.theory_reference.specs.Plugged.{Each}
use Rattle.theory_reference.proofs.BehindGate.{in-up_from}
use Rattle.theory_wiring.proofs.Links.{gate-inputs, gate-outputs}
use Rattle.theory_wiring.proofs.Conservation.{small-gate}
use Rattle.theory_wiring.specs.Ports.{port, Linked, Ported, place}

pub each_append : (P : Operator → Type 0) (xs ys : List Operator) → Each P xs → Each P ys → Each P (xs ++ ys)
each_append P [] ys p q = q
each_append P (x ∷ xs) ys p q = (p.0, each_append P xs ys p.1 q)

-- ---- a copy
pub copy-ported : (a b c : ℕ) → (a ≡ b → ⊥) → (a ≡ c → ⊥) → Ported (copy_of a b c)
unfolding nth
copy-ported a b c p q = record { linked = linked; emits = (b, refl); apart = apart }
  where
    linked : (i : Input) → has-input 1 i ≡ true → Linked (port (copy_of a b c) i)
    linked input₁ h = (a, refl)
    linked input₂ h = absurd (false≢true h)
    linked input₃ h = absurd (false≢true h)

    apart : (l : ℕ) → In l (a ∷ []) → In l (b ∷ c ∷ []) → ⊥
    apart l (inl x) (inl y) = p (sym x ∙ y)
    apart l (inl x) (inr (inl y)) = q (sym x ∙ y)
    apart l (inl x) (inr (inr y)) = y
    apart l (inr x) y = x

-- ---- the gates of a loop
pub FM-ported : (c i s o t : ℕ) → (c ≡ t → ⊥) → (i ≡ t → ⊥) → (s ≡ t → ⊥) → Ported (ring_gate true c i s o t)
unfolding ring_gate nth
FM-ported c i s o t p q r = record { linked = linked; emits = (t, refl); apart = apart }
  where
    linked : (j : Input) → has-input 3 j ≡ true → Linked (port (ring_gate true c i s o t) j)
    linked input₁ h = (c, refl)
    linked input₂ h = (i, refl)
    linked input₃ h = (s, refl)

    apart : (l : ℕ) → In l (c ∷ i ∷ s ∷ []) → In l (t ∷ []) → ⊥
    apart l (inl x) (inl y) = p (sym x ∙ y)
    apart l (inr (inl x)) (inl y) = q (sym x ∙ y)
    apart l (inr (inr (inl x))) (inl y) = r (sym x ∙ y)
    apart l (inr (inr (inr x))) (inl y) = x
    apart l x (inr y) = y

pub FS-ported : (c i s o t : ℕ) → (c ≡ t → ⊥) → (o ≡ t → ⊥) → Ported (ring_gate false c i s o t)
unfolding ring_gate nth
FS-ported c i s o t p q = record { linked = linked; emits = (t, refl); apart = apart }
  where
    linked : (j : Input) → has-input 2 j ≡ true → Linked (port (ring_gate false c i s o t) j)
    linked input₁ h = (c, refl)
    linked input₂ h = (o, refl)
    linked input₃ h = absurd (false≢true h)

    apart : (l : ℕ) → In l (c ∷ o ∷ []) → In l (t ∷ []) → ⊥
    apart l (inl x) (inl y) = p (sym x ∙ y)
    apart l (inr (inl x)) (inl y) = q (sym x ∙ y)
    apart l (inr (inr x)) (inl y) = x
    apart l x (inr y) = y

-- ---- a gate
nth-some : (ins : List ℕ) (i : ℕ) → i < length ins → Linked (nth ins i)
unfolding nth
nth-some [] i h = absurd (omega arith)
nth-some (x ∷ ins) zero h = (x, refl)
nth-some (x ∷ ins) (suc i) h = nth-some ins i (omega arith)

has-place : (m : ℕ) (i : Input) → has-input m i ≡ true → place i < m
has-place m input₁ h = leb-true 1 m h
has-place m input₂ h = leb-true 2 m h
has-place m input₃ h = leb-true 3 m h

ins-linked : (ins : List ℕ) (m : ℕ) → length ins ≡ m → (i : Input) → has-input m i ≡ true → Linked (nth ins (place i))
ins-linked ins m e i h = nth-some ins (place i) (omega (arith, has-place m i h))

operands-are : (b : Bool) → pick b 1 2 ≡ operand-inputs b
operands-are true = refl
operands-are false = refl

module _ (ins : List ℕ) (n : ℕ) where
  gate-linked : (g : Gate) → length ins ≡ gate_inputs g → (i : Input) → has-input (inputs (gate_of g ins n).kind) i ≡ true → Linked (port (gate_of g ins n) i)
  unfolding gate_of gate_inputs operands
  gate-linked (const v) e input₁ h = ins-linked ins 1 e input₁ h
  gate-linked (const v) e input₂ h = ins-linked ins 1 e input₂ h
  gate-linked (const v) e input₃ h = ins-linked ins 1 e input₃ h
  gate-linked (oper k) e input₁ h = ins-linked ins (operand-inputs (one-operand k)) (e ∙ operands-are (one-operand k)) input₁ h
  gate-linked (oper k) e input₂ h = ins-linked ins (operand-inputs (one-operand k)) (e ∙ operands-are (one-operand k)) input₂ h
  gate-linked (oper k) e input₃ h = ins-linked ins (operand-inputs (one-operand k)) (e ∙ operands-are (one-operand k)) input₃ h
  gate-linked T e input₁ h = ins-linked ins 2 e input₁ h
  gate-linked T e input₂ h = ins-linked ins 2 e input₂ h
  gate-linked T e input₃ h = ins-linked ins 2 e input₃ h
  gate-linked F e input₁ h = ins-linked ins 2 e input₁ h
  gate-linked F e input₂ h = ins-linked ins 2 e input₂ h
  gate-linked F e input₃ h = ins-linked ins 2 e input₃ h
  gate-linked M e input₁ h = ins-linked ins 3 e input₁ h
  gate-linked M e input₂ h = ins-linked ins 3 e input₂ h
  gate-linked M e input₃ h = ins-linked ins 3 e input₃ h
  gate-linked E e input₁ h = ins-linked ins 2 e input₁ h
  gate-linked E e input₂ h = ins-linked ins 2 e input₂ h
  gate-linked E e input₃ h = ins-linked ins 2 e input₃ h
  gate-linked (IC true) e input₁ h = ins-linked ins 3 e input₁ h
  gate-linked (IC true) e input₂ h = ins-linked ins 3 e input₂ h
  gate-linked (IC true) e input₃ h = ins-linked ins 3 e input₃ h
  gate-linked (IC false) e input₁ h = ins-linked ins 3 e input₁ h
  gate-linked (IC false) e input₂ h = ins-linked ins 3 e input₂ h
  gate-linked (IC false) e input₃ h = ins-linked ins 3 e input₃ h

  gate-emits : (g : Gate) → (gate_of g ins n).out1 ≡ some n
  unfolding gate_of
  gate-emits (const v) = refl
  gate-emits (oper k) = refl
  gate-emits T = refl
  gate-emits F = refl
  gate-emits M = refl
  gate-emits E = refl
  gate-emits (IC true) = refl
  gate-emits (IC false) = refl

  pub gate-ported : (g : Gate) → length ins ≡ gate_inputs g → ((l : ℕ) → In l ins → l < n) → Ported (gate_of g ins n)
  gate-ported g e low =
      record {
        linked = gate-linked g e;
        emits = (n, gate-emits g);
        apart = λ l p q.
            let i : In l ins = subst (In l) (gate-inputs g ins n (omega (arith, e, small-gate g))) p in
            let o : In l (up_from n (gate_outputs g)) = subst (In l) (gate-outputs g ins n) q in
            omega (arith, low l i, in-up_from n (gate_outputs g) l o);
      }
