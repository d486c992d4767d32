-- A machine stands in every memory that agrees with its own in the bytes that a machine needs: a call may be lent the memory in part or with more behind it
-- (document 01, "Running": "each push, fire, run or take is lent that memory as the call before left it"; 11 where less is lent). Assumes a sound graph.
use Rattle.std.specs.Prelude.{ℕ, zero, suc, ◌+◌, ◌*◌, ◌≤◌, ◌<◌, ◌≡◌, Bool, List, ◌++◌, length, get_or, take, drop, ltb}
use Rattle.std.proofs.Math.Path.{refl, ap₂}
use Rattle.std.proofs.Common.{sym, ap, ◌∙◌, subst, length-take, length-append, get_or-take, get_or-drop, ext_get_or, lt-ltb, le-leb, arith}
use Rattle.std.proofs.Math.ListN.{get_or-append}
use Rattle.value.specs.Operators.{pick}
use Rattle.value.specs.Bytes.{word_at}
use Rattle.formula.specs.Refusals.{number_of}
use Rattle.formula.specs.declared.Refusal.TheVariants.{Memory, Altered}
use Rattle.network.specs.Net.{Links}
use Rattle.machine_layout.specs.Layout.{links_at, input_kinds_at, inputs_of, number16, name_at, operator_at, register_at, size_of, link_at, need, capacity_in, capacity_of, part, stored_kinds}
use Rattle.machine_layout.specs.Fits.{stretch-fits}
use Rattle.machine_firing.specs.Parts.{part_length}
use Rattle.machine_valid.specs.Below.{and_both}
use Rattle.machine_valid.specs.Valid.{valid}
use Rattle.machine_calls.specs.Calls.{standing}
use Rattle.graph.specs.Assembly.{Operator}
use Rattle.graph.specs.Translation.{Made}
use Rattle.demand_view.specs.Sound.{Ith, Sound}
use Rattle.demand_view.specs.Stands.{Waits, Recorded, Registered, Stands}
use Rattle.demand_begin.proofs.Positions.{ith-inside}

-- ---- memories that agree up to a place
abbrev pub Agree : ℕ → List ℕ → List ℕ → Type 0
Agree n m k = (i : ℕ) → i < n → get_or k i 0 ≡ get_or m i 0

module _ (n : ℕ) (m k : List ℕ) (same : Agree n m k) where
  pub agree-number : (at : ℕ) → at + 2 ≤ n → number16 k at ≡ number16 m at
  unfolding number16
  agree-number at h = ap₂ (λ (x y : ℕ). x + 256 * y) (same at (omega arith)) (same (at + 1) (omega arith))

  pub agree-name : (at j : ℕ) → at + 2 * j + 2 ≤ n → name_at k at j ≡ name_at m at j
  unfolding name_at
  agree-name at j h = agree-number (at + 2 * j) h

  pub agree-word : (at : ℕ) → at + 5 ≤ n → word_at k at ≡ word_at m at
  unfolding word_at
  agree-word at h =
      let b0 = same at (omega arith) in
      let b1 = same (at + 1) (omega arith) in
      let b2 = same (at + 2) (omega arith) in
      let b3 = same (at + 3) (omega arith) in
      let b4 = same (at + 4) (omega arith) in
      rw (b0, b1, b2, b3, b4) refl

  pub agree-part : (base size : ℕ) → base + size ≤ n → base + size ≤ length m → base + size ≤ length k → part k base size ≡ part m base size
  agree-part base size h a b =
      let p : length (part k base size) ≡ size = part_length k base size b in
      let r : length (part m base size) ≡ size = part_length m base size a in
      ext_get_or 0 (part k base size) (part m base size) (p ∙ sym r)
      (λ i l.
      let z : i < size = subst (λ (s : ℕ). i < s) p l in
      get_or-take size (drop base k) i 0 z ∙ get_or-drop base k i 0 ∙ same (base + i) (omega arith)
      ∙ sym (get_or-take size (drop base m) i 0 z ∙ get_or-drop base m i 0)
      )

-- ---- the machine in such a memory
module _ (g : Made) (S : Sound g) (kinds : List ℕ) (capacity : ℕ) (m : List ℕ) (q : Links) (H : Stands g kinds capacity m q) (k : List ℕ) (long : need (size_of capacity) ≤ length k)
    (same : Agree (need (size_of capacity)) m k) where
  abbrev n : ℕ
  n = need (size_of capacity)

  recorded-there : (i : ℕ) (o : Operator) → Ith g.operators i o → Recorded k i o
  recorded-there i o at =
      let R : Recorded m i o = H.recorded i o at in
      let h : i < 1024 = let a = ith-inside g.operators i o at in omega (arith, S.few-operators) in
      record {
        kind = same (operator_at i) (omega arith) ∙ R.kind;
        in1 = agree-name n m k same (operator_at i + 2) 0 (omega arith) ∙ R.in1;
        in2 = agree-name n m k same (operator_at i + 2) 1 (omega arith) ∙ R.in2;
        in3 = agree-name n m k same (operator_at i + 2) 2 (omega arith) ∙ R.in3;
        out1 = agree-name n m k same (operator_at i + 2) 3 (omega arith) ∙ R.out1;
        out2 = agree-name n m k same (operator_at i + 2) 4 (omega arith) ∙ R.out2;
        out3 = agree-name n m k same (operator_at i + 2) 5 (omega arith) ∙ R.out3;
      }

  registered-there : (i : ℕ) (o : Operator) → Ith g.operators i o → Registered k q i o
  registered-there i o at =
      let G : Registered m q i o = H.registered i o at in
      let h : i < 1024 = let a = ith-inside g.operators i o at in omega (arith, S.few-operators) in
      record { register = G.register; fine = G.fine; word = agree-word n m k same (register_at i) (omega arith) ∙ G.word; held = G.held }

  kinds-there : stored_kinds k ≡ kinds
  kinds-there =
      let i : inputs_of m ≤ 32 = omega (arith, H.inputs_are, S.few-inputs) in
      ap (part k input_kinds_at) (same 5 (omega arith))
      ∙ agree-part n m k same input_kinds_at (inputs_of m) (omega (arith, i)) (omega (arith, i, H.long)) (omega (arith, i))
      ∙ H.kinds-are

  pub stands-there : Stands g kinds capacity k q
  stands-there =
      record {
        long = long;
        capacity-is = same 0 (omega arith) ∙ H.capacity-is;
        operators-are = agree-number n m k same 1 (omega arith) ∙ H.operators-are;
        links-are = agree-number n m k same 3 (omega arith) ∙ H.links-are;
        inputs_are = same 5 (omega arith) ∙ H.inputs_are;
        kinds-are = kinds-there;
        kinds-count = H.kinds-count;
        kinds-letters = H.kinds-letters;
        results-are = same 6 (omega arith) ∙ H.results-are;
        untaken-is = same 7 (omega arith) ∙ H.untaken-is;
        untaken-few = H.untaken-few;
        trigger-is = agree-number n m k same 8 (omega arith) ∙ H.trigger-is;
        input-links = λ j h. agree-name n m k same 10 j (omega (arith, S.few-inputs)) ∙ H.input-links j h;
        result-links = λ j h. agree-name n m k same 74 j (omega (arith, S.few-results)) ∙ H.result-links j h;
        recorded = recorded-there;
        registered = registered-there;
        waits = λ l h.
            let f = stretch-fits links_at (size_of capacity) l (omega (arith, S.few-links)) in
            subst (λ (s : List ℕ). Waits capacity s (q l))
            (sym (agree-part n m k same (link_at (size_of capacity) l) (size_of capacity) f (omega (arith, H.long)) (omega arith))) (H.waits l h);
        nowhere-empty = H.nowhere-empty;
      }

-- Lent in part, but no less than is needed.
pub stands-lent : (g : Made) → Sound g → (kinds : List ℕ) (capacity : ℕ) (m : List ℕ) (q : Links) → Stands g kinds capacity m q → (n : ℕ) → need (size_of capacity) ≤ n
    → Stands g kinds capacity (take n m) q
stands-lent g S kinds capacity m q H n h =
    stands-there g S kinds capacity m q H (take n m) (omega (arith, H.long, length-take n m)) (λ i l. get_or-take n m i 0 (omega arith))

-- Lent with more behind it.
pub stands-behind : (g : Made) → Sound g → (kinds : List ℕ) (capacity : ℕ) (m : List ℕ) (q : Links) → Stands g kinds capacity m q → (rest : List ℕ)
    → Stands g kinds capacity (m ++ rest) q
stands-behind g S kinds capacity m q H rest =
    stands-there g S kinds capacity m q H (m ++ rest) (omega (arith, H.long, length-append m rest)) (λ i l. get_or-append m rest 0 i (omega (arith, H.long)))

-- "a call lent too little gets 11"
pub short-refused : (g : Made) (kinds : List ℕ) (capacity : ℕ) (m : List ℕ) (q : Links) → 1 ≤ capacity → capacity ≤ 16 → Stands g kinds capacity m q → (n : ℕ)
    → n < need (size_of capacity) → standing (take n m) ≡ number_of Memory
unfolding standing capacity_in
short-refused g kinds capacity m q low high H zero h = refl
short-refused g kinds capacity m q low high H (suc n) h =
    let c : capacity_of (take (suc n) m) ≡ capacity =
    ap capacity_in (get_or-take (suc n) m 0 0 (omega arith) ∙ H.capacity-is)
    ∙ ap (λ (b : Bool). pick b capacity 1) (and_both (le-leb 1 capacity low) (le-leb capacity 16 high))
    in
    ap (λ (b : Bool). pick b (number_of Memory) (pick (valid (take (suc n) m)) 0 (number_of Altered)))
    (ap (λ (z : ℕ). ltb (length (take (suc n) m)) (need (size_of z))) c
    ∙ lt-ltb (length (take (suc n) m)) (need (size_of capacity)) (omega (arith, length-take (suc n) m)))
