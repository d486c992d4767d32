-- Laws of specs/WrittenRecords.antt, and what only they need.
use Rattle.std.specs.Prelude.{ℕ, zero, suc, ◌+◌, ◌*◌, ◌/◌, ◌%◌, ◌≤◌, ◌<◌, ◌≡◌, ◌⊎◌, List, [], ◌∷◌, length}
use Rattle.std.proofs.Math.Path.{refl, ap, ap₂}
use Rattle.std.proofs.Common.{sym, ◌∙◌, subst, inl, inr}
use native.Mathlib.Omega.{arith}
use Rattle.std.proofs.Math.ListN.{get_or}
use Rattle.std.proofs.Math.Seq.{length-sets}
use Rattle.value.specs.Bytes.{word_at}
use Rattle.value.proofs.Words.{word-stored, byte-before}
use Rattle.machine_layout.specs.Layout.{number16, name_at, operator_at, kind_byte, port_of, register_at}
use Rattle.machine_layout.specs.Record.{record_bytes, recorded, placed}
use Rattle.machine_layout.specs.declared.Operator.{Operator as Record}
use Rattle.machine_firing.specs.LinkLaws.{byte-kept}
use Rattle.graph.specs.Assembly.{Operator}
use Rattle.maker_laid.specs.Encode.{held_of, encode, encoded, written, length-placed}
use Rattle.machine_start.specs.ReadBack.{Beside, row_kept, row_read}
use Rattle.demand_view.specs.Sound.{Ith}
use Rattle.demand_begin.specs.WrittenRecords.{Holds-record, Same-operator, Elsewhere}

module _ (m k : List ℕ) (i : ℕ) (same : Same-operator m k i) where
  same-port : (p : ℕ) → p < 6 → port_of k i p ≡ port_of m i p
  unfolding name_at number16
  same-port p h =
      let a : operator_at i + 2 + 2 * p ≡ operator_at i + (2 + 2 * p) = omega arith in
      let b : operator_at i + 2 + 2 * p + 1 ≡ operator_at i + (3 + 2 * p) = omega arith in
      ap₂ (λ (x y : ℕ). x + 256 * y) (rw a (same.record-bytes (2 + 2 * p) (omega arith))) (rw b (same.record-bytes (3 + 2 * p) (omega arith)))

  same_kind_lem : kind_byte k i ≡ kind_byte m i
  same_kind_lem = let z : operator_at i + 0 ≡ operator_at i = omega arith in ap (λ (a : ℕ). get_or k a 0) (sym z) ∙ same.record-bytes 0 (omega arith) ∙ ap (λ (a : ℕ). get_or m a 0) z

  same_word : word_at k (register_at i) ≡ word_at m (register_at i)
  unfolding word_at
  same_word =
      let z : register_at i + 0 ≡ register_at i = omega arith in
      let b0 : get_or k (register_at i) 0 ≡ get_or m (register_at i) 0 =
      ap (λ (a : ℕ). get_or k a 0) (sym z) ∙ same.register-bytes 0 (omega arith) ∙ ap (λ (a : ℕ). get_or m a 0) z in
      let b1 = same.register-bytes 1 (omega arith) in
      let b2 = same.register-bytes 2 (omega arith) in
      let b3 = same.register-bytes 3 (omega arith) in
      let b4 = same.register-bytes 4 (omega arith) in
      rw (b0, b1, b2, b3, b4) refl

  pub record-kept : (r : Record) → Holds-record m i r → Holds-record k i r
  record-kept r h =
      record {
        kind = same_kind_lem ∙ h.kind;
        in1 = same-port 0 (omega arith) ∙ h.in1;
        in2 = same-port 1 (omega arith) ∙ h.in2;
        in3 = same-port 2 (omega arith) ∙ h.in3;
        out1 = same-port 3 (omega arith) ∙ h.out1;
        out2 = same-port 4 (omega arith) ∙ h.out2;
        out3 = same-port 5 (omega arith) ∙ h.out3;
        word = same_word ∙ h.word;
      }

-- ---- one operator
module _ (m : List ℕ) (i : ℕ) (r : Record) (few : i < 1024) (long : 21760 ≤ length m) where
  abbrev lined : List ℕ
  lined = recorded m (operator_at i) r

  length-lined : length (recorded m (operator_at i) r) ≡ length m
  unfolding recorded
  length-lined = length-sets m (operator_at i) (record_bytes r)

  record-byte : (j : ℕ) → j < 16 → get_or (placed m i r) (operator_at i + j) 0 ≡ get_or (record_bytes r) j 0
  unfolding placed recorded record_bytes
  record-byte j h =
      byte-before lined (register_at i) r.register (operator_at i + j) (omega arith) ∙ row_read (record_bytes r) m (operator_at i) j (omega arith) h

  port-read : (p x : ℕ) → p < 6 → get_or (record_bytes r) (2 + 2 * p) 0 ≡ x % 256 → get_or (record_bytes r) (3 + 2 * p) 0 ≡ x / 256 → port_of (placed m i r) i p ≡ x
  unfolding name_at number16
  port-read p x h low high =
      let a : operator_at i + 2 + 2 * p ≡ operator_at i + (2 + 2 * p) = omega arith in
      let b : operator_at i + 2 + 2 * p + 1 ≡ operator_at i + (3 + 2 * p) = omega arith in
      let f : get_or (placed m i r) (operator_at i + 2 + 2 * p) 0 ≡ x % 256 = rw a (record-byte (2 + 2 * p) (omega arith) ∙ low) in
      let s : get_or (placed m i r) (operator_at i + 2 + 2 * p + 1) 0 ≡ x / 256 = rw b (record-byte (3 + 2 * p) (omega arith) ∙ high) in
      ap₂ (λ (y z : ℕ). y + 256 * z) f s ∙ omega arith

  pub placed-read : r.register < 1099511627776 → Holds-record (placed m i r) i r
  unfolding record_bytes placed
  placed-read s =
      let z : operator_at i + 0 ≡ operator_at i = omega arith in
      record {
        kind = ap (λ (a : ℕ). get_or (placed m i r) a 0) (sym z) ∙ record-byte 0 (omega arith);
        in1 = port-read 0 r.in1 (omega arith) refl refl;
        in2 = port-read 1 r.in2 (omega arith) refl refl;
        in3 = port-read 2 r.in3 (omega arith) refl refl;
        out1 = port-read 3 r.out1 (omega arith) refl refl;
        out2 = port-read 4 r.out2 (omega arith) refl refl;
        out3 = port-read 5 r.out3 (omega arith) refl refl;
        word = word-stored lined (register_at i) r.register (omega (arith, length-lined)) s;
      }

pub placed-kept : (m : List ℕ) (i : ℕ) (r : Record) (b : ℕ) → Beside (operator_at i) 16 b → Beside (register_at i) 5 b → get_or (placed m i r) b 0 ≡ get_or m b 0
unfolding placed recorded record_bytes
placed-kept m i r b p q = byte-kept (recorded m (operator_at i) r) (register_at i) r.register b q ∙ row_kept (record_bytes r) m (operator_at i) b p

pub written-kept : (rs : List Record) (m : List ℕ) (n k b : ℕ) → n + length rs ≤ k → Elsewhere n k b → get_or (written m n rs) b 0 ≡ get_or m b 0
unfolding written
written-kept [] m n k b h e = refl
written-kept (r ∷ rs) m n k b h e =
    written-kept rs (placed m n r) (suc n) k b (omega arith) (record { records = onward-record e.records; registers = onward-register e.registers })
    ∙ placed-kept m n r b (beside-record e.records) (beside-register e.registers)
  where
    onward-record : (b < operator_at n) ⊎ (operator_at k ≤ b) → (b < operator_at (suc n)) ⊎ (operator_at k ≤ b)
    onward-record (inl p) = inl (omega arith)
    onward-record (inr p) = inr p

    onward-register : (b < register_at n) ⊎ (register_at k ≤ b) → (b < register_at (suc n)) ⊎ (register_at k ≤ b)
    onward-register (inl p) = inl (omega arith)
    onward-register (inr p) = inr p

    beside-record : (b < operator_at n) ⊎ (operator_at k ≤ b) → Beside (operator_at n) 16 b
    beside-record (inl p) = inl p
    beside-record (inr p) = inr (omega arith)

    beside-register : (b < register_at n) ⊎ (register_at k ≤ b) → Beside (register_at n) 5 b
    beside-register (inl p) = inl p
    beside-register (inr p) = inr (omega arith)

-- What is written behind an operator leaves it as it is.
later_same : (rs : List Record) (m : List ℕ) (n : ℕ) → suc n + length rs ≤ 1024 → Same-operator m (written m (suc n) rs) n
later_same rs m n h =
    record {
      record-bytes = λ j l. written-kept rs m (suc n) 1024 (operator_at n + j) h (record { records = inl (omega arith); registers = inl (omega arith) });
      register-bytes = λ j l. written-kept rs m (suc n) 1024 (register_at n + j) h (record { records = inr (omega arith); registers = inl (omega arith) });
    }

length-encoded : (os : List Operator) → length (encoded os) ≡ length os
length-encoded [] = refl
length-encoded (o ∷ os) = ap suc (length-encoded os)

pub written_read : (os : List Operator) (m : List ℕ) (n : ℕ) → n + length os ≤ 1024 → 21760 ≤ length m → ((i : ℕ) (o : Operator) → Ith os i o → held_of o.held < 1099511627776)
    → (i : ℕ) (o : Operator) → Ith os i o → Holds-record (written m n (encoded os)) (n + i) (encode o)
unfolding written
written_read [] m n h l s i o e = absurd e
written_read (x ∷ os) m n h l s zero o e =
    let z : n + 0 ≡ n = omega arith in
    let p : Holds-record (placed m n (encode x)) n (encode x) = placed-read m n (encode x) (omega arith) l (s zero x refl) in
    let w : Holds-record (written (placed m n (encode x)) (suc n) (encoded os)) n (encode x) =
    record-kept (placed m n (encode x)) (written (placed m n (encode x)) (suc n) (encoded os)) n
    (later_same (encoded os) (placed m n (encode x)) n (omega (arith, length-encoded os))) (encode x) p in
    subst (λ (y : Operator). Holds-record (written (placed m n (encode x)) (suc n) (encoded os)) (n + 0) (encode y)) e
    (subst (λ (k : ℕ). Holds-record (written (placed m n (encode x)) (suc n) (encoded os)) k (encode x)) (sym z) w)
written_read (x ∷ os) m n h l s (suc i) o e =
    let z : suc n + i ≡ n + suc i = omega arith in
    subst (λ (k : ℕ). Holds-record (written (placed m n (encode x)) (suc n) (encoded os)) k (encode o)) z
    (written_read os (placed m n (encode x)) (suc n) (omega arith) (omega (arith, length-placed m n (encode x))) (λ j y f. s (suc j) y f) i o e)
