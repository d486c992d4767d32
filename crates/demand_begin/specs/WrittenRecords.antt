-- What is read from a memory into which the operators of a graph were written (maker_laid/specs/Encode: written; machine_layout/specs/Record: placed): each has its own record and
-- register, and all other bytes are as they were. Assumes at most 1,024 operators and a memory that has room for them.
use Rattle.std.specs.Prelude.{ℕ, zero, suc, ◌+◌, ◌*◌, ◌/◌, ◌%◌, ◌≤◌, ◌<◌, ◌≡◌, ◌⊎◌, List, [], ◌∷◌, length}
use native.Mathlib.Omega.{arith}
use Rattle.std.proofs.Math.ListN.{get_or}
use Rattle.value.specs.Bytes.{word_at}
use Rattle.machine_layout.specs.Layout.{number16, name_at, operator_at, kind_byte, port_of, register_at}
use Rattle.machine_layout.specs.Record.{record_bytes, recorded, placed}
use Rattle.machine_layout.specs.declared.Operator.{Operator as Record}
use Rattle.machine_firing.specs.LinkLaws.{byte-kept}
use Rattle.graph.specs.Assembly.{Operator}
use Rattle.maker_laid.specs.Encode.{held_of, encode, encoded, written, length-placed}
use Rattle.machine_start.specs.ReadBack.{Beside, row_kept, row_read}
use Rattle.demand_view.specs.Sound.{Ith}

-- Operator i of a memory is the one of a record.
pub record Holds-record (m : List ℕ) (i : ℕ) (r : Record) : Type 0 where
  pub kind : kind_byte m i ≡ r.kind
  pub in1 : port_of m i 0 ≡ r.in1
  pub in2 : port_of m i 1 ≡ r.in2
  pub in3 : port_of m i 2 ≡ r.in3
  pub out1 : port_of m i 3 ≡ r.out1
  pub out2 : port_of m i 4 ≡ r.out2
  pub out3 : port_of m i 5 ≡ r.out3
  pub word : word_at m (register_at i) ≡ r.register

-- ---- bytes elsewhere change nothing
pub record Same-operator (m k : List ℕ) (i : ℕ) : Type 0 where
  pub record-bytes : (j : ℕ) → j < 16 → get_or k (operator_at i + j) 0 ≡ get_or m (operator_at i + j) 0
  pub register-bytes : (j : ℕ) → j < 5 → get_or k (register_at i + j) 0 ≡ get_or m (register_at i + j) 0

-- ---- operators in a row
-- A byte of no operator from number n up to below number k.
pub record Elsewhere (n k b : ℕ) : Type 0 where
  pub records : (b < operator_at n) ⊎ (operator_at k ≤ b)
  pub registers : (b < register_at n) ⊎ (register_at k ≤ b)
