-- The operators of a graph (graph/specs/Assembly) as records of the machine's memory (machine_layout/specs/Record), and the memory with the records of a
-- list written one after another. Document 01, "The graph": "The numbering of operators .. chosen once": an operator's number is its place in
-- the list. Assumes nothing.
use Rattle.std.specs.Prelude.{ℕ, suc, ◌+◌, ◌≡◌, refl, List, [], ◌∷◌, ◌++◌, map, length, set}
use Rattle.std.proofs.Common.{sym, ap, ◌∙◌, length-set, arith}
use Rattle.std.proofs.Math.Option.{Option, none, some}
use Rattle.std.proofs.lemmas.List.Edits.{sets}
use Rattle.value.specs.Bytes.{word_of, word_bytes, stored}
use Rattle.network.specs.Rules.{Register}
use Rattle.machine_layout.specs.Layout.{no_link, operator_at, register_at}
use Rattle.machine_layout.specs.Kinds.{byte_of}
use Rattle.machine_layout.specs.Record.{record_bytes, recorded, placed}
use Rattle.machine_layout.specs.declared.Operator.{Operator as Record}
use Rattle.graph.specs.Assembly.{Operator}

-- a port without a link, or with one
abbrev pub port_of : Option ℕ → ℕ
port_of none = no_link
port_of (some l) = l

-- the register before the first firing: a constant's value, else nothing
abbrev pub held_of : Register → ℕ
held_of none = 0
held_of (some v) = word_of v

abbrev pub encode : Operator → Record
encode o =
    record {
      kind = byte_of o.kind;
      in1 = port_of o.in1;
      in2 = port_of o.in2;
      in3 = port_of o.in3;
      out1 = port_of o.out1;
      out2 = port_of o.out2;
      out3 = port_of o.out3;
      register = held_of o.held;
    }

abbrev pub encoded : List Operator → List Record
encoded os = map encode os

-- The memory with records written from operator m on.
unfoldable pub written : List ℕ → ℕ → List Record → List ℕ
unfolding placed
written mem m [] = mem
written mem m (o ∷ os) = written (placed mem m o) (suc m) os

-- ---- laws

pub written_none : (mem : List ℕ) (m : ℕ) → written mem m [] ≡ mem
unfolding written
written_none mem m = refl

pub written_one : (mem : List ℕ) (m : ℕ) (o : Record) → written mem m (o ∷ []) ≡ placed mem m o
unfolding written
written_one mem m o = refl

pub written-more : (mem : List ℕ) (m : ℕ) (o : Record) (os : List Record) → written mem m (o ∷ os) ≡ written (placed mem m o) (suc m) os
unfolding written
written-more mem m o os = refl

pub written-append : (xs ys : List Record) (mem : List ℕ) (m : ℕ) → written mem m (xs ++ ys) ≡ written (written mem m xs) (m + length xs) ys
unfolding written
written-append [] ys mem m = let z : m + 0 ≡ m = omega arith in rw z refl
written-append (x ∷ xs) ys mem m =
    let z : m + suc (length xs) ≡ suc m + length xs = omega arith in
    written-append xs ys (placed mem m x) (suc m) ∙ ap (λ (k : ℕ). written (written (placed mem m x) (suc m) xs) k ys) (sym z)

length-sets : (vs l : List ℕ) (i : ℕ) → length (sets l i vs) ≡ length l
length-sets [] l i = refl
length-sets (v ∷ vs) l i = length-sets vs (set l i v) (suc i) ∙ length-set l i v

pub length-placed : (mem : List ℕ) (m : ℕ) (o : Record) → length (placed mem m o) ≡ length mem
unfolding placed recorded stored
length-placed mem m o =
    length-sets (word_bytes o.register) (sets mem (operator_at m) (record_bytes o)) (register_at m)
    ∙ length-sets (record_bytes o) mem (operator_at m)

pub length-written : (os : List Record) (mem : List ℕ) (m : ℕ) → length (written mem m os) ≡ length mem
unfolding written
length-written [] mem m = refl
length-written (o ∷ os) mem m = length-written os (placed mem m o) (suc m) ∙ length-placed mem m o
