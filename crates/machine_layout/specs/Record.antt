-- An operator's record as data and as bytes, for whoever writes a graph into memory. Assumes nothing.
use Rattle.std.specs.Prelude.{ℕ, suc, ◌+◌, ◌/◌, ◌%◌, ◌<◌, List, [], ◌∷◌, ◌≡◌, refl, set}
use Rattle.std.proofs.Common.{arith}
use Rattle.std.proofs.lemmas.List.Edits.{sets}
use Rattle.value.specs.Bytes.{stored}
use Rattle.machine_layout.specs.Layout.{operator_at, register_at, stored16}
use Rattle.machine_layout.specs.declared.Operator.{Operator}

-- kind, a free byte, six links of two bytes, two free bytes
unfoldable pub record_bytes : Operator → List ℕ
record_bytes o =
    o.kind ∷ 0
    ∷ o.in1 % 256 ∷ o.in1 / 256 ∷ o.in2 % 256 ∷ o.in2 / 256 ∷ o.in3 % 256 ∷ o.in3 / 256
    ∷ o.out1 % 256 ∷ o.out1 / 256 ∷ o.out2 % 256 ∷ o.out2 / 256 ∷ o.out3 % 256 ∷ o.out3 / 256
    ∷ 0 ∷ 0 ∷ []

-- the bytes with a record written from a place on
unfoldable pub recorded : List ℕ → ℕ → Operator → List ℕ
unfolding record_bytes
recorded m at o = sets m at (record_bytes o)

-- the memory with operator i written: its record and its register
unfoldable pub placed : List ℕ → ℕ → Operator → List ℕ
placed m i o = stored (recorded m (operator_at i) o) (register_at i) o.register

-- ---- a record is eight figures of two bytes

-- the kind's figure is below 256
pub by-figures : (m : List ℕ) (at : ℕ) (o : Operator) → o.kind < 256 →
    recorded m at o
    ≡ stored16 (stored16 (stored16 (stored16 (stored16 (stored16 (stored16 (stored16 m at o.kind) (at + 2) o.in1) (at + 4) o.in2) (at + 6) o.in3) (at + 8) o.out1) (at + 10) o.out2) (at + 12) o.out3) (at + 14) 0
unfolding recorded stored16
by-figures m at o h =
    let k : o.kind % 256 ≡ o.kind = omega arith in
    let z : o.kind / 256 ≡ 0 = omega arith in
    let p1 : at + 1 ≡ suc at = omega arith in
    let p2 : at + 2 ≡ suc (suc at) = omega arith in
    let p3 : suc (suc at) + 1 ≡ suc (suc (suc at)) = omega arith in
    let p4 : at + 4 ≡ suc (suc (suc (suc at))) = omega arith in
    let p5 : suc (suc (suc (suc at))) + 1 ≡ suc (suc (suc (suc (suc at)))) = omega arith in
    let p6 : at + 6 ≡ suc (suc (suc (suc (suc (suc at))))) = omega arith in
    let p7 : suc (suc (suc (suc (suc (suc at))))) + 1 ≡ suc (suc (suc (suc (suc (suc (suc at)))))) = omega arith in
    let p8 : at + 8 ≡ suc (suc (suc (suc (suc (suc (suc (suc at))))))) = omega arith in
    let p9 : suc (suc (suc (suc (suc (suc (suc (suc at))))))) + 1 ≡ suc (suc (suc (suc (suc (suc (suc (suc (suc at)))))))) = omega arith in
    let q0 : at + 10 ≡ suc (suc (suc (suc (suc (suc (suc (suc (suc (suc at))))))))) = omega arith in
    let q1 : suc (suc (suc (suc (suc (suc (suc (suc (suc (suc at))))))))) + 1 ≡ suc (suc (suc (suc (suc (suc (suc (suc (suc (suc (suc at)))))))))) = omega arith in
    let q2 : at + 12 ≡ suc (suc (suc (suc (suc (suc (suc (suc (suc (suc (suc (suc at))))))))))) = omega arith in
    let q3 : suc (suc (suc (suc (suc (suc (suc (suc (suc (suc (suc (suc at))))))))))) + 1 ≡ suc (suc (suc (suc (suc (suc (suc (suc (suc (suc (suc (suc (suc at)))))))))))) = omega arith in
    let q4 : at + 14 ≡ suc (suc (suc (suc (suc (suc (suc (suc (suc (suc (suc (suc (suc (suc at))))))))))))) = omega arith in
    let q5 : suc (suc (suc (suc (suc (suc (suc (suc (suc (suc (suc (suc (suc (suc at))))))))))))) + 1 ≡ suc (suc (suc (suc (suc (suc (suc (suc (suc (suc (suc (suc (suc (suc (suc at)))))))))))))) = omega arith in
    rw (k, z, p1, p2, p3, p4, p5, p6, p7, p8, p9, q0, q1, q2, q3, q4, q5) refl
