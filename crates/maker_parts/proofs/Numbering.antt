-- The turns of the loop that numbers the names of a mask (src/lib: numbered).
use Prim.Native.Nat.{ℕ, suc, ◌+◌, ◌/◌, ◌%◌, ◌^◌, ◌≤◌, ◌<◌}
use mir.Val.{bool_byte}
use mathlib.Core.Path.{◌≡◌, refl, sym, ap, ◌∙◌}
use mathlib.Core.Bool.{Bool, true, false}
use mathlib.Core.List.{List}
use lib.ListN.{length, get_or, set}
use lib.Seq.{get_or-set_same, get_or-set_other}
use lib.Dec.{eqb}
use native.Mathlib.Omega.{arith}
use native.Mathlib.Decide.{ℕ_discrete}
use Rattle.names.specs.Names.{bit, size_from, names_in}
use Rattle.names.proofs.Counts.{size_from-suc}

-- the places below i have their links
abbrev pub NumberedTo : ℕ → ℕ → ℕ → List ℕ → Type 0
NumberedTo i k n e = (z : ℕ) → z < i → get_or e z 0 ≡ n + size_from z (names_in k)

pub numbered-turn : (i k n l : ℕ) (e : List ℕ) → i < length e → l ≡ n + size_from i (names_in k) → NumberedTo i k n e → NumberedTo (i + 1) k n (set e i l)
numbered-turn i k n l e h p q z j = go (ℕ_discrete z i)
  where
    go : Dec (z ≡ i) → get_or (set e i l) z 0 ≡ n + size_from z (names_in k)
    go (yes s) = ap (λ (y : ℕ). get_or (set e i l) y 0) s ∙ get_or-set_same e i l 0 h ∙ p ∙ ap (λ (y : ℕ). n + size_from y (names_in k)) (sym s)
    go (no s) = get_or-set_other e i z l 0 s ∙ q z (omega arith)

pub count_turn : (i k n l : ℕ) (b : Bool) → l ≡ n + size_from i (names_in k) → b ≡ eqb (k / 2 ^ i % 2) 1 → l + bit b ≡ n + size_from (i + 1) (names_in k)
unfolding names_in
count_turn i k n l b p q =
    let z : i + 1 ≡ suc i = omega arith in
    let s : size_from (suc i) (names_in k) ≡ size_from i (names_in k) + bit (names_in k i) = size_from-suc i (names_in k) in
    let d : bit b ≡ bit (names_in k i) = ap bit q in
    rw z (omega (arith, s, d))

-- what usize::from gives for a test
pub byte-bit : (b : Bool) → bool_byte b ≡ bit b
byte-bit true = refl
byte-bit false = refl

pub one_more : (n i l : ℕ) (b : Bool) → l ≤ n + i → l + bit b ≤ n + (i + 1)
one_more n i l true h = omega arith
one_more n i l false h = omega arith

pub numbered-all : (i k n : ℕ) (e : List ℕ) → 33 ≤ i → NumberedTo i k n e → (z : ℕ) → z < 33 → get_or e z 0 ≡ n + size_from z (names_in k)
numbered-all i k n e h p z l = p z (omega arith)
