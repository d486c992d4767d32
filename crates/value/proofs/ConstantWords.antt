-- Which words are the byte form of a value in the range of a sheet's constants, by their tags. Assumes nothing.
use Prim.Native.Nat.{ℕ, zero, suc, ◌/◌, ◌%◌, ◌≤◌}
use mathlib.Core.Path.{◌≡◌, refl, sym, ap, ◌∙◌}
use mathlib.Core.Bool.{Bool, true, false}
use mathlib.Core.Option.{some, none}
use native.Mathlib.Omega.{arith}
use borrow.Author.Tests.{ne_eqb, le-ltb, lt-leb, ltb-true, ltb-false}
use lib.Dec.{eqb, ltb, leb}
use lib.Ieee.{binary32, of_bits}
use lib.Ieee.Scale.{finite}
use mir.Syntax.{w32}
use mir.Val.{to_z}
use Rattle.value.specs.declared.Reason.TheVariants.{ZeroDivisor, OutOfRange, Other}
use Rattle.value.specs.declared.Value.TheVariants.{Whole, Err}
use Rattle.value.specs.Operators.{pick}
use Rattle.value.specs.Bytes.{value_of, whole_of, truth_of, err_of, float_of}
use Rattle.value.specs.Constants.{is_whole_constant, in_constant_range}
use Rattle.value.proofs.Sign.{high, low-z}
use Rattle.value.proofs.Floats.{finite-bits}
use Rattle.value.proofs.Words.{tag_one, tag-two, tag-four, pattern-finite, pattern-infinite, pattern-large, pattern-back}

whole-bits : (bits : ℕ) → leb bits 999999 ≡ in_constant_range (whole_of bits)
unfolding whole_of
whole-bits bits = go (ltb bits 2147483648) refl (ltb bits 4294967296) refl
  where
    go : (s : Bool) → ltb bits 2147483648 ≡ s → (t : Bool) → ltb bits 4294967296 ≡ t → leb bits 999999 ≡ in_constant_range (pick t (some (Whole (to_z w32 bits))) none)
    go true p true q = ap is_whole_constant (sym (low-z bits (ltb-true bits 2147483648 p)))
    go true p false q = absurd (omega (arith, ltb-true bits 2147483648 p, ltb-false bits 4294967296 q))
    go false p true q =
        let l = ltb-false bits 2147483648 p in
        lt-leb bits 999999 (omega (arith, l)) ∙ ap is_whole_constant (sym (high bits l (ltb-true bits 4294967296 q)))
    go false p false q = let l = ltb-false bits 2147483648 p in lt-leb bits 999999 (omega (arith, l))

truth-bits : (bits : ℕ) → ltb bits 2 ≡ in_constant_range (truth_of bits)
unfolding truth_of
truth-bits zero = refl
truth-bits (suc zero) = refl
truth-bits (suc (suc n)) = simp (le-ltb (suc (suc n)) 2 (omega arith), ne_eqb (suc (suc n)) 0 (λ e. omega arith), ne_eqb (suc (suc n)) 1 (λ e. omega arith))

err-bits : (bits : ℕ) → false ≡ in_constant_range (err_of bits)
unfolding err_of
err-bits bits = go (eqb bits 0) (eqb bits 1) (eqb bits 2)
  where
    go : (a b c : Bool) → false ≡ in_constant_range (pick a (some (Err Other)) (pick b (some (Err ZeroDivisor)) (pick c (some (Err OutOfRange)) none)))
    go true b c = refl
    go false true c = refl
    go false false true = refl
    go false false false = refl

float-bits : (bits : ℕ) → leb bits 1148846064 ≡ in_constant_range (float_of bits)
float-bits bits = go (finite (of_bits binary32 bits)) refl (ltb bits 4294967296) refl
  where
    beyond : 2139095040 ≤ bits → float_of bits ≡ none → leb bits 1148846064 ≡ in_constant_range (float_of bits)
    beyond l e = lt-leb bits 1148846064 (omega arith) ∙ ap in_constant_range (sym e)

    go : (s : Bool) → finite (of_bits binary32 bits) ≡ s → (t : Bool) → ltb bits 4294967296 ≡ t → leb bits 1148846064 ≡ in_constant_range (float_of bits)
    go true p true q =
        let l = ltb-true bits 4294967296 q in
        ap (λ (n : ℕ). leb n 1148846064) (sym (pattern-back bits l p)) ∙ ap in_constant_range (sym (pattern-finite bits l p))
    go true p false q = let l = ltb-false bits 4294967296 q in beyond (omega (arith, l)) (pattern-large bits l)
    go false p t q =
        let l = ltb-false (bits % 2147483648) 2139095040 (sym (finite-bits bits) ∙ p) in
        beyond (omega (arith, l)) (pattern-infinite bits p)

module _ (w : ℕ) where
  pub whole-constant : w % 256 ≡ 1 → leb (w / 256) 999999 ≡ in_constant_range (value_of w)
  whole-constant e = whole-bits (w / 256) ∙ ap in_constant_range (sym (tag_one w e))

  pub truth-constant : w % 256 ≡ 2 → ltb (w / 256) 2 ≡ in_constant_range (value_of w)
  truth-constant e = truth-bits (w / 256) ∙ ap in_constant_range (sym (tag-two w e))

  pub float-constant : w % 256 ≡ 4 → leb (w / 256) 1148846064 ≡ in_constant_range (value_of w)
  float-constant e = float-bits (w / 256) ∙ ap in_constant_range (sym (tag-four w e))

  pub no-constant : (w % 256 ≡ 1 → ⊥) → (w % 256 ≡ 2 → ⊥) → (w % 256 ≡ 4 → ⊥) → false ≡ in_constant_range (value_of w)
  unfolding value_of
  no-constant p q r = simp (ne_eqb (w % 256) 1 p, ne_eqb (w % 256) 2 q, ne_eqb (w % 256) 4 r) (go (eqb (w % 256) 3))
    where
      go : (t : Bool) → false ≡ in_constant_range (pick t (err_of (w / 256)) none)
      go true = err-bits (w / 256)
      go false = refl
