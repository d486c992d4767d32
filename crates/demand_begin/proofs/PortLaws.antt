-- Laws of port names: the first one or two of a list, and a shape whose other ports are known.
use Prim.Native.Nat.{ℕ}
use Rattle.std.specs.Prelude.{◌≡◌, Bool, ◌&&◌, List, [], ◌∷◌, ◌≢◌, eqb}
use Rattle.std.proofs.Math.Path.{refl}
use Rattle.std.proofs.Common.{sym, true≢false}
use Rattle.std.proofs.Math.Bool.{true, false, and-false}
use borrow.Author.Tests.{eq-eqb, ne_eqb}
use Rattle.machine_layout.specs.Layout.{no_link}
use Rattle.machine_valid.specs.Below.{and_left, and_right}
use Rattle.machine_valid.specs.Ports.{apart, nones, shaped}

pub and-true : (b : Bool) → b && true ≡ b
and-true true = refl
and-true false = refl

pub shaped-linked : (links : ℕ) (xs ys : List ℕ) → nones ys ≡ true → apart links xs ≡ shaped links xs ys
shaped-linked links xs ys h = rw h (sym (and-true (apart links xs)))

pub shaped-not : (links : ℕ) (xs ys : List ℕ) → nones ys ≡ false → false ≡ shaped links xs ys
shaped-not links xs ys h = rw h (sym (and-false (apart links xs)))

pub two-not : (x y : ℕ) (zs : List ℕ) → nones (x ∷ y ∷ []) ≡ false → nones (x ∷ y ∷ zs) ≡ false
unfolding nones
two-not x y zs h = go (eqb x 65535) (eqb y 65535) h
  where
    go : (a b : Bool) → a && (b && true) ≡ false → a && (b && nones zs) ≡ false
    go false b h = refl
    go true false h = refl
    go true true h = absurd (true≢false h)

pub one-not : (x : ℕ) (ys : List ℕ) → x ≢ no_link → nones (x ∷ ys) ≡ false
unfolding nones
one-not x ys n = rw (ne_eqb x 65535 n) refl

pub one_none : (x : ℕ) (ys : List ℕ) → x ≡ no_link → nones (x ∷ ys) ≡ nones ys
unfolding nones
one_none x ys e = rw (eq-eqb x 65535 e) refl

pub two_none : (x y : ℕ) (zs : List ℕ) → nones (x ∷ y ∷ []) ≡ true → nones (x ∷ y ∷ zs) ≡ nones zs
unfolding nones
two_none x y zs h = rw (and_left (eqb x 65535) (eqb y 65535 && true) h, and_left (eqb y 65535) true (and_right (eqb x 65535) (eqb y 65535 && true) h)) refl
