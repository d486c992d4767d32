-- The letters of kinds, written one after another.
use Rattle.std.specs.Prelude.{ℕ, suc, ◌+◌, ◌≤◌, ◌<◌, ◌≡◌, List, length, get_or, set, drop}
use Rattle.std.proofs.Math.Path.{refl}
use Rattle.std.proofs.Common.{sym, ap, ◌∙◌, arith, drop_of_length-le, drop-cons}
use Rattle.std.proofs.lemmas.List.Edits.{sets}
use Rattle.machine_layout.specs.Layout.{input_kinds_at}
use Rattle.machine_start.specs.Start.{lettered}

-- The memory with the letters from letter j on written.
abbrev pub letters_from : List ℕ → List ℕ → ℕ → List ℕ
letters_from m kinds j = sets m (input_kinds_at + j) (drop j kinds)

pub letters-all : (m kinds : List ℕ) → letters_from m kinds 0 ≡ lettered m kinds
unfolding lettered
letters-all m kinds = refl

pub letters-more : (m kinds : List ℕ) (j : ℕ) → j < length kinds → letters_from (set m (input_kinds_at + j) (get_or kinds j 0)) kinds (j + 1) ≡ letters_from m kinds j
letters-more m kinds j h =
    let d : j + 1 ≡ suc j = omega arith in
    let e : input_kinds_at + (j + 1) ≡ suc (input_kinds_at + j) = omega arith in
    let n : List ℕ = set m (input_kinds_at + j) (get_or kinds j 0) in
    ap (λ (i : ℕ). sets n i (drop (j + 1) kinds)) e ∙ ap (λ (i : ℕ). sets n (suc (input_kinds_at + j)) (drop i kinds)) d
    ∙ sym (ap (sets m (input_kinds_at + j)) (drop-cons kinds j 0 h))

pub letters-end : (m kinds : List ℕ) (j : ℕ) → length kinds ≤ j → letters_from m kinds j ≡ m
letters-end m kinds j h = ap (sets m (input_kinds_at + j)) (drop_of_length-le kinds h)
