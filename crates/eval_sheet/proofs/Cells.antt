-- An array of cells that is filled from its first cell on with the values of words.
use Rattle.std.specs.Prelude.{ℕ, suc, ◌+◌, ◌<◌, ◌≡◌, List, [], ◌++◌, map, length, get_or, set, take, drop}
use Rattle.std.proofs.Common.{sym, ap, ◌∙◌, append-nil, drop_of_length-le, take_all, arith}
use Rattle.std.proofs.lemmas.List.{length-map}
use Rattle.std.proofs.Math.ListN.{get_or-map}
use Rattle.std.proofs.Math.Seq.{paste, paste-suc}
use Rattle.value.specs.declared.Value.{Value}
use Rattle.meaning.specs.declared.Cell.{Cell}
use Rattle.meaning.specs.Evaluate.{cell}
use Rattle.eval_words.specs.Words.{held_of}

pub cells-more : (c₀ : List Cell) (out : List ℕ) (i : ℕ) (v : Value) → i < 16 → length out ≡ 16 → length c₀ ≡ 16
    → v ≡ held_of (get_or out i 0)
    → set (paste c₀ 0 (map (λ z. cell (held_of z)) out) i) i (cell v) ≡ paste c₀ 0 (map (λ z. cell (held_of z)) out) (i + 1)
cells-more c₀ out i v l p q e =
    let s : List Cell = map (λ z. cell (held_of z)) out in
    let k : i < length s = omega (arith, length-map out (λ z. cell (held_of z))) in
    let d : get_or s i (cell (held_of 0)) ≡ cell v = get_or-map (λ z. cell (held_of z)) out i 0 ∙ ap cell (sym e) in
    let z : 0 + i ≡ i = omega arith in
    let u : suc i ≡ i + 1 = omega arith in
    ap (λ (y : Cell). set (paste c₀ 0 s i) i y) (sym d)
    ∙ ap (λ (j : ℕ). set (paste c₀ 0 s i) j (get_or s i (cell (held_of 0)))) (sym z)
    ∙ paste-suc c₀ 0 s i (cell (held_of 0)) (omega arith) k
    ∙ ap (paste c₀ 0 s) u

pub cells_whole : (c₀ : List Cell) (out : List ℕ) → length out ≡ 16 → length c₀ ≡ 16
    → paste c₀ 0 (map (λ z. cell (held_of z)) out) 16 ≡ map (λ z. cell (held_of z)) out
cells_whole c₀ out p q =
    let s : List Cell = map (λ z. cell (held_of z)) out in
    let a : take 16 s ≡ s = take_all 16 s (omega (arith, length-map out (λ z. cell (held_of z)))) in
    let b : drop 16 c₀ ≡ [] = drop_of_length-le c₀ {i = 16} (omega arith) in
    (λ i. a i ++ b i) ∙ append-nil s
