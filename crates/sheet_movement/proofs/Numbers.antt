-- Numbers as bytes (Moves: four bytes each, lowest first): what is written is read back, and the numbers of a row that passes 21 are in range.
-- Assumes nothing.
use Rattle.std.specs.Prelude.{ℕ, zero, suc, ◌+◌, ◌*◌, ◌/◌, ◌%◌, ◌≤◌, ◌<◌, ◌≡◌, refl, true, ◌&&◌, List, [], ◌∷◌, ◌++◌, leb, length, get_or, drop}
use Rattle.std.proofs.Common.{ap, ap₂, ◌∙◌, length-append, leb-true, arith, div-add-mod', suc-add}
use Rattle.std.proofs.lemmas.List.Edits.{sets, sets-eq}
use Rattle.std.proofs.Math.Nat.{div-div-eq-div-mul}
use Rattle.formula.specs.Tree.{Exp, identifier, constant, pair, operator, let_e, if_e, for_e}
use Rattle.formula.proofs.TreeLaws.{and-true}
use Rattle.formula.specs.Widths.{width}
use Rattle.sheet_movement.specs.Drifts.{Drifts}
use Rattle.sheet_movement.specs.Moves.{Moves, bind_moves, moves_e, all_within, fits_e, number_at, number_bytes}

pub length-number-bytes : (ds : List ℕ) → length (number_bytes ds) ≡ 4 * length ds
unfolding number_bytes
length-number-bytes [] = refl
length-number-bytes (d ∷ ds) = omega (arith, length-number-bytes ds)

four_bytes : (d : ℕ) → d ≤ 2147483647 → d % 256 + 256 * (d / 256 % 256) + 65536 * (d / 65536 % 256) + 16777216 * (d / 16777216 % 256) ≡ d
four_bytes d h =
    omega (arith, h, div-add-mod' d 256, rw (div-div-eq-div-mul d 256 256) at (div-add-mod' (d / 256) 256), rw (div-div-eq-div-mul d 65536 256) at (div-add-mod' (d / 65536) 256))

number_behind : (b : ℕ) (s : List ℕ) (at : ℕ) → number_at (b ∷ s) (suc at) ≡ number_at s at
unfolding number_at
number_behind b s at = rw (suc-add at 1, suc-add at 2, suc-add at 3) refl

behind-four : (a b c d : ℕ) (s : List ℕ) (at : ℕ) → number_at (a ∷ b ∷ c ∷ d ∷ s) (suc (suc (suc (suc at)))) ≡ number_at s at
behind-four a b c d s at = number_behind a _ _ ∙ number_behind b _ _ ∙ number_behind c _ _ ∙ number_behind d s at

number_in : (ds rest : List ℕ) → all_within ds ≡ true → (i : ℕ) → i < length ds → number_at (number_bytes ds ++ rest) (4 * i) ≡ get_or ds i 0
unfolding number_at number_bytes
number_in [] rest w i l = absurd (omega arith)
number_in (d ∷ ds) rest w zero l = four_bytes d (leb-true d 2147483647 (and-true (leb d 2147483647) (all_within ds) w).0)
number_in (d ∷ ds) rest w (suc i) l =
    let e : 4 * suc i ≡ suc (suc (suc (suc (4 * i)))) = omega arith in
    ap (number_at (number_bytes (d ∷ ds) ++ rest)) e
    ∙ behind-four (d % 256) (d / 256 % 256) (d / 65536 % 256) (d / 16777216 % 256) (number_bytes ds ++ rest) (4 * i)
    ∙ number_in ds rest (and-true (leb d 2147483647) (all_within ds) w).1 i (omega arith)

-- The i-th of some numbers written from the start of some memory.
pub number_read : (ds out : List ℕ) → all_within ds ≡ true → 4 * length ds ≤ length out → (i : ℕ) → i < length ds
    → number_at (sets out 0 (number_bytes ds)) (4 * i) ≡ get_or ds i 0
number_read ds out w room i l =
    ap (λ (s : List ℕ). number_at s (4 * i)) (sets-eq (number_bytes ds) out 0 (omega (arith, room, length-number-bytes ds)))
    ∙ number_in ds (drop (0 + length (number_bytes ds)) out) w i l

-- A number a value.
pub moves-width : (x : Exp) → Drifts x → (moves : Moves) → length (moves_e x moves) ≡ width x
unfolding moves_e width
moves-width (identifier a) h moves = refl
moves-width (constant k a) h moves = refl
moves-width (pair x y) h moves =
    length-append (moves_e x moves) (moves_e y moves) ∙ ap₂ (λ (a b : ℕ). a + b) (moves-width x h.0 moves) (moves-width y h.1 moves)
moves-width (operator code x) h moves = refl
moves-width (let_e a b x y) h moves = moves-width y h.1 (bind_moves a b (moves_e x moves) moves)
moves-width (if_e t x y) h moves = absurd h
moves-width (for_e a b x y) h moves = absurd h

-- 21: where no number of a row and those below it passes the greatest, the row's own do not.
pub fits-within : (x : Exp) (moves : Moves) → fits_e x moves ≡ true → all_within (moves_e x moves) ≡ true
unfolding fits_e
fits-within (identifier a) moves h = h
fits-within (constant k a) moves h = h
fits-within (pair x y) moves h = (and-true (all_within (moves_e (pair x y) moves)) (fits_e x moves && fits_e y moves) h).0
fits-within (operator code x) moves h = (and-true (all_within (moves_e (operator code x) moves)) (fits_e x moves) h).0
fits-within (let_e a b x y) moves h =
    (and-true (all_within (moves_e (let_e a b x y) moves)) (fits_e x moves && fits_e y (bind_moves a b (moves_e x moves) moves)) h).0
fits-within (if_e t x y) moves h = refl
fits-within (for_e a b x y) moves h = refl
