-- Values stored one behind the other in a list: what each place holds afterwards. Assumes nothing.
use Rattle.std.specs.Prelude.{ℕ, zero, suc, ◌+◌, ◌≤◌, ◌<◌, ◌≡◌, refl, List, [], ◌∷◌, ◌++◌, length, get_or, set, take, drop}
use Rattle.std.proofs.Common.{ap, ◌∙◌, arith, length-set, take_at, get_or-set_same, get_or-set_other}
use Rattle.std.proofs.lemmas.List.Edits.{sets, sets-eq}

-- More values behind the first.
pub sets-append : (l : List ℕ) (at : ℕ) (vs ws : List ℕ) → sets l at (vs ++ ws) ≡ sets (sets l at vs) (at + length vs) ws
sets-append l at [] ws =
    let z : at ≡ at + 0 = omega arith in
    ap (λ (i : ℕ). sets l i ws) z
sets-append l at (v ∷ vs) ws =
    let e : suc at + length vs ≡ at + suc (length vs) = omega arith in
    sets-append (set l at v) (suc at) vs ws ∙ ap (λ (i : ℕ). sets (sets (set l at v) (suc at) vs) i ws) e

-- All other places are as they were.
pub sets-before : (vs l : List ℕ) (at k : ℕ) → k < at → get_or (sets l at vs) k 0 ≡ get_or l k 0
sets-before [] l at k h = refl
sets-before (v ∷ vs) l at k h = sets-before vs (set l at v) (suc at) k (omega arith) ∙ get_or-set_other l at k v 0 (λ e. omega arith)

pub sets_behind : (vs l : List ℕ) (at k : ℕ) → at + length vs ≤ k → get_or (sets l at vs) k 0 ≡ get_or l k 0
sets_behind [] l at k h = refl
sets_behind (v ∷ vs) l at k h = sets_behind vs (set l at v) (suc at) k (omega arith) ∙ get_or-set_other l at k v 0 (λ e. omega arith)

pub sets-among : (vs l : List ℕ) (at i : ℕ) → at + length vs ≤ length l → i < length vs → get_or (sets l at vs) (at + i) 0 ≡ get_or vs i 0
sets-among [] l at i h j = absurd (omega arith)
sets-among (v ∷ vs) l at zero h j =
    let z : at + 0 ≡ at = omega arith in
    rw z (sets-before vs (set l at v) (suc at) at (omega arith) ∙ get_or-set_same l at v 0 (omega arith))
sets-among (v ∷ vs) l at (suc i) h j =
    let e : at + suc i ≡ suc at + i = omega arith in
    rw e (sets-among vs (set l at v) (suc at) i (omega (arith, length-set l at v)) (omega arith))

-- The first values of a list that they were stored at the start of.
pub sets-taken : (vs l : List ℕ) → length vs ≤ length l → take (length vs) (sets l 0 vs) ≡ vs
sets-taken vs l h = ap (take (length vs)) (sets-eq vs l 0 (omega arith)) ∙ take_at vs (drop (0 + length vs) l) (length vs) refl
