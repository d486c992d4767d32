-- A formula's inputs by the mask of its free names (document 01: "The inputs are the formula's free identifiers, rising"): their
-- number, and their places as the names are gone through. Assumes nothing.
use Rattle.std.specs.Prelude.{ℕ, suc, ◌+◌, ◌-◌, ◌/◌, ◌%◌, ◌^◌, ◌<◌, ◌≡◌, refl, Bool, true, false, not, ◌&&◌, eqb, length}
use Rattle.std.proofs.Common.{sym, ap, ◌∙◌, ne_eqb, arith}
use Rattle.std.specs.Int.Bits.{bit_and}
use Rattle.std.specs.Int.Count.{ones}
use Rattle.names.specs.Names.{Names, trigger, one, without, bit, below, mask}
use Rattle.names.proofs.Sets.{mask_one, known-minus, known-count, below_suc, below-cong, below_all, length-members}
use Rattle.formula.specs.Tree.{Exp}
use Rattle.formula.specs.Free.{free_e, inputs_of}

-- The set that a mask stands for.
abbrev pub set_in : ℕ → Names
set_in m k = eqb (m / 2 ^ k % 2) 1

-- How many names of a mask are identifiers: all but the trigger.
unfoldable pub inputs_in : ℕ → ℕ
inputs_in m = ones (bit_and m ((2 ^ 64 - 1) - 2 ^ 32))

pub inputs_in_lem : (x : Exp) (m : ℕ) → m ≡ mask (free_e x) → inputs_in m ≡ length (inputs_of x)
unfolding inputs_in inputs_of
inputs_in_lem x m e =
    known-count (bit_and m ((2 ^ 64 - 1) - 2 ^ 32)) (without (free_e x) (one trigger))
    (known-minus m (2 ^ 32) (free_e x) (one trigger) e (sym (mask_one 32 (omega arith))))
    ∙ sym (length-members (without (free_e x) (one trigger)))

pub below_more : (m k i : ℕ) → i ≡ below (set_in m) k → i + bit (set_in m k) ≡ below (set_in m) (k + 1)
below_more m k i e =
    let s : k + 1 ≡ suc k = omega arith in
    rw (e, s) (sym (below_suc (set_in m) k))

-- The number of inputs is that of the free names below the trigger.
pub inputs-below : (x : Exp) → length (inputs_of x) ≡ below (free_e x) 32
unfolding inputs_of
inputs-below x =
    length-members (without (free_e x) (one trigger))
    ∙ sym (below_all (without (free_e x) (one trigger)))
    ∙ below_suc (without (free_e x) (one trigger)) 32
    ∙ last_out
    ∙ below-cong (without (free_e x) (one trigger)) (free_e x) 32 (λ i l. others i l)
  where
    last_out : below (without (free_e x) (one trigger)) 32 + bit (without (free_e x) (one trigger) 32)
        ≡ below (without (free_e x) (one trigger)) 32
    last_out = go (free_e x 32)
      where
        go : (b : Bool) → below (without (free_e x) (one trigger)) 32 + bit (b && not (eqb 32 32))
            ≡ below (without (free_e x) (one trigger)) 32
        go true = omega arith
        go false = omega arith

    others : (i : ℕ) → i < 32 → free_e x i && not (eqb 32 i) ≡ free_e x i
    others i l = rw (ne_eqb 32 i (λ e. omega arith)) (go (free_e x i))
      where
        go : (b : Bool) → b && true ≡ b
        go true = refl
        go false = refl
