-- The record after an accepted and after a refused call, for the proofs of the code.
use Rattle.std.specs.Prelude.{ℕ, Bool, ◌≡◌, ◌≢◌, eqb}
use Rattle.std.proofs.Common.{ap, eq-eqb, ne_eqb}
use Rattle.value.specs.Operators.{pick}
use Rattle.machine_tally.specs.declared.Tally.{Tally}

pub when-accepted : (n : ℕ) (t u : Tally) → n ≡ 0 → pick (eqb n 0) t u ≡ t
when-accepted n t u h = ap (λ (b : Bool). pick b t u) (eq-eqb n 0 h)

pub when-refused : (n : ℕ) (t u : Tally) → n ≢ 0 → pick (eqb n 0) t u ≡ u
when-refused n t u h = ap (λ (b : Bool). pick b t u) (ne_eqb n 0 h)
