-- Laws of the call's answer: 11, a sheet that the reader refuses, and one by what 20 and 21 say of it. Assumes nothing.
use Prim.Native.Nat.{ℕ, ◌≤◌, ◌<◌}
use mathlib.Core.Path.{◌≡◌, refl, sym, ◌∙◌}
use mathlib.Core.List.{List}
use native.Mathlib.Omega.{arith}
use lib.ListN.{length, take, replicate}
use lib.Seq.{sets}
use borrow.Author.Tests.{lt-ltb, le-ltb}
use Rattle.formula.specs.declared.Refusal.{Refusal}
use Rattle.formula.specs.declared.Refusal.TheVariants.{Memory}
use Rattle.formula.specs.Results.{Verdict, refused}
use Rattle.std.specs.Prelude.{Ok, Err}
use Rattle.formula.specs.Refusals.{number_of}
use Rattle.sheet_movement.specs.Moves.{drift_verdict, result_moves, number_bytes}
use Rattle.sheet_drift.specs.Stores.{sets-taken}
use Rattle.sheet_drift.specs.Drifting.{handed, answers, by_verdict, drifted_into}
use Rattle.sheet_drift.specs.Tested.{by_rows}

pub never-passed : {A : Type 0} (r : Refusal) (row : ℕ) → ◌≡◌ {A = Verdict} (refused r row) (Ok tt) → A
never-passed r row e = absurd (let z : ◌≡◌ {A = ℕ} 0 1 = cc e in omega arith)

-- ---- the rows

pub rows-refuse : (v : Verdict) (ds out : List ℕ) (r : Refusal) (row : ℕ) → v ≡ refused r row → handed (answers (number_of r) row 0) out ≡ by_rows v ds out
unfolding by_rows
rows-refuse v ds out r row e = rw e refl

-- The numbers stand at the start of sixteen places, and the first c of them are written.
pub rows-accept : (v : Verdict) (ds out : List ℕ) → v ≡ Ok tt → (c : ℕ) (numbers out' : List ℕ) → c ≤ 16 → c ≡ length ds
    → numbers ≡ sets (replicate 16 0) 0 ds → out' ≡ sets out 0 (number_bytes (take c numbers)) → handed (answers 0 0 c) out' ≡ by_rows v ds out
unfolding by_rows
rows-accept v ds out e c numbers out' few n w o =
    let taken : take c numbers ≡ ds = (λ j. take (n j) (w j)) ∙ sets-taken ds (replicate 16 0) (omega (arith, n, few)) in
    rw (e, o, taken, n) refl

-- ---- the sheet

module _ (s line tolerances out : List ℕ) where
  pub memory-short : length out < 64 → handed (answers (number_of Memory) 0 0) out ≡ drifted_into s line tolerances out
  unfolding drifted_into
  memory-short h = rw (lt-ltb (length out) 64 h) refl

  module _ (h : 64 ≤ length out) where
    pub reader-refuses : (r : Refusal) (row : ℕ) → drift_verdict s line tolerances ≡ refused r row
        → handed (answers (number_of r) row 0) out ≡ drifted_into s line tolerances out
    unfolding drifted_into by_verdict
    reader-refuses r row e = rw (le-ltb (length out) 64 h, e) refl

    pub rows-decide : (v : Verdict) (ds : List ℕ) → v ≡ drift_verdict s line tolerances → ds ≡ result_moves s tolerances
        → by_rows v ds out ≡ drifted_into s line tolerances out
    unfolding drifted_into by_rows by_verdict
    rows-decide v ds e n = (λ j. by_rows (e j) (n j) out) ∙ same (drift_verdict s line tolerances) ∙ sym (rw (le-ltb (length out) 64 h) refl)
      where
        same : (w : Verdict) → by_rows w (result_moves s tolerances) out ≡ by_verdict w s tolerances out
        same (Ok _) = refl
        same (Err why) = refl
