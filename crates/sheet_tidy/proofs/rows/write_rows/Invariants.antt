use Prim.Native.Nat.{◌-◌}
use Rattle.sheet_tidy.proofs.WrittenLaws.{Writing}
use Rattle.sheet_tidy.proofs.rows.write_rows.Given as goal

abbrev pub invariant-loop-i : goal.invariant-loop-i
invariant-loop-i l = Writing l.fields l.kept l.n l.initial.out l.out l.at l.i
