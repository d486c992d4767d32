use Rattle.std.proofs.Common.{◌≡◌, ◌+◌, ◌-◌, ◌*◌, ◌≤◌, ◌++◌, length, take}
use Rattle.maker_laid.specs.Encode.{written}
use Rattle.maker_laid.specs.Emitted.{row_records, row_outputs}
use Rattle.maker_emit.proofs.emit.gate_row.Given as goal

abbrev pub invariant-loop-i : goal.invariant-loop-i
invariant-loop-i l =
    record {
      room : 21760 ≤ length l.mem;
      kept : length l.mem ≡ length l.initial.mem;
      size : length l.outs ≡ 33;
      rest : written l.mem (l.m + 2 * l.i) (row_records l.kind l.c (l.n + 3 * l.i) l.a l.b l.i (l.k - l.i))
          ≡ written l.initial.mem l.m (row_records l.kind l.control l.n l.a l.b 0 l.k);
      links : take l.i l.outs ++ row_outputs (l.n + 3 * l.i) (l.k - l.i) ≡ row_outputs l.n l.k;
    }
