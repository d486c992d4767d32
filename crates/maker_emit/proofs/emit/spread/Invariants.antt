use Rattle.std.proofs.Common.{◌≡◌, ◌+◌, ◌-◌, ◌*◌, ◌≤◌, ◌++◌, length, take}
use Rattle.graph.specs.Assembly.{chain, chain_ends}
use Rattle.maker_laid.specs.Encode.{encoded, written}
use Rattle.maker_emit.proofs.emit.spread.Given as goal

abbrev pub invariant-loop-i : goal.invariant-loop-i
invariant-loop-i l =
    record {
      room : 21760 ≤ length l.mem;
      kept : length l.mem ≡ length l.initial.mem;
      size : length l.ends ≡ 33;
      rest : written l.mem (l.m + l.i) (encoded (chain l.c (l.n + 2 * l.i) (l.k - l.i))) ≡ written l.initial.mem l.m (encoded (chain l.l l.n l.k));
      links : take l.i l.ends ++ chain_ends l.c (l.n + 2 * l.i) (l.k - l.i) ≡ chain_ends l.l l.n l.k;
    }
