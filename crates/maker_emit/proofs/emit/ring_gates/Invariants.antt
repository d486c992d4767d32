use Rattle.std.proofs.Common.{◌≡◌, ◌+◌, ◌≤◌, ◌<◌, length, drop}
use Rattle.std.specs.List.{All}
use Rattle.names.specs.Names.{names_in, members_in}
use Rattle.graph.specs.Assembly.{ring}
use Rattle.maker_laid.specs.Encode.{encoded, written}
use Rattle.maker_laid.specs.Masked.{list_of}
use Rattle.maker_laid.specs.Emitted.{link_in}
use Rattle.maker_emit.proofs.emit.ring_gates.Given as goal

abbrev pub invariant-loop-k : goal.invariant-loop-k
invariant-loop-k l =
    let xs = members_in l.k-iterator.iter.0 in
    record {
      can : (goal.iterator-loop-k).can_next l.k-iterator;
      ends : (goal.iterator-loop-k).is_finite l.k-iterator;
      inside : All (λ x. x < 33) xs;
      short : l.k-iterator.count + length xs ≤ 33;
      fits : l.m + l.k-iterator.count + length xs ≤ 1024;
      room : 21760 ≤ length l.mem;
      kept : length l.mem ≡ length l.initial.mem;
      controls : length l.controls ≡ 33;
      iterated : length l.iterated ≡ 33;
      started : length l.started ≡ 33;
      own : length l.own ≡ 33;
      out : length l.out ≡ 33;
      rest : written l.mem (l.m + l.k-iterator.count)
          (encoded (ring xs (names_in l.ids) (drop l.k-iterator.count l.controls) (link_in l.iterated) (link_in l.started) (link_in l.own) (link_in l.out)))
          ≡ written l.initial.mem l.m
          (encoded (ring (list_of l.mask) (names_in l.ids) l.controls (link_in l.iterated) (link_in l.started) (link_in l.own) (link_in l.out)));
    }
