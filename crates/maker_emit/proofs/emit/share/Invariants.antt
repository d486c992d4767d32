use Rattle.std.proofs.Common.{◌≡◌, ◌+◌, ◌≤◌, ◌<◌, length}
use Rattle.std.specs.List.{All}
use Rattle.names.specs.Names.{members_in}
use Rattle.graph.specs.Assembly.{copies_for}
use Rattle.maker_laid.specs.Encode.{encoded, written}
use Rattle.maker_laid.specs.Masked.{list_of}
use Rattle.maker_laid.specs.Emitted.{link_in}
use Rattle.maker_emit.proofs.emit.share.Given as goal

abbrev pub invariant-loop-i : goal.invariant-loop-i
invariant-loop-i l =
    let xs = members_in l.i-iterator.iter.0 in
    record {
      can : (goal.iterator-loop-i).can_next l.i-iterator;
      ends : (goal.iterator-loop-i).is_finite l.i-iterator;
      inside : All (λ x. x < 33) xs;
      fits : l.m + l.i-iterator.count + length xs ≤ 1024;
      room : 21760 ≤ length l.mem;
      kept : length l.mem ≡ length l.initial.mem;
      env : length l.env ≡ 33;
      first : length l.first ≡ 33;
      second : length l.second ≡ 33;
      rest : written l.mem (l.m + l.i-iterator.count) (encoded (copies_for xs (link_in l.env) (link_in l.first) (link_in l.second)))
          ≡ written l.initial.mem l.m (encoded (copies_for (list_of l.mask) (link_in l.env) (link_in l.first) (link_in l.second)));
    }
