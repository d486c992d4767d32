use Rattle.std.proofs.Common.{◌≡◌, ◌+◌, ◌≤◌, ◌<◌, ◌++◌, length, take, map}
use Rattle.std.specs.List.{All}
use Rattle.names.specs.Names.{members_in}
use Rattle.maker_laid.specs.Masked.{list_of}
use Rattle.maker_laid.specs.Emitted.{link_in}
use Rattle.maker_emit.proofs.records.gather.Given as goal

abbrev pub invariant-loop-k : goal.invariant-loop-k
invariant-loop-k l =
    let xs = members_in l.k-iterator.iter.0 in
    record {
      can : (goal.iterator-loop-k).can_next l.k-iterator;
      ends : (goal.iterator-loop-k).is_finite l.k-iterator;
      inside : All (λ x. x < 33) xs;
      count : l.k-iterator.count + length xs ≡ length (list_of l.mask);
      short : length (list_of l.mask) ≤ 33;
      size : length l.links ≡ 33;
      env : length l.env ≡ 33;
      rest : take l.k-iterator.count l.links ++ map (link_in l.env) xs ≡ map (link_in l.env) (list_of l.mask);
    }
