use Rattle.std.proofs.Common.{◌≡◌, ◌+◌, ◌≤◌, ◌<◌, length, drop}
use Rattle.std.specs.List.{All}
use Rattle.names.specs.Names.{members_in}
use Rattle.maker_laid.specs.Masked.{list_of}
use Rattle.maker_laid.specs.Emitted.{assigned}
use Rattle.maker_emit.proofs.records.assign.Given as goal

abbrev pub invariant-loop-k : goal.invariant-loop-k
invariant-loop-k l =
    let xs = members_in l.k-iterator.iter.0 in
    record {
      can : (goal.iterator-loop-k).can_next l.k-iterator;
      ends : (goal.iterator-loop-k).is_finite l.k-iterator;
      inside : All (λ x. x < 33) xs;
      fits : l.k-iterator.count + length xs ≤ 33;
      size : length l.e ≡ 33;
      links : length l.links ≡ 33;
      rest : assigned xs (drop l.k-iterator.count l.links) l.e ≡ assigned (list_of l.mask) l.links l.initial.e;
    }
