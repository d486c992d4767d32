use Rattle.std.proofs.Common.{◌≡◌, ◌+◌, ◌*◌, ◌≤◌, ◌<◌, length}
use Rattle.std.specs.List.{All}
use Rattle.names.specs.Names.{members_in}
use Rattle.maker_laid.specs.Masked.{list_of}
use Rattle.maker_laid.specs.Emitted.{dealt}
use Rattle.maker_emit.proofs.records.deal.Given as goal

abbrev pub invariant-loop-x : goal.invariant-loop-x
invariant-loop-x l =
    let xs = members_in l.x-iterator.0 in
    record {
      can : (goal.iterator-loop-x).can_next l.x-iterator;
      ends : (goal.iterator-loop-x).is_finite l.x-iterator;
      small : l.step ≤ 2;
      inside : All (λ x. x < 33) xs;
      fits : l.l + 2 * length xs ≤ 65535;
      size : length l.e ≡ 33;
      rest : dealt l.step xs l.l l.e ≡ dealt l.step (list_of l.mask) l.n l.initial.e;
    }
