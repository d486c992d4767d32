use Rattle.std.proofs.Common.{◌∙◌, ap, arith, rules, length, ℕ}
use Rattle.names.specs.Names.{members_in}
use Rattle.names.proofs.Numbers.{members_in-none, members_in-walk}
use Rattle.names.proofs.RisingIterator.next.Goals as goal

pub returns-then-self-eq0-clause-steps : goal.returns-then-self-eq0-clause-steps
returns-then-self-eq0-clause-steps c =
    let e = ap members_in c.if-self-eq0.true ∙ members_in-none in
    (e, e)

pub returns-clause-steps : goal.returns-clause-steps
returns-clause-steps c = rw (c.lowest-place.ensures.0, c.rest-self.ensures) (members_in-walk c.args.self.now.0 (omega arith) (omega arith))

pub returns-clause-goes : goal.returns-clause-goes
returns-clause-goes c = let e = ap (length {A = ℕ}) (members_in-walk c.args.self.now.0 (omega arith) (omega arith)) in search (rules, e, c.rest-self.ensures)
