use Rattle.std.proofs.Common.{rules, ◌≡◌, ◌+◌, ◌-◌, ◌*◌, arith, length}
use borrow.Author.Tests.{le-leb, lt-leb}
use Rattle.value.specs.Bytes.{is_some, value_of}
use Rattle.machine_queue.specs.Stretch.{waiting}
use Rattle.machine_valid.specs.Valid.{token_ok, stretch_ok}
use Rattle.machine_valid.proofs.Tokens.{tokens_from_all}
use Rattle.machine_valid.proofs.tokens_ok.Goals as goal

pub returns : goal.returns
unfolding stretch_ok token_ok
returns c =
    let k : 5 * waiting c.args.q.now + 1 - 1 ≡ 5 * waiting c.args.q.now = omega arith in
    simp (le-leb (5 * waiting c.args.q.now + 1) (length c.args.q.now) (omega (arith, c.waiting.ensures.0)))
    (tokens_from_all (waiting c.args.q.now) (λ w. is_some (value_of w)) c.args.q.now _ _ _ c.all.ensures.ran c.chunks_exact-tokens.ensures.size (rw (c.waiting.ensures.0, k) at c.chunks_exact-tokens.ensures.rest) (omega (arith, c.waiting.ensures.0)) (λ x b q k. search rules))

pub returns-then-q-end : goal.returns-then-q-end
unfolding stretch_ok
returns-then-q-end c = simp (lt-leb (5 * waiting c.args.q.now + 1) (length c.args.q.now) (omega (arith, c.waiting.ensures.0)))
