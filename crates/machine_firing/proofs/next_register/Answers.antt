use mathlib.Core.Path.{refl}
use Rattle.value.specs.Bytes.{word_of}
use borrow.Author.Tests.{ne_eqb}
use Rattle.machine_firing.specs.Moves.{next_register}
use Rattle.machine_firing.proofs.next_register.Goals as goal

pub returns-then-kind-eq-FM : goal.returns-then-kind-eq-FM
unfolding next_register word_of
returns-then-kind-eq-FM c = rw c.if-kind-eq-FM.true refl

pub returns : goal.returns
unfolding next_register
returns c = rw (ne_eqb c.args.kind 19 c.if-kind-eq-FM.false) c.register_of.ensures
