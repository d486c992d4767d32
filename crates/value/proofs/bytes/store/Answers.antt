use Rattle.value.specs.Bytes.{stored}
use Rattle.value.proofs.Words.{stores}
use Rattle.value.proofs.bytes.store.Goals as goal

pub returns : goal.returns
unfolding stored
returns c = stores c.args.s.now c.args.at _ _ _ _ _
