use Rattle.sheet_kinds.specs.Bytes.{put-writes}
use Rattle.sheet_kinds.proofs.bytes.put_kind.Goals as goal

pub returns : goal.returns
returns c = put-writes c.args.out.now c.args.at c.args.k c.requires
