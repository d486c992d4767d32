use Rattle.session.proofs.OpeningLaws.{refusal-printed, refusal-behind}
use Rattle.session_run.proofs.opening.refused.Goals as goal

pub returns : goal.returns
returns c = record { refuses = refusal-printed c.args.number c.args.row c.args.end c.args.out.now c.put_refusal.new.out c.requires c.put_refusal.ensures; out_unchanged = refusal-behind c.args.number c.args.row c.args.out.now c.put_refusal.new.out c.requires c.put_refusal.ensures }
