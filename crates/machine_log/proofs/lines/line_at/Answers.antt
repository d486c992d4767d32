use native.Mathlib.Omega.{arith}
use mathlib.Core.Path.{ap₂, ◌∙◌}
use Rattle.machine_log.specs.Lines.{by_fields}
use Rattle.machine_log.specs.LineLaws.{line-short, line-unended, line_read}
use Rattle.machine_log.proofs.lines.line_at.Goals as goal
use Rattle.machine_log.proofs.lines.line_at.Goals.{then-log-at-lt-LINE_BYTES-via-then-log-at-lt-LINE_BYTES, then-log-at-lt-LINE_BYTES-via-else-log-at-lt-LINE_BYTES+then-log-at-ne-LINE_FEED}

pub returns-then-log-at-lt-LINE_BYTES : goal.returns-then-log-at-lt-LINE_BYTES
returns-then-log-at-lt-LINE_BYTES c = elim c.then-log-at-lt-LINE_BYTES.branch [
  | then-log-at-lt-LINE_BYTES-via-then-log-at-lt-LINE_BYTES w ↦ line-short c.args.log.now c.args.j w.if-log-at-lt-LINE_BYTES.true
  | then-log-at-lt-LINE_BYTES-via-else-log-at-lt-LINE_BYTES+then-log-at-ne-LINE_FEED w ↦ line-unended c.args.log.now c.args.j (omega arith) w.if-log-at-ne-LINE_FEED.true
]

pub returns : goal.returns
returns c = c.by_fields.ensures ∙ ap₂ by_fields c.field_in.ensures c.field_in-2.ensures ∙ line_read c.args.log.now c.args.j (omega arith) c.if-log-at-ne-LINE_FEED.false
