use Rattle.std.proofs.Common.{◌≡◌, ℕ, replicate, ◌∙◌, append-nil, arith}
use lib.Seq.{sets}
use Rattle.text.specs.Printed.{head_line}
use Rattle.text.proofs.PrintLaws.{head-length, written-part}
use Rattle.case_files.proofs.head_line.Goals as goal

-- The line is all that stands there.
whole : (a b c : ℕ) → sets (replicate 19 0) 0 (head_line a b c) ≡ head_line a b c
whole a b c = written-part (replicate 19 0) 0 19 (head_line a b c) (head-length a b c) (omega arith) ∙ append-nil (head_line a b c)

pub returns : goal.returns
returns c = c.put_head.ensures ∙ whole c.args.a c.args.b c.args.c
