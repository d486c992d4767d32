use Rattle.std.proofs.Common.{◌≡◌, ℕ, ◌+◌, ◌*◌, ◌≤◌, List, take, length, arith, le-leb}
use lib.Seq.{sets}
use Rattle.text.specs.Printed.{result_line}
use Rattle.text.proofs.PrintLaws.{line-length, written-front}
use Rattle.case_files.specs.Results.{shown_result}
use Rattle.case_files.proofs.result_line.Goals as goal

-- The line is what stands in front.
in_front : (l r : List ℕ) (k : ℕ) → 11 * k + 1 ≤ length l → take (11 * k + 1) (sets l 0 (result_line k r)) ≡ result_line k r
in_front l r k h =
    let z : 0 + (11 * k + 1) ≡ 11 * k + 1 = omega arith in
    let g : 0 + (11 * k + 1) ≤ length l = omega arith in
    rw z at (written-front l 0 (11 * k + 1) (result_line k r) (line-length k r) g)

pub returns-clause-shown : goal.returns-clause-shown
returns-clause-shown c =
    let w : c.args.width ≤ 16 = omega arith in
    let l : 80 ≤ length c.args.results.now = omega arith in
    rw (c.put_results.ensures, le-leb c.args.width 16 w, le-leb 80 (length c.args.results.now) l)
    (in_front c.args.text.now c.args.results.now c.args.width (omega arith))
