use native.Mathlib.Omega.{arith}
use Rattle.session.proofs.Reading.{no-sheet, short-sheet, long-sheet}
use Rattle.session_run.proofs.read_sheet.Goals as goal

pub returns-in_default : goal.returns-in_default
returns-in_default g c = no-sheet c.args.first.now c.none_seen-none.result c.none_seen-none.ensures

pub returns-then-length-lt-SHEET : goal.returns-then-length-lt-SHEET
returns-then-length-lt-SHEET g c = short-sheet c.read_full-length.new.buf c.read_full-length.result c.none_seen-none.result c.scan-seen.result (omega (arith, c.read_full-length.ensures.in_bounds)) c.none_seen-none.ensures c.scan-seen.ensures

pub returns : goal.returns
returns g c = long-sheet c.read_full-length.new.buf c.read_full-length.result c.none_seen-none.result c.scan-seen.result c.see_rest-all.result (omega (arith, c.read_full-length.ensures.in_bounds)) c.if-length-lt-SHEET.false c.none_seen-none.ensures c.scan-seen.ensures c.see_rest-all.ensures
