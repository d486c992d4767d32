use native.Mathlib.Omega.{arith}
use Prim.Native.Nat.{ℕ, ◌≤◌}
use mathlib.Core.Path.{sym, refl, subst}
use lib.ListN.{length, take, length-take}
use lib.Seq.{length-take-le, take-take}
use mathlib.Core.Logic.{inl}
use mathlib.Core.List.{List, [], ◌++◌}
use Rattle.session.specs.Ending.{Proceeds}
use Rattle.session.proofs.OpeningLaws.{begins-proceeds}
use Rattle.session_run.proofs.run.Goals as goal

pub slice_bounds-open-end : goal.slice_bounds-open-end
slice_bounds-open-end g c = sym (length-take-le c.read_sheet-sheet.result.length c.read_sheet-sheet.new.first c.read_sheet-sheet.ensures.within)

pub slice_bounds-repeat-end-3 : goal.slice_bounds-repeat-end-3
slice_bounds-repeat-end-3 g c = sym (length-take-le c.open-opened.result.inputs c.load_kinds-told.new.line (omega (arith, c.open-opened.ensures.within.0.told, c.load_kinds-told.ensures.0, c.load_kinds-told.ensures.1)))

pub repeat-requires : goal.repeat-requires
repeat-requires g c = let w = c.open-opened.ensures.within.0 in let told : c.open-opened.result.inputs ≤ c.load_kinds-told.result = omega (arith, w.told, c.load_kinds-told.ensures.1) in let few : length (take c.open-opened.result.inputs c.load_kinds-told.new.line) ≤ 32 = omega (arith, w.few, length-take c.open-opened.result.inputs c.load_kinds-told.new.line) in let p = subst (λ (ks : List ℕ). Proceeds ks (take c.load_sets-n.result c.load_sets-n.new.sets) c.open-opened.result.stage c.open-opened.new.mem) (take-take c.open-opened.result.inputs c.load_kinds-told.result c.load_kinds-told.new.line told) (begins-proceeds (take c.read_sheet-sheet.result.length c.read_sheet-sheet.new.first ++ c.read_sheet-sheet.ensures.more) (take c.load_kinds-told.result c.load_kinds-told.new.line ++ []) (take c.load_sets-n.result c.load_sets-n.new.sets ++ []) (take c.open-opened.result.inputs (take c.load_kinds-told.result c.load_kinds-told.new.line)) (take c.load_sets-n.result c.load_sets-n.new.sets) c.open-opened.result c.open-opened.new.mem c.open-opened.new.out (c.open-opened.ensures.opens_to c.read_sheet-sheet.ensures.more [] [] c.read_sheet-sheet.ensures.whole (inl refl) (inl refl))) in record { kinds_len_bound = (few, w.inside, w.fits, omega (arith, c.open-opened.auto.out)); proceeds = p }
