use native.Mathlib.Omega.{arith}
use mathlib.Core.Path.{sym, ap, ◌∙◌}
use mathlib.Core.List.{List}
use Prim.Native.Nat.{ℕ}
use lib.ListN.{length}
use Rattle.machine_layout.specs.Layout.{size_of}
use Rattle.machine_start.specs.Start.{named, lettered, emptied}
use Rattle.machine_start.specs.Completed.{input_names, result_names, completed, input-name-count, result-name-count}
use Rattle.machine_start.proofs.complete.Goals as goal

pub overflow_cast-made : goal.overflow_cast-made
overflow_cast-made c = let m = c.requires.2.operators in omega arith

pub overflow_cast-inputs : goal.overflow_cast-inputs
overflow_cast-inputs c = let m = c.requires.2.inputs in omega arith

pub overflow_cast-results : goal.overflow_cast-results
overflow_cast-results c = let m = c.requires.2.results in omega arith

pub slice_bounds-input_links-end : goal.slice_bounds-input_links-end
slice_bounds-input_links-end c = omega (arith, c.requires.2.inputs, c.requires.2.input-places)

pub slice_bounds-store_names-end : goal.slice_bounds-store_names-end
slice_bounds-store_names-end c = sym (input-name-count c.args.made c.requires.2)

pub store_names-requires : goal.store_names-requires
store_names-requires c = let n = input-name-count c.args.made c.requires.2 in omega (arith, c.mem-1.given, c.requires.2.inputs)

pub slice_bounds-result_links-end : goal.slice_bounds-result_links-end
slice_bounds-result_links-end c = omega (arith, c.requires.2.results, c.requires.2.result-places)

pub slice_bounds-store_names-end-2 : goal.slice_bounds-store_names-end-2
slice_bounds-store_names-end-2 c = sym (result-name-count c.args.made c.requires.2)

pub store_names-requires-2 : goal.store_names-requires-2
store_names-requires-2 c = let n = result-name-count c.args.made c.requires.2 in omega (arith, c.mem-1.given, c.mem-2-1.given, c.requires.2.results)

pub store_kinds-requires : goal.store_kinds-requires
store_kinds-requires c = (c.requires.3, omega (arith, c.requires.1, c.mem-1.given, c.mem-2-1.given, c.mem-3-1.given))

pub returns : goal.returns
unfolding completed
returns c =
    c.empty_links.ensures
    ∙ ap (λ (m : List ℕ). emptied c.args.made.links (size_of c.args.capacity) m)
    (c.store_kinds.ensures
    ∙ ap (λ (m : List ℕ). lettered m c.args.kinds.now)
    (c.store_names-2.ensures
    ∙ ap (λ (m : List ℕ). named (length (result_names c.args.made)) m 74 (result_names c.args.made))
    (c.store_names.ensures
    ∙ ap (λ (m : List ℕ). named (length (input_names c.args.made)) m 10 (input_names c.args.made)) c.store_figures.ensures)))
