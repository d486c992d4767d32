use Rattle.std.proofs.Common.{◌≡◌, true, arith}
use Rattle.std.proofs.lemmas.Grind.{common_steps}
use Rattle.machine_valid.specs.Valid.{figures_ok}
use Rattle.machine_valid.specs.Figures.{figures-say}
use Rattle.machine_valid.proofs.is_valid.Goals as goal

pub operators_ok-requires : goal.operators_ok-requires
operators_ok-requires c =
    let f : figures_ok c.args.mem.now ≡ true = grind (arith, common_steps) in
    let g = figures-say c.args.mem.now f in
    (omega arith, omega (arith, c.operators.ensures.0))

pub links_ok-requires : goal.links_ok-requires
links_ok-requires c =
    let f : figures_ok c.args.mem.now ≡ true = grind (arith, common_steps) in
    let g = figures-say c.args.mem.now f in
    (omega (arith, c.of-places.ensures.0, c.of-places.ensures.1), omega (arith, c.links.ensures.0))

pub inputs_ok-requires : goal.inputs_ok-requires
inputs_ok-requires c =
    let f : figures_ok c.args.mem.now ≡ true = grind (arith, common_steps) in
    let g = figures-say c.args.mem.now f in
    (omega arith, omega (arith, c.inputs-inputs.ensures.0))

pub letters_ok-requires : goal.letters_ok-requires
letters_ok-requires c =
    let f : figures_ok c.args.mem.now ≡ true = grind (arith, common_steps) in
    let g = figures-say c.args.mem.now f in
    (omega arith, omega (arith, c.inputs-inputs.ensures.0))

pub results_ok-requires : goal.results_ok-requires
results_ok-requires c =
    let f : figures_ok c.args.mem.now ≡ true = grind (arith, common_steps) in
    let g = figures-say c.args.mem.now f in
    (omega arith, omega (arith, c.results.ensures.0))
