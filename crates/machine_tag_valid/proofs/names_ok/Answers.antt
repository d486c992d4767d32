use mathlib.Core.Path.{◌≡◌, sym, ◌∙◌, refl}
use mathlib.Core.Bool.{true, false}
use Prim.Native.Nat.{◌+◌}
use Rattle.machine_layout.specs.Layout.{inputs_of}
use Rattle.machine_valid.specs.Below.{all_below}
use Rattle.machine_valid.specs.Valid.{input_ok, letter_ok}
use Rattle.machine_tag_valid.proofs.names_ok.Goals as goal

pub returns-then-not-inputs_ok : goal.returns-then-not-inputs_ok
returns-then-not-inputs_ok c =
    let n : all_below (inputs_of c.args.mem.now + 1) (input_ok c.args.mem.now) ≡ false = sym (rw c.inputs-inputs.ensures.0 at c.inputs_ok.ensures) ∙ c.if-not-inputs_ok.true in
    rw n refl

pub returns-then-not-letters_ok : goal.returns-then-not-letters_ok
returns-then-not-letters_ok c =
    let n : all_below (inputs_of c.args.mem.now + 1) (input_ok c.args.mem.now) ≡ true = sym (rw c.inputs-inputs.ensures.0 at c.inputs_ok.ensures) ∙ c.if-not-inputs_ok.false in
    let w : all_below (inputs_of c.args.mem.now) (letter_ok c.args.mem.now) ≡ false = sym (rw c.inputs-inputs.ensures.0 at c.letters_ok.ensures) ∙ c.if-not-letters_ok.true in
    rw (n, w) refl

pub returns : goal.returns
returns c =
    let n : all_below (inputs_of c.args.mem.now + 1) (input_ok c.args.mem.now) ≡ true = sym (rw c.inputs-inputs.ensures.0 at c.inputs_ok.ensures) ∙ c.if-not-inputs_ok.false in
    let w : all_below (inputs_of c.args.mem.now) (letter_ok c.args.mem.now) ≡ true = sym (rw c.inputs-inputs.ensures.0 at c.letters_ok.ensures) ∙ c.if-not-letters_ok.false in
    rw (n, w) (rw c.results.ensures.0 at c.results_ok.ensures)
