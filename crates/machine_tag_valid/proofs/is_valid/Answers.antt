use native.Mathlib.Omega.{arith}
use mathlib.Core.Path.{◌≡◌, sym, ◌∙◌, refl}
use mathlib.Core.Bool.{true, false}
use Rattle.machine_layout.specs.Layout.{operators_of}
use Rattle.machine_valid.specs.Below.{all_below}
use Rattle.machine_valid.specs.Valid.{operator_ok}
use Rattle.machine_tags.specs.TagValid.{tag_figures_ok, plain_kind, untaken_under_ok, plane_ok, tag_valid}
use Rattle.machine_tag_valid.specs.TagParts.{tag-counts}
use Rattle.machine_tag_valid.proofs.is_valid.Goals as goal

pub returns-then-not-figures_ok : goal.returns-then-not-figures_ok
unfolding tag_valid
returns-then-not-figures_ok c =
    let f : tag_figures_ok c.args.mem.now ≡ false = sym c.figures_ok.ensures ∙ c.if-not-figures_ok.true in
    rw f refl

pub operators_ok-requires : goal.operators_ok-requires
operators_ok-requires c =
    let g = tag-counts c.args.mem.now (sym c.figures_ok.ensures ∙ c.if-not-figures_ok.false) in
    (omega arith, omega (arith, c.operators-operators.ensures.0))

pub returns-then-not-operators_ok : goal.returns-then-not-operators_ok
unfolding tag_valid
returns-then-not-operators_ok c =
    let f : tag_figures_ok c.args.mem.now ≡ true = sym c.figures_ok.ensures ∙ c.if-not-figures_ok.false in
    let o : all_below (operators_of c.args.mem.now) (operator_ok c.args.mem.now) ≡ false = sym (rw c.operators-operators.ensures.0 at c.operators_ok.ensures) ∙ c.if-not-operators_ok.true in
    rw (f, o) refl

pub kinds_ok-requires : goal.kinds_ok-requires
kinds_ok-requires c =
    let g = tag-counts c.args.mem.now (sym c.figures_ok.ensures ∙ c.if-not-figures_ok.false) in
    (omega arith, omega (arith, c.operators-operators.ensures.0))

pub returns-then-not-kinds_ok : goal.returns-then-not-kinds_ok
unfolding tag_valid
returns-then-not-kinds_ok c =
    let f : tag_figures_ok c.args.mem.now ≡ true = sym c.figures_ok.ensures ∙ c.if-not-figures_ok.false in
    let o : all_below (operators_of c.args.mem.now) (operator_ok c.args.mem.now) ≡ true = sym (rw c.operators-operators.ensures.0 at c.operators_ok.ensures) ∙ c.if-not-operators_ok.false in
    let k : all_below (operators_of c.args.mem.now) (plain_kind c.args.mem.now) ≡ false = sym (rw c.operators-operators.ensures.0 at c.kinds_ok.ensures) ∙ c.if-not-kinds_ok.true in
    rw (f, o, k) refl

pub returns-then-not-tags_ok : goal.returns-then-not-tags_ok
unfolding tag_valid
returns-then-not-tags_ok c =
    let f : tag_figures_ok c.args.mem.now ≡ true = sym c.figures_ok.ensures ∙ c.if-not-figures_ok.false in
    let o : all_below (operators_of c.args.mem.now) (operator_ok c.args.mem.now) ≡ true = sym (rw c.operators-operators.ensures.0 at c.operators_ok.ensures) ∙ c.if-not-operators_ok.false in
    let k : all_below (operators_of c.args.mem.now) (plain_kind c.args.mem.now) ≡ true = sym (rw c.operators-operators.ensures.0 at c.kinds_ok.ensures) ∙ c.if-not-kinds_ok.false in
    let b : all_below 16 (untaken_under_ok c.args.mem.now) ≡ false = sym c.tags_ok.ensures ∙ c.if-not-tags_ok.true in
    rw (f, o, k, b) refl

pub planes_ok-requires : goal.planes_ok-requires
planes_ok-requires c =
    let g = tag-counts c.args.mem.now (sym c.figures_ok.ensures ∙ c.if-not-figures_ok.false) in
    (omega arith, c.links.ensures.0, omega (arith, c.links.ensures.0))

pub returns-then-not-planes_ok : goal.returns-then-not-planes_ok
unfolding tag_valid
returns-then-not-planes_ok c =
    let f : tag_figures_ok c.args.mem.now ≡ true = sym c.figures_ok.ensures ∙ c.if-not-figures_ok.false in
    let o : all_below (operators_of c.args.mem.now) (operator_ok c.args.mem.now) ≡ true = sym (rw c.operators-operators.ensures.0 at c.operators_ok.ensures) ∙ c.if-not-operators_ok.false in
    let k : all_below (operators_of c.args.mem.now) (plain_kind c.args.mem.now) ≡ true = sym (rw c.operators-operators.ensures.0 at c.kinds_ok.ensures) ∙ c.if-not-kinds_ok.false in
    let b : all_below 16 (untaken_under_ok c.args.mem.now) ≡ true = sym c.tags_ok.ensures ∙ c.if-not-tags_ok.false in
    let p : all_below 16 (plane_ok c.args.mem.now) ≡ false = sym c.planes_ok.ensures ∙ c.if-not-planes_ok.true in
    rw (f, o, k, b, p) refl

pub names_ok-requires : goal.names_ok-requires
names_ok-requires c =
    let g = tag-counts c.args.mem.now (sym c.figures_ok.ensures ∙ c.if-not-figures_ok.false) in
    (omega arith, g.inputs, g.results16)

pub returns : goal.returns
unfolding tag_valid
returns c =
    let f : tag_figures_ok c.args.mem.now ≡ true = sym c.figures_ok.ensures ∙ c.if-not-figures_ok.false in
    let o : all_below (operators_of c.args.mem.now) (operator_ok c.args.mem.now) ≡ true = sym (rw c.operators-operators.ensures.0 at c.operators_ok.ensures) ∙ c.if-not-operators_ok.false in
    let k : all_below (operators_of c.args.mem.now) (plain_kind c.args.mem.now) ≡ true = sym (rw c.operators-operators.ensures.0 at c.kinds_ok.ensures) ∙ c.if-not-kinds_ok.false in
    let b : all_below 16 (untaken_under_ok c.args.mem.now) ≡ true = sym c.tags_ok.ensures ∙ c.if-not-tags_ok.false in
    let p : all_below 16 (plane_ok c.args.mem.now) ≡ true = sym c.planes_ok.ensures ∙ c.if-not-planes_ok.false in
    rw (f, o, k, b, p) c.names_ok.ensures
