use native.Mathlib.Omega.{arith}
use borrow.Author.Rules.{rules}
use Rattle.maker.proofs.Whole.{make-inside, make-ready, free-mask, make-room, inputs-mask, inputs-counted, inputs-few, triggered, few-results-made, low-links, made-memory, made-answer}
use mathlib.Core.Path.{◌≡◌, ◌∙◌, ap, sym}
use mathlib.Core.Bool.{Bool, cond}
use Rattle.maker.proofs.make.Goals.{then-needed, else-needed}
use Rattle.maker.proofs.make.Goals as goal

pub mask_at-free-requires : goal.mask_at-free-requires
mask_at-free-requires c = make-inside c.args.t.now c.args.masks.now c.args.widths.now c.args.n c.requires.0

pub names_in-inputs-requires : goal.names_in-inputs-requires
names_in-inputs-requires c = inputs-mask c.args.t.now c.args.masks.now c.args.widths.now c.args.n c.requires.0 c.mask_at-free.result c.mask_at-free.ensures c.minus.result c.minus.ensures

pub overflow_cast-trigger : goal.overflow_cast-trigger
overflow_cast-trigger c =
    omega (arith, inputs-few c.args.t.now c.args.masks.now c.args.widths.now c.args.n c.requires.0 c.mask_at-free.result c.mask_at-free.ensures c.minus.result c.minus.ensures c.names_in-inputs.result c.names_in-inputs.ensures.0)

pub rising-input_links-requires : goal.rising-input_links-requires
rising-input_links-requires c = inputs-few c.args.t.now c.args.masks.now c.args.widths.now c.args.n c.requires.0 c.mask_at-free.result c.mask_at-free.ensures c.minus.result c.minus.ensures c.names_in-inputs.result c.names_in-inputs.ensures.0

pub names_in-k-requires : goal.names_in-k-requires
names_in-k-requires c = free-mask c.args.t.now c.args.masks.now c.args.widths.now c.args.n c.requires.0 c.mask_at-free.result c.mask_at-free.ensures

pub row-x-requires : goal.row-x-requires
row-x-requires c = (make-ready c.args.t.now c.args.masks.now c.args.widths.now c.args.n c.requires.0, make-room c.args.t.now c.args.masks.now c.args.widths.now c.args.n c.requires.0 c.mask_at-free.result c.mask_at-free.ensures c.names_in-k.result c.names_in-k.ensures.0, search rules)

pub first_of-result_links-requires : goal.first_of-result_links-requires
first_of-result_links-requires c = few-results-made c.args.t.now c.args.masks.now c.args.widths.now c.args.n c.requires.0 c.mask_at-free.result c.mask_at-free.ensures c.names_in-k.result c.names_in-k.ensures.0 c.numbered-env.result c.args.mem.now _ c.row-x.result c.numbered-env.ensures c.row-x.ensures

pub overflow_cast-result : goal.overflow_cast-result
overflow_cast-result c = omega (arith, low-links c.args.t.now c.args.masks.now c.args.widths.now c.args.n c.requires.0 c.mask_at-free.result c.mask_at-free.ensures c.names_in-k.result c.names_in-k.ensures.0 c.numbered-env.result c.args.mem.now _ c.row-x.result c.numbered-env.ensures c.row-x.ensures)

pub returns : goal.returns
returns c =
    let trigger : c.if-needed.trigger ≡ cond c.has-needed.result c.names_in-inputs.result 65535 =
    elim c.if-needed.branch [
      | then-needed w ↦ w.trigger-is ∙ ap (λ (b : Bool). cond b c.names_in-inputs.result 65535) (sym w.if-needed.true)
      | else-needed w ↦ w.trigger-is ∙ ap (λ (b : Bool). cond b c.names_in-inputs.result 65535) (sym w.if-needed.false)
    ]
    in
    (made-answer c.args.t.now c.args.masks.now c.args.widths.now c.args.n c.requires.0 c.mask_at-free.result c.mask_at-free.ensures c.names_in-k.result c.names_in-k.ensures.0 c.numbered-env.result c.args.mem.now _ c.row-x.result c.numbered-env.ensures c.row-x.ensures c.names_in-inputs.result c.if-needed.trigger c.has-needed.result c.rising-input_links.result c.first_of-result_links.result (inputs-counted c.args.t.now c.args.masks.now c.args.widths.now c.args.n c.requires.0 c.mask_at-free.result c.mask_at-free.ensures c.minus.result c.minus.ensures c.names_in-inputs.result c.names_in-inputs.ensures.0) (triggered c.args.t.now c.args.masks.now c.args.widths.now c.args.n c.requires.0 c.mask_at-free.result c.mask_at-free.ensures c.has-needed.result c.has-needed.ensures) trigger c.rising-input_links.ensures c.first_of-result_links.ensures, made-memory c.args.t.now c.args.masks.now c.args.widths.now c.args.n c.requires.0 c.mask_at-free.result c.mask_at-free.ensures c.names_in-k.result c.names_in-k.ensures.0 c.numbered-env.result c.args.mem.now _ c.row-x.result c.numbered-env.ensures c.row-x.ensures)
