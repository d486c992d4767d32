use native.Mathlib.Omega.{arith}
use Prim.Native.Nat.{ℕ, ◌+◌, ◌*◌, ◌<◌}
use mathlib.Core.Path.{◌≡◌, sym, ◌∙◌, ap, refl}
use mathlib.Core.List.{List}
use mathlib.Core.Option.{Option}
use mathlib.Core.Bool.{Bool, true, false}
use lib.ListN.{length, get_or}
use lib.Seq.{slice}
use Rattle.value.specs.declared.Value.{Value}
use Rattle.value.specs.Bytes.{is_some, value_of, stored}
use Rattle.value.specs.Kinds.{of_kind}
use Rattle.text.specs.Fields.{field_value, word_by}
use Rattle.text.specs.SetLines.{line_at, field_at}
use Rattle.text.proofs.SetLineLaws.{field-at, wells-none, wells-more, wells-fail, bytes-none, bytes-more, short-line, unended-line, ended-line}
use Rattle.text.specs.SetLineLaws.{field_well}
use Rattle.text.proofs.ValueBytes.{field-word}
use Rattle.text_read.proofs.sets.read_set.Goals as goal
use Rattle.text_read.proofs.sets.read_set.Goals.{then-s-at-via-then-s-at, then-s-at-via-else-s-at+then-s-at-ne10}

false-true : {A : Type 0} → ◌≡◌ {A = Bool} false true → A
false-true e = let z : ◌≡◌ {A = ℕ} 0 1 = cc in absurd (omega arith)

-- The word that is read at a field's place is that of the line's field.

field-read : (kinds s : List ℕ) (at j w : ℕ) → j < length kinds → w ≡ word_by (field_value (slice (at + 11 * j) (at + 11 * j + 11) s))
    → w ≡ word_by (field_value (field_at (line_at kinds s at) j))
field-read kinds s at j w h e = e ∙ ap (λ (x : List ℕ). word_by (field_value x)) (sym (field-at kinds s at j h))

-- Whether it is of its kind is what the code asks.

well-read : (kinds s : List ℕ) (at j w : ℕ) (b c : Bool) → j < length kinds → w ≡ word_by (field_value (slice (at + 11 * j) (at + 11 * j + 11) s))
    → b ≡ is_some (of_kind (get_or kinds j 0) (value_of w)) → b ≡ c → field_well kinds (line_at kinds s at) j ≡ c
well-read kinds s at j w b c h e p q =
    ap (λ (o : Option Value). is_some (of_kind (get_or kinds j 0) o)) (sym (ap value_of (field-read kinds s at j w h e) ∙ field-word (field_at (line_at kinds s at) j))) ∙ sym p ∙ q

pub returns-then-s-at : goal.returns-then-s-at
returns-then-s-at c = elim c.then-s-at.branch [
  | then-s-at-via-then-s-at w ↦ (sym (short-line c.args.kinds.now c.args.s.now c.args.at w.if-s-at.true), λ e. false-true e)
  | then-s-at-via-else-s-at+then-s-at-ne10 w ↦ (sym (unended-line c.args.kinds.now c.args.s.now c.args.at w.if-s-at.false w.if-s-at-ne10.true), λ e. false-true e)
]

pub bounds-s-at : goal.bounds-s-at
bounds-s-at c = omega (arith, c.if-s-at.false)

pub loop-j-init : goal.loop-j-init
loop-j-init c = (refl, wells-none c.args.kinds.now (line_at c.args.kinds.now c.args.s.now c.args.at), bytes-none (line_at c.args.kinds.now c.args.s.now c.args.at) c.args.out.now)

pub word_in-word-requires : goal.word_in-word-requires
word_in-word-requires c = omega (arith, c.if-s-at.false)

pub shape_of-out-then-not-is_of_kind : goal.shape_of-out-then-not-is_of_kind
shape_of-out-then-not-is_of_kind c = c.loop-j.invariant.0

pub returns-then-not-is_of_kind : goal.returns-then-not-is_of_kind
returns-then-not-is_of_kind c =
    let l : List ℕ = line_at c.args.kinds.now c.args.s.now c.args.at in
    let f : field_well c.args.kinds.now l c.loop-j.j ≡ false =
    well-read c.args.kinds.now c.args.s.now c.args.at c.loop-j.j c.word_in-word.result c.is_of_kind.result false c.loop-j-test.true c.word_in-word.ensures c.is_of_kind.ensures (c.if-not-is_of_kind.true) in
    (sym (ended-line c.args.kinds.now c.args.s.now c.args.at c.if-s-at.false c.if-s-at-ne10.false ∙ wells-fail c.args.kinds.now (length c.args.kinds.now) l c.loop-j.j c.loop-j-test.true f), λ e. false-true e)

pub store-requires : goal.store-requires
store-requires c = omega (arith, c.loop-j.invariant.0)

pub loop-j-smaller : goal.loop-j-smaller
loop-j-smaller c = omega arith

pub loop-j-preserved : goal.loop-j-preserved
loop-j-preserved c =
    let l : List ℕ = line_at c.args.kinds.now c.args.s.now c.args.at in
    let f : field_well c.args.kinds.now l c.loop-j.j ≡ true =
    well-read c.args.kinds.now c.args.s.now c.args.at c.loop-j.j c.word_in-word.result c.is_of_kind.result true c.loop-j-test.true c.word_in-word.ensures c.is_of_kind.ensures (c.if-not-is_of_kind.false) in
    let w = field-read c.args.kinds.now c.args.s.now c.args.at c.loop-j.j c.word_in-word.result c.loop-j-test.true c.word_in-word.ensures in
    (c.store.auto.s ∙ c.loop-j.invariant.0, wells-more c.args.kinds.now l c.loop-j.j c.loop-j.invariant.1 f, c.store.ensures ∙ ap (stored c.loop-j.out (5 * c.loop-j.j)) w ∙ bytes-more l c.args.out.now c.loop-j.j c.loop-j.out c.loop-j.invariant.2 (omega arith))

pub shape_of-out : goal.shape_of-out
shape_of-out c = c.loop-j.invariant.0

pub returns : goal.returns
returns c =
    let e : c.loop-j.j ≡ length c.args.kinds.now = omega arith in
    (sym (ended-line c.args.kinds.now c.args.s.now c.args.at c.if-s-at.false c.if-s-at-ne10.false ∙ (rw e at c.loop-j.invariant.1)), λ z. (rw e at c.loop-j.invariant.2))
