-- Laws of specs/PlaneStanding.antt, and what only they need.
use Rattle.std.specs.Prelude.{ℕ, zero, suc, ◌+◌, ◌*◌, ◌≤◌, ◌<◌, ◌≡◌, Bool, false, ◌&&◌, ◌||◌, List, leb, ltb, eqb, length, get_or}
use Rattle.std.proofs.Math.Path.{refl, sym, ap, ap₂}
use Rattle.std.proofs.Common.{◌∙◌, arith}
use Rattle.std.proofs.Math.Bool.{true}
use Rattle.std.proofs.Math.Option.{Option, none, some}
use borrow.Author.Tests.{ltb-false, le-ltb, leb-true, le-leb, eqb-true, eq-eqb}
use Rattle.value.specs.declared.Value.{Value}
use Rattle.value.specs.Operators.{pick}
use Rattle.value.specs.Bytes.{decoded, is_some, value_of, word_at, word_or, stored}
use Rattle.value.specs.Constants.{in_constant_range}
use Rattle.value.proofs.Tokens.{word-of-token}
use Rattle.network.specs.Rules.{constant, FM-gate}
use Rattle.machine_layout.specs.Kinds.{byte_of}
use Rattle.machine_layout.specs.Layout.{capacity_byte, untaken_of, untaken_at, trigger_at, result_links_at, input_kinds_at, links_at, least_size, need, most_operators, most_links, most_inputs, most_results, most_untaken, operators_of, links_of, inputs_of, results_of, kind_byte, operator_at, ports_at, register_at, capacity_in}
use Rattle.machine_valid.specs.Below.{all_below, and_left, and_right, and_both, below_at, below_all}
use Rattle.machine_valid.specs.Valid.{counts_ok, figures_ok, unlike, unlike_at, fresh_at, result_ok, input_ok, letter_ok, named_ok, register_ok, kind_ok, operator_ok, stretch_ok, link_ok_from, valid}
use Rattle.machine_valid.specs.Figures.{Counts, counts-say}
use Rattle.machine_firing.specs.Fire.{register_of, plan_from}
use Rattle.machine_calls.specs.Calls.{size_in, standing}
use Rattle.machine_calls.specs.CallLaws.{standing-good}
use Rattle.machine_planes.specs.Planes.{most_tags, untaken_under, plane_at, tagged_need, plane_of}
use Rattle.machine_planes.proofs.PlaneBytes.{plane-length, plane-byte, plane-capacity, plane-untaken, plane-name, plane-word, plane-operators, plane-link-count, plane-inputs, plane-results, plane-trigger, plane-kind, plane-link}
use Rattle.machine_planes.proofs.PlaneOthers.{register-bytes-stay}
use Rattle.machine_tags.specs.TagRun.{able_under}
use Rattle.machine_tags.specs.TagValid.{tag_mark, tag_figures_ok, plain_kind, untaken_under_ok, plane_ok, tag_valid}
use Rattle.machine_tags.specs.TagCalls.{tag_standing}
use Rattle.machine_tags.specs.PlaneStanding.{Parts}

pub tag-standing-good : (m : List ℕ) → tag_standing m ≡ 0 → (tagged_need ≤ length m) × (tag_valid m ≡ true)
unfolding tag_standing
tag-standing-good m e = go (ltb (length m) tagged_need) refl (tag_valid m) refl e
  where
    go : (a : Bool) → ltb (length m) tagged_need ≡ a → (b : Bool) → tag_valid m ≡ b → ◌≡◌ {A = ℕ} (pick a 11 (pick b 0 31)) 0 → (tagged_need ≤ length m) × (tag_valid m ≡ true)
    go true p b q h = absurd (omega arith)
    go false p true q h = (ltb-false (length m) tagged_need p, q)
    go false p false q h = absurd (omega arith)

halves : (a b : Bool) → a && b ≡ true → (a ≡ true) × (b ≡ true)
halves a b e = (and_left a b e, and_right a b e)

pub tag-valid-says : (m : List ℕ) → tag_valid m ≡ true → Parts m
unfolding tag_valid tag_figures_ok
tag-valid-says m e =
    let p1 = halves _ _ e in
    let f1 = halves _ _ p1.0 in
    let f2 = halves _ _ f1.1 in
    let p2 = halves _ _ p1.1 in
    let p3 = halves _ _ p2.1 in
    let p4 = halves _ _ p3.1 in
    let p5 = halves _ _ p4.1 in
    let p6 = halves _ _ p5.1 in
    let p7 = halves _ _ p6.1 in
    record {
      mark = eqb-true (capacity_byte m) tag_mark f1.0;
      empty = eqb-true (untaken_of m) 0 f2.0;
      counts = f2.1;
      operators = p2.0;
      plain = p3.0;
      bytes = p4.0;
      planes = p5.0;
      inputs = p6.0;
      letters = p7.0;
      results = p7.1;
    }

pub tag-valid-made : (m : List ℕ) → Parts m → tag_valid m ≡ true
unfolding tag_valid tag_figures_ok
tag-valid-made m p =
    and_both (and_both (eq-eqb (capacity_byte m) tag_mark p.mark) (and_both (eq-eqb (untaken_of m) 0 p.empty) p.counts))
    (and_both p.operators (and_both p.plain (and_both p.bytes (and_both p.planes (and_both p.inputs (and_both p.letters p.results))))))

pub tag-parts : (m : List ℕ) → tag_standing m ≡ 0 → Parts m
tag-parts m st = tag-valid-says m (tag-standing-good m st).1

pub tag-counts : (m : List ℕ) → tag_standing m ≡ 0 → Counts m
tag-counts m st = counts-say m (tag-parts m st).counts

pub tag-standing-made : (m : List ℕ) → tagged_need ≤ length m → Parts m → tag_standing m ≡ 0
unfolding tag_standing
tag-standing-made m long p = rw (le-ltb (length m) tagged_need long, tag-valid-made m p) refl

-- ---- each test of refusal 31 in the machine of a tag
-- two tests that agree
pub below-same : (n : ℕ) (f g : ℕ → Bool) → ((i : ℕ) → i < n → f i ≡ g i) → all_below n f ≡ all_below n g
unfolding all_below
below-same zero f g h = refl
below-same (suc n) f g h = ap₂ ◌&&◌ (below-same n f g (λ i k. h i (omega arith))) (h n (omega arith))

module _ (m : List ℕ) (t : ℕ) (long : tagged_need ≤ length m) (tag : t < most_tags) where
  pub counts_same : counts_ok (plane_of m t) ≡ counts_ok m
  unfolding counts_ok
  counts_same = rw (plane-operators m t long tag, plane-link-count m t long tag, plane-inputs m t long tag, plane-results m t long tag, plane-trigger m t long tag) refl

  fresh-same : (at p : ℕ) → untaken_at < at → at + 2 * p + 2 ≤ links_at → fresh_at (plane_of m t) at p ≡ fresh_at m at p
  unfolding fresh_at unlike_at
  fresh-same at p h k = below-same p _ _ (λ q l. ap₂ unlike (plane-name m t long tag at p h k) (plane-name m t long tag at q h (omega arith)))

  named-same : (at kind p : ℕ) → untaken_at < at → at + 2 * p + 2 ≤ links_at → named_ok (plane_of m t) at kind p ≡ named_ok m at kind p
  unfolding named_ok
  named-same at kind p h k = rw (plane-link-count m t long tag, plane-name m t long tag at p h k, fresh-same at p h k) refl

  operator-same : (i : ℕ) → i < most_operators → operator_ok (plane_of m t) i ≡ operator_ok m i
  unfolding operator_ok
  operator-same i few =
      rw (
        plane-kind m t long tag i few,
        below-same 6 (named_ok (plane_of m t) (operator_at i + ports_at) (kind_byte m i)) (named_ok m (operator_at i + ports_at) (kind_byte m i))
            (λ p h. named-same (operator_at i + ports_at) (kind_byte m i) p (omega arith) (omega arith)),
        plane-word m t long tag (register_at i) (omega arith) (omega arith),
      ) refl

  input-same : (p : ℕ) → p ≤ most_inputs → input_ok (plane_of m t) p ≡ input_ok m p
  unfolding input_ok
  input-same p h = rw (plane-link-count m t long tag, plane-name m t long tag trigger_at p (omega arith) (omega arith), fresh-same trigger_at p (omega arith) (omega arith)) refl

  letter-same : (j : ℕ) → j < most_inputs → letter_ok (plane_of m t) j ≡ letter_ok m j
  unfolding letter_ok
  letter-same j h = rw (plane-byte m t long tag (input_kinds_at + j) (omega arith) (omega arith) (omega arith)) refl

  result-same : (p : ℕ) → p < most_results → result_ok (plane_of m t) result_links_at p ≡ result_ok m result_links_at p
  unfolding result_ok
  result-same p h = rw (plane-link-count m t long tag, plane-name m t long tag result_links_at p (omega arith) (omega arith), fresh-same result_links_at p (omega arith) (omega arith)) refl

  link-same : (l : ℕ) → l < most_links → link_ok_from (plane_of m t) links_at least_size l ≡ link_ok_from m (plane_at t) least_size l
  unfolding link_ok_from
  link-same l h = ap stretch_ok (plane-link m t long tag l h)

  pub plane-size : size_in (plane_of m t) ≡ least_size
  unfolding capacity_in
  plane-size = rw (plane-capacity m t long tag) refl

  -- the whole: the tag's byte for the sets untaken, its plane for the links
  pub plane-valid : counts_ok m ≡ true → valid (plane_of m t)
      ≡ (leb (untaken_under m t) most_untaken && counts_ok m)
      && (all_below (operators_of m) (operator_ok m)
      && (plane_ok m t
      && (all_below (inputs_of m + 1) (input_ok m) && (all_below (inputs_of m) (letter_ok m) && all_below (results_of m) (result_ok m result_links_at)))))
  unfolding valid figures_ok plane_ok
  plane-valid e =
      let c = counts-say m e in
      rw (
        plane-capacity m t long tag,
        plane-untaken m t long tag,
        counts_same,
        plane-operators m t long tag,
        plane-link-count m t long tag,
        plane-inputs m t long tag,
        plane-results m t long tag,
        below-same (operators_of m) (operator_ok (plane_of m t)) (operator_ok m) (λ i h. operator-same i (omega arith)),
        below-same (links_of m) (link_ok_from (plane_of m t) links_at least_size) (link_ok_from m (plane_at t) least_size) (λ l h. link-same l (omega arith)),
        below-same (inputs_of m + 1) (input_ok (plane_of m t)) (input_ok m) (λ p h. input-same p (omega arith)),
        below-same (inputs_of m) (letter_ok (plane_of m t)) (letter_ok m) (λ j h. letter-same j (omega arith)),
        below-same (results_of m) (result_ok (plane_of m t) result_links_at) (result_ok m result_links_at) (λ p h. result-same p (omega arith)),
      ) refl

  -- the memory of a tag's machine is as long as that machine needs
  pub plane-standing : standing (plane_of m t) ≡ pick (valid (plane_of m t)) 0 31
  unfolding standing
  plane-standing = rw (plane-size, le-ltb (length (plane_of m t)) (need least_size) (omega (arith, plane-length m t long tag))) refl

-- ---- good standing, both ways
pub tag-byte-small : (m : List ℕ) → tag_standing m ≡ 0 → (t : ℕ) → t < most_tags → untaken_under m t ≤ 1
unfolding untaken_under_ok
tag-byte-small m st t tag = leb-true (untaken_under m t) 1 (below_at most_tags (untaken_under_ok m) (tag-parts m st).bytes t tag)

pub plane-stands : (m : List ℕ) → tag_standing m ≡ 0 → (t : ℕ) → t < most_tags → standing (plane_of m t) ≡ 0
plane-stands m st t tag =
    let long = (tag-standing-good m st).0 in
    let p = tag-parts m st in
    let few = le-leb (untaken_under m t) most_untaken (omega (arith, tag-byte-small m st t tag)) in
    let plane = below_at most_tags (plane_ok m) p.planes t tag in
    plane-standing m t long tag
    ∙ rw (plane-valid m t long tag p.counts, few, p.counts, p.operators, plane, p.inputs, p.letters, p.results) refl

-- the other way round: what each tag's machine shows, with the mark, the kinds and the bytes of the tags
module _ (m : List ℕ) (long : tagged_need ≤ length m) (all : (t : ℕ) → t < most_tags → standing (plane_of m t) ≡ 0) where
  shown-valid : (t : ℕ) → t < most_tags → valid (plane_of m t) ≡ true
  shown-valid t tag = (standing-good (plane_of m t) (all t tag)).1

  shown-counts : counts_ok m ≡ true
  unfolding valid figures_ok
  shown-counts =
      let x = plane_of m 0 in
      let figures : figures_ok x ≡ true = and_left (figures_ok x) _ (shown-valid 0 (omega arith)) in
      let above = and_right (leb 1 (capacity_byte x)) _ figures in
      let capacity = and_right (leb (capacity_byte x) 16) _ above in
      sym (counts_same m 0 long (omega arith)) ∙ and_right (leb (untaken_of x) most_untaken) _ capacity

  -- behind the figures
  shown_rest : (t : ℕ) → t < most_tags → all_below (operators_of m) (operator_ok m)
      && (plane_ok m t
      && (all_below (inputs_of m + 1) (input_ok m) && (all_below (inputs_of m) (letter_ok m) && all_below (results_of m) (result_ok m result_links_at)))) ≡ true
  shown_rest t tag = and_right (leb (untaken_under m t) most_untaken && counts_ok m) _ (sym (plane-valid m t long tag shown-counts) ∙ shown-valid t tag)

pub planes-stand : (m : List ℕ) → tagged_need ≤ length m → capacity_byte m ≡ tag_mark → untaken_of m ≡ 0
    → ((i : ℕ) → i < operators_of m → plain_kind m i ≡ true) → ((t : ℕ) → t < most_tags → untaken_under_ok m t ≡ true)
    → ((t : ℕ) → t < most_tags → standing (plane_of m t) ≡ 0) → tag_standing m ≡ 0
planes-stand m long mark empty plain bytes all =
    let operators = all_below (operators_of m) (operator_ok m) in
    let first = and_right (plane_ok m 0) _ (and_right operators _ (shown_rest m long all 0 (omega arith))) in
    let behind = and_right (all_below (inputs_of m + 1) (input_ok m)) _ first in
    tag-standing-made m long (record {
      mark = mark;
      empty = empty;
      counts = shown-counts m long all;
      operators = and_left operators _ (shown_rest m long all 0 (omega arith));
      plain = below_all (operators_of m) (plain_kind m) plain;
      bytes = below_all most_tags (untaken_under_ok m) bytes;
      planes = below_all most_tags (plane_ok m) (λ t tag. and_left (plane_ok m t) _ (and_right operators _ (shown_rest m long all t tag)));
      inputs = and_left (all_below (inputs_of m + 1) (input_ok m)) _ first;
      letters = and_left (all_below (inputs_of m) (letter_ok m)) _ behind;
      results = and_right (all_below (inputs_of m) (letter_ok m)) _ behind;
    })

-- ---- registers
-- a register in its range is read back as it stands
register-read : (kind w : ℕ) → register_ok kind w ≡ true → word_or (decoded (value_of w)) ≡ w
unfolding register_ok
register-read kind w e = word-of-token w ∙ by_kind (eqb kind (byte_of constant)) e
  where
    constant-read : (o : Option Value) → in_constant_range o ≡ true → pick (is_some o) w 0 ≡ w
    constant-read (some v) h = refl
    constant-read none h = absurd (let z : ◌≡◌ {A = ℕ} 0 1 = cc in omega arith)

    others-read : (a b c : Bool) → eqb w 0 ≡ a → a || (b && c) ≡ true → pick c w 0 ≡ w
    others-read a b true p h = refl
    others-read true b false p h = sym (eqb-true w 0 p)
    others-read false true false p h = absurd (let z : ◌≡◌ {A = ℕ} 0 1 = cc in omega arith)
    others-read false false false p h = absurd (let z : ◌≡◌ {A = ℕ} 0 1 = cc in omega arith)

    by_kind : (b : Bool) → pick b (in_constant_range (value_of w)) (eqb w 0 || (leb (byte_of FM-gate) kind && is_some (value_of w))) ≡ true → pick (is_some (value_of w)) w 0 ≡ w
    by_kind true h = constant-read (value_of w) h
    by_kind false h = others-read (eqb w 0) (leb (byte_of FM-gate) kind) (is_some (value_of w)) refl h

-- no kind of a graph without for remembers
pub registers-stay : (m : List ℕ) → tag_standing m ≡ 0 → (i t : ℕ) → i < operators_of m → ((j : ℕ) → j < 5 → get_or m (register_at i + j) 0 < 256) → able_under m i t ≡ true →
    stored m (register_at i) (plan_from m (plane_at t) least_size i).register ≡ m
unfolding operator_ok plain_kind register_of
registers-stay m st i t few small able =
    let p = tag-parts m st in
    let plain = leb-true (kind_byte m i) _ (below_at (operators_of m) (plain_kind m) p.plain i few) in
    let ok = and_right (kind_ok (kind_byte m i)) _ (below_at (operators_of m) (operator_ok m) p.operators i few) in
    let held = and_right (all_below 6 (named_ok m (operator_at i + ports_at) (kind_byte m i))) _ ok in
    register-bytes-stay m (plane_at t) least_size i small (omega arith) (register-read (kind_byte m i) (word_at m (register_at i)) held) able
