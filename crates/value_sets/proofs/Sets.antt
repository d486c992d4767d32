-- Laws of specs/Sets.antt, and what only they need.
use Prim.Native.Nat.{ℕ, zero, suc, ◌+◌, ◌*◌, ◌≤◌, ◌<◌}
use Rattle.std.specs.Prelude.{◌≡◌, Bool, ◌&&◌}
use Rattle.std.proofs.Math.Path.{refl, ap}
use Rattle.std.proofs.Common.{sym, ◌∙◌, subst, drop_of_length-le, eq-eqb, ne_eqb, eqb-true}
use Rattle.std.proofs.Math.Bool.{true, false}
use Rattle.std.proofs.lemmas.Bool.{false≢true}
use mathlib.Core.List.{List, [], ◌∷◌}
use Rattle.std.proofs.Math.Option.{Option, some, none, some-injective, none-ne-some}
use Rattle.std.proofs.Math.Dec.{eqb}
use Rattle.std.proofs.Math.ListN.{length, get_or, drop}
use Rattle.std.proofs.Math.Seq.{drop-cons}
use native.Mathlib.Omega.{arith}
use Rattle.value.specs.declared.Value.{Value}
use Rattle.value.specs.Operators.{pick}
use Rattle.value.specs.Bytes.{InRange, is_some, value_of, word_of, word_at}
use Rattle.value.proofs.Words.{word-of-value, value-in-range}
use Rattle.value.specs.Senses.{err}
use Rattle.value.specs.Kinds.{suits, kind_of_letter, of_kind}
use Rattle.value_sets.specs.Sets.{joined, values_from, set_values, all_some, set_ok, field_in, later_some, Suits, Fields, IsSet}

-- ---- the test step by step
joined-some : (o : Option Value) (rest : Option (List Value)) → all_some (joined o rest) ≡ is_some o && all_some rest
joined-some (some v) (some vs) = refl
joined-some (some v) none = refl
joined-some none rest = refl

module _ (kinds : List ℕ) (i : ℕ) (set : List ℕ) where
  later-step : i < length kinds → later_some kinds i set ≡ is_some (field_in kinds set i) && later_some kinds (i + 1) set
  unfolding values_from later_some
  later-step l =
      let f : 5 * i + 5 ≡ 5 * (i + 1) = omega arith in
      let d : suc i ≡ i + 1 = omega arith in
      let e : drop i kinds ≡ get_or kinds i 0 ∷ drop (i + 1) kinds = drop-cons kinds i 0 l ∙ ap (λ (j : ℕ). get_or kinds i 0 ∷ drop j kinds) d in
      ap (λ (ks : List ℕ). all_some (values_from ks (5 * i) set)) e
      ∙ joined-some (field_in kinds set i) (values_from (drop (i + 1) kinds) (5 * i + 5) set)
      ∙ ap (λ (j : ℕ). is_some (field_in kinds set i) && all_some (values_from (drop (i + 1) kinds) j set)) f

  pub later-good : i < length kinds → is_some (field_in kinds set i) ≡ true → later_some kinds i set ≡ later_some kinds (i + 1) set
  later-good l e = later-step l ∙ ap (λ (b : Bool). b && later_some kinds (i + 1) set) e

  pub later-bad : i < length kinds → is_some (field_in kinds set i) ≡ false → later_some kinds i set ≡ false
  later-bad l e = later-step l ∙ ap (λ (b : Bool). b && later_some kinds (i + 1) set) e

  pub later-end : length kinds ≤ i → later_some kinds i set ≡ true
  unfolding values_from later_some
  later-end l = ap (λ (ks : List ℕ). all_some (values_from ks (5 * i) set)) (drop_of_length-le kinds l)

module _ (kinds set : List ℕ) where
  pub set_long : length set ≡ 5 * length kinds → set_ok kinds set ≡ later_some kinds 0 set
  unfolding set_ok later_some
  set_long e = rw (eq-eqb (length set) (5 * length kinds) e) refl

  pub set-short : (length set ≡ 5 * length kinds → ⊥) → set_ok kinds set ≡ false
  unfolding set_ok
  set-short e = rw (ne_eqb (length set) (5 * length kinds) e) refl

  -- Good fields make a set.
  pub fields-set : length set ≡ 5 * length kinds → ((j : ℕ) → j < length kinds → is_some (field_in kinds set j) ≡ true) → set_ok kinds set ≡ true
  fields-set e good = set_long e ∙ go (length kinds) 0 (omega arith)
    where
      go : (k i : ℕ) → i + k ≡ length kinds → later_some kinds i set ≡ true
      go zero i s = later-end kinds i set (omega arith)
      go (suc k) i s = later-good kinds i set (omega arith) (good i (omega arith)) ∙ go k (i + 1) (omega arith)

fields-none : (at : ℕ) (s : List ℕ) → Fields [] at s []
fields-none at s =
    record { count = refl; ranged = λ j l. absurd (omega arith); words = λ j l. absurd (omega arith); suit = λ j l. absurd (omega arith) }

-- What is of a kind is a value, and suits it.
of-kind-some : (k : ℕ) (o : Option Value) (v : Value) → of_kind k o ≡ some v → (o ≡ some v) × (suits (kind_of_letter k) v ≡ true)
unfolding of_kind
of-kind-some k none v h = absurd (none-ne-some v h)
of-kind-some k (some u) v h = go (suits (kind_of_letter k) u) refl h
  where
    go : (b : Bool) → suits (kind_of_letter k) u ≡ b → pick b (some u) none ≡ some v → (◌≡◌ {A = Option Value} (some u) (some v)) × (suits (kind_of_letter k) v ≡ true)
    go true e q = (q, subst (λ (z : Value). suits (kind_of_letter k) z ≡ true) (some-injective u v q) e)
    go false e q = absurd (none-ne-some v q)

fields-more : (k : ℕ) (kinds : List ℕ) (at : ℕ) (s : List ℕ) (v : Value) (vs : List Value) → of_kind k (value_of (word_at s at)) ≡ some v
    → Fields kinds (at + 5) s vs → Fields (k ∷ kinds) at s (v ∷ vs)
fields-more k kinds at s v vs e f = record { count = ap suc f.count; ranged = ranged; words = words; suit = suit }
  where
    read : (value_of (word_at s at) ≡ some v) × (suits (kind_of_letter k) v ≡ true)
    read = of-kind-some k (value_of (word_at s at)) v e

    ranged : (j : ℕ) → j < suc (length kinds) → InRange (get_or (v ∷ vs) j err)
    ranged zero l = value-in-range (word_at s at) v read.0
    ranged (suc j) l = f.ranged j (omega arith)

    words : (j : ℕ) → j < suc (length kinds) → word_at s (at + 5 * j) ≡ word_of (get_or (v ∷ vs) j err)
    words zero l = let z : at + 5 * 0 ≡ at = omega arith in ap (word_at s) z ∙ word-of-value (word_at s at) v read.0
    words (suc j) l = let z : at + 5 * suc j ≡ at + 5 + 5 * j = omega arith in ap (word_at s) z ∙ f.words j (omega arith)

    suit : (j : ℕ) → j < suc (length kinds) → Suits (k ∷ kinds) (v ∷ vs) j
    suit zero l = read.1
    suit (suc j) l = f.suit j (omega arith)

-- What is read are the fields' values.
read-fields : (kinds : List ℕ) (at : ℕ) (s : List ℕ) (v : List Value) → values_from kinds at s ≡ some v → Fields kinds at s v
unfolding values_from
read-fields [] at s v h = subst (Fields [] at s) (some-injective [] v h) (fields-none at s)
read-fields (k ∷ kinds) at s v h =
    go (of_kind k (value_of (word_at s at))) refl (values_from kinds (at + 5) s) (λ us q. read-fields kinds (at + 5) s us q) h
  where
    go : (o : Option Value) → of_kind k (value_of (word_at s at)) ≡ o → (rest : Option (List Value)) → ((us : List Value) → rest ≡ some us → Fields kinds (at + 5) s us)
        → joined o rest ≡ some v → Fields (k ∷ kinds) at s v
    go (some u) p (some us) ih e = subst (Fields (k ∷ kinds) at s) (some-injective (u ∷ us) v e) (fields-more k kinds at s u us p (ih us refl))
    go (some u) p none ih e = absurd (none-ne-some v e)
    go none p rest ih e = absurd (none-ne-some v e)

module _ (kinds s : List ℕ) where
  -- What is read is read of a set of that many bytes.
  opened : (v : List Value) → set_values kinds s ≡ some v → (length s ≡ 5 * length kinds) × (values_from kinds 0 s ≡ some v)
  unfolding set_values
  opened v = go (eqb (length s) (5 * length kinds)) refl
    where
      go : (b : Bool) → eqb (length s) (5 * length kinds) ≡ b → pick b (values_from kinds 0 s) none ≡ some v
          → (length s ≡ 5 * length kinds) × (values_from kinds 0 s ≡ some v)
      go true e h = (eqb-true (length s) (5 * length kinds) e, h)
      go false e h = absurd (none-ne-some v h)

  -- What evaluation reads, push takes.
  pub values-pass : (v : List Value) → set_values kinds s ≡ some v → set_ok kinds s ≡ true
  unfolding set_ok
  values-pass v h = ap all_some h

  pub values-set : (v : List Value) → set_values kinds s ≡ some v → IsSet kinds s v
  values-set v h =
      let f = read-fields kinds 0 s v (opened v h).1 in
      record {
        values = h;
        count = f.count;
        ranged = f.ranged;
        words = λ j l. let z : 5 * j ≡ 0 + 5 * j = omega arith in ap (word_at s) z ∙ f.words j l;
        suit = f.suit;
      }

  -- What push takes, evaluation reads.
  pub set_values_lem : set_ok kinds s ≡ true → (v : List Value) × IsSet kinds s v
  unfolding set_ok
  set_values_lem h = go (set_values kinds s) refl h
    where
      go : (o : Option (List Value)) → set_values kinds s ≡ o → all_some o ≡ true → (v : List Value) × IsSet kinds s v
      go (some v) e t = (v, values-set v e)
      go none e t = absurd (false≢true t)

  -- What push refuses with 12, evaluation refuses with 12.
  pub no-set : set_ok kinds s ≡ false → set_values kinds s ≡ none
  unfolding set_ok
  no-set h = go (set_values kinds s) refl h
    where
      go : (o : Option (List Value)) → set_values kinds s ≡ o → all_some o ≡ false → set_values kinds s ≡ none
      go (some v) e t = absurd (false≢true (sym t))
      go none e t = e

  pub set-length : set_ok kinds s ≡ true → length s ≡ 5 * length kinds
  set-length h = let r = set_values_lem h in (opened r.0 r.1.values).0
