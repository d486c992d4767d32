-- Laws of specs/JoinRows.antt, and what only they need.
use Rattle.std.specs.Prelude.{ℕ, ◌+◌, ◌<◌, ◌≡◌, refl, Bool, true, false, cond, ◌&&◌, List, length, get_or, replicate}
use Rattle.std.proofs.Common.{sym, ap, ◌∙◌, arith}
use Rattle.std.proofs.lemmas.Bool.{false≢true}
use Rattle.std.proofs.Math.Option.{Option, none, some}
use Rattle.std.proofs.lemmas.List.{length-replicate, get_or-replicate}
use Rattle.value.specs.declared.Value.{Value}
use Rattle.value.specs.declared.Sense.{Sense}
use Rattle.value.specs.declared.Sense.TheVariants.{True, False, Neither}
use Rattle.value.specs.Senses.{err, sense}
use Rattle.network.specs.Values.{true-value, false-value, err-value}
use Rattle.graph.specs.Yields.{Values, absent, present, YieldsIn}
use Rattle.graph.specs.Translation.{iterated_name, returned_name, join_name, merge_row, except_row, straight}
use Rattle.theory_yields.proofs.Gates.{M-second, M-third, M-err, M-rests, E-passes, E-err, E-rests, differ}
use Rattle.theory_yields.specs.Joins.{join_i, join_r}
use Rattle.theory_yields.proofs.Lookups.{length-present, present-at, present-replicate, length-absent, absent-at}
use Rattle.theory_yields.proofs.Rows.{merge-yields, except-yields, straight-yields, copied-yields}
use Rattle.theory_yields.specs.JoinRows.{Hold, Empty}

errs-at : (w i : ℕ) → i < w → get_or (present (replicate w err)) i none ≡ some err-value
errs-at w i l = ap (λ (vs : List (Option Value)). get_or vs i none) (present-replicate w err) ∙ get_or-replicate w i (some err) none l

length-errs : (w : ℕ) → length (present (replicate w err)) ≡ w
length-errs w = length-present (replicate w err) ∙ length-replicate w err

module _ (cut : Option ℕ) (ρ : Values) (c : ℕ) where
  -- ---- a row of M
  module _ (s : Bool → ℕ) (w : ℕ) where
    pub merge-second : (v : Value) (vs : List Value) → ρ c ≡ some v → sense v ≡ True → length vs ≡ w → Hold ρ (s true) vs → Empty ρ (s false) w
        → YieldsIn cut (merge_row c s w) ρ 0 (some (present vs))
    merge-second v vs e t n p q =
        merge-yields cut ρ c s w (present vs) (length-present vs ∙ n)
        (λ i l.
        rw (present-at vs i (omega arith), e, p i (omega arith), q i l) (M-second v (get_or vs i err) t)
        )

    pub merge-third : (v : Value) (vs : List Value) → ρ c ≡ some v → sense v ≡ False → length vs ≡ w → Empty ρ (s true) w → Hold ρ (s false) vs
        → YieldsIn cut (merge_row c s w) ρ 0 (some (present vs))
    merge-third v vs e t n p q =
        merge-yields cut ρ c s w (present vs) (length-present vs ∙ n)
        (λ i l.
        rw (present-at vs i (omega arith), e, p i l, q i (omega arith)) (M-third v (get_or vs i err) t)
        )

    pub merge-err : (v : Value) → ρ c ≡ some v → sense v ≡ Neither → Empty ρ (s true) w → Empty ρ (s false) w
        → YieldsIn cut (merge_row c s w) ρ 0 (some (present (replicate w err)))
    merge-err v e t p q =
        merge-yields cut ρ c s w (present (replicate w err)) (length-errs w)
        (λ i l. rw (errs-at w i l, e, p i l, q i l) (M-err v t))

    pub merge-rests : ρ c ≡ none → Empty ρ (s true) w → Empty ρ (s false) w → YieldsIn cut (merge_row c s w) ρ 0 (some (absent w))
    merge-rests e p q =
        merge-yields cut ρ c s w (absent w) (length-absent w) (λ i l. rw (absent-at w i, e, p i l, q i l) M-rests)

  -- ---- a row of E
  module _ (s w : ℕ) where
    pub except-passes : (v : Value) (t : Sense) (vs : List Value) → ρ c ≡ some v → sense v ≡ t → (t ≡ Neither → ⊥) → length vs ≡ w → Hold ρ s vs
        → YieldsIn cut (except_row c s w) ρ 0 (some (present vs))
    except-passes v t vs e d k n p =
        except-yields cut ρ c s w (present vs) (length-present vs ∙ n)
        (λ i l. rw (present-at vs i (omega arith), e, p i (omega arith)) (E-passes v (get_or vs i err) t d k))

    pub except-err : (v : Value) → ρ c ≡ some v → sense v ≡ Neither → Empty ρ s w
        → YieldsIn cut (except_row c s w) ρ 0 (some (present (replicate w err)))
    except-err v e t p =
        except-yields cut ρ c s w (present (replicate w err)) (length-errs w) (λ i l. rw (errs-at w i l, e, p i l) (E-err v t))

    pub except-rests : ρ c ≡ none → Empty ρ s w → YieldsIn cut (except_row c s w) ρ 0 (some (absent w))
    except-rests e p =
        except-yields cut ρ c s w (absent w) (length-absent w) (λ i l. rw (absent-at w i, e, p i l) E-rests)

-- ---- results that pass straight
module _ (cut : Option ℕ) (ρ : Values) (s w : ℕ) where
  straight-passes : (vs : List Value) → length vs ≡ w → Hold ρ s vs → YieldsIn cut (straight s w) ρ 0 (some (present vs))
  straight-passes vs n p =
      straight-yields cut ρ s w (present vs) (length-present vs ∙ n) (λ i l. p i (omega arith) ∙ sym (present-at vs i (omega arith)))

  straight-rests : Empty ρ s w → YieldsIn cut (straight s w) ρ 0 (some (absent w))
  straight-rests p = straight-yields cut ρ s w (absent w) (length-absent w) (λ i l. p i l ∙ sym (absent-at w i))

-- ---- the join of the iterated results
module _ (cut : Option ℕ) (ρ : Values) where
  pub join_i-rests : (b c : Bool) (m n : ℕ) → (b ≡ true → c ≡ true → m ≡ n) → (b && c ≡ true → ρ (join_name + 1) ≡ none)
      → Empty ρ (iterated_name true) (cond b m 0) → Empty ρ (iterated_name false) (cond c n 0)
      → YieldsIn cut (join_i b c m n) ρ 0 (some (absent (cond b m (cond c n 0))))
  join_i-rests true true m n s e p q = merge-rests cut ρ (join_name + 1) iterated_name m (e refl) p (λ i l. q i (omega (arith, l, s refl refl)))
  join_i-rests true false m n s e p q = straight-rests cut ρ (iterated_name true) m p
  join_i-rests false true m n s e p q = straight-rests cut ρ (iterated_name false) n q
  join_i-rests false false m n s e p q = (refl, refl)

  pub join_i-takes-first : (b c : Bool) (m n : ℕ) (vs : List Value) → b ≡ true → (b ≡ true → c ≡ true → m ≡ n)
      → (b && c ≡ true → ρ (join_name + 1) ≡ some true-value) → length vs ≡ m → Hold ρ (iterated_name true) vs
      → Empty ρ (iterated_name false) (cond c n 0) → YieldsIn cut (join_i b c m n) ρ 0 (some (present vs))
  join_i-takes-first false c m n vs t s e k p q = absurd (false≢true t)
  join_i-takes-first true true m n vs t s e k p q =
      merge-second cut ρ (join_name + 1) iterated_name m true-value vs (e refl) refl k p (λ i l. q i (omega (arith, l, s refl refl)))
  join_i-takes-first true false m n vs t s e k p q = straight-passes cut ρ (iterated_name true) m vs k p

  pub join_i-takes-second : (b c : Bool) (m n : ℕ) (vs : List Value) → c ≡ true → (b ≡ true → c ≡ true → m ≡ n)
      → (b && c ≡ true → ρ (join_name + 1) ≡ some false-value) → length vs ≡ n → Empty ρ (iterated_name true) (cond b m 0)
      → Hold ρ (iterated_name false) vs → YieldsIn cut (join_i b c m n) ρ 0 (some (present vs))
  join_i-takes-second true true m n vs t s e k p q =
      merge-third cut ρ (join_name + 1) iterated_name m false-value vs (e refl) refl (k ∙ sym (s refl refl)) p q
  join_i-takes-second false true m n vs t s e k p q = straight-passes cut ρ (iterated_name false) n vs k q
  join_i-takes-second true false m n vs t s e k p q = absurd (false≢true t)
  join_i-takes-second false false m n vs t s e k p q = absurd (false≢true t)

  -- ---- the join of the returned results
  pub join_r-rests : (b c : Bool) (w : ℕ) → ρ (join_name + 2) ≡ none → Empty ρ (returned_name true) (cond b w 0)
      → Empty ρ (returned_name false) (cond c w 0) → YieldsIn cut (join_r b c w) ρ 0 (some (absent w))
  join_r-rests true true w e p q = merge-rests cut ρ (join_name + 2) returned_name w e p q
  join_r-rests true false w e p q = except-rests cut ρ (join_name + 2) (returned_name true) w e p
  join_r-rests false true w e p q = except-rests cut ρ (join_name + 2) (returned_name false) w e q
  join_r-rests false false w e p q =
      copied-yields cut ρ (join_name + 2) w (absent w) (length-absent w) (λ i l. e ∙ sym (absent-at w i))

  -- "a bad test makes it emit errs"
  pub join_r-errs : (b c : Bool) (w : ℕ) → ρ (join_name + 2) ≡ some err-value → Empty ρ (returned_name true) (cond b w 0)
      → Empty ρ (returned_name false) (cond c w 0) → YieldsIn cut (join_r b c w) ρ 0 (some (present (replicate w err)))
  join_r-errs true true w e p q = merge-err cut ρ (join_name + 2) returned_name w err-value e refl p q
  join_r-errs true false w e p q = except-err cut ρ (join_name + 2) (returned_name true) w err-value e refl p
  join_r-errs false true w e p q = except-err cut ρ (join_name + 2) (returned_name false) w err-value e refl q
  join_r-errs false false w e p q =
      copied-yields cut ρ (join_name + 2) w (present (replicate w err)) (length-errs w) (λ i l. e ∙ sym (errs-at w i l))

  pub join_r-takes-first : (b c : Bool) (w : ℕ) (vs : List Value) → b ≡ true → ρ (join_name + 2) ≡ some true-value → length vs ≡ w
      → Hold ρ (returned_name true) vs → Empty ρ (returned_name false) (cond c w 0) → YieldsIn cut (join_r b c w) ρ 0 (some (present vs))
  join_r-takes-first false c w vs t e k p q = absurd (false≢true t)
  join_r-takes-first true true w vs t e k p q = merge-second cut ρ (join_name + 2) returned_name w true-value vs e refl k p q
  join_r-takes-first true false w vs t e k p q =
      except-passes cut ρ (join_name + 2) (returned_name true) w true-value True vs e refl (differ True Neither (λ n. omega arith)) k p

  pub join_r-takes-second : (b c : Bool) (w : ℕ) (vs : List Value) → c ≡ true → ρ (join_name + 2) ≡ some false-value → length vs ≡ w
      → Empty ρ (returned_name true) (cond b w 0) → Hold ρ (returned_name false) vs → YieldsIn cut (join_r b c w) ρ 0 (some (present vs))
  join_r-takes-second true true w vs t e k p q = merge-third cut ρ (join_name + 2) returned_name w false-value vs e refl k p q
  join_r-takes-second false true w vs t e k p q =
      except-passes cut ρ (join_name + 2) (returned_name false) w false-value False vs e refl (differ False Neither (λ n. omega arith)) k q
  join_r-takes-second true false w vs t e k p q = absurd (false≢true t)
  join_r-takes-second false false w vs t e k p q = absurd (false≢true t)
