-- What `q[1..end].chunks_exact(5).all(test)` answers: whether the word of every token passes.
use Prim.Native.Nat.{ℕ, zero, suc, ◌+◌, ◌*◌, ◌≤◌, ◌<◌}
use Rattle.std.specs.Prelude.{◌≡◌, Bool, true, false, ◌&&◌, List, [], ◌∷◌, ◌++◌, length, take, drop}
use Rattle.std.proofs.Math.Path.{refl}
use Rattle.std.proofs.Common.{sym, ap, ap₂, ◌∙◌, arith}
use Rattle.std.proofs.lemmas.List.{length-append, length-drop, length-take-le, get_or_append_left, get_or-take, get_or-drop}
use Rattle.std.proofs.Math.Seq.{drop-append_seam}
use denote.Ref.{Bor}
use denote.Param.Members.{Mut}
use Rattle.std.specs.Fn.{Called}
use Rattle.std.specs.Iterator.{AlwaysYields, YieldsThen}
use Rattle.std.specs.List.{list_all, FoldsTo}
use Rattle.std.specs.Option.{MatchOption}
use Rattle.std.specs.declared.option.Option.{Option}
use Rattle.std.specs.declared.slice.ChunksExact.{ChunksExact}
use Rattle.std.specs.Slice.Iter.{chunks_exact_rest, chunks_exact_size, chunks_exact_steps}
use Rattle.std.proofs.lemmas.Iterator.Search.{all_from_yields_List}
use Rattle.value.specs.Bytes.{word_at}
use Rattle.machine_valid.specs.Below.{all_below}
use Rattle.machine_valid.proofs.Ranges.{below-front}

same-below : (n : ℕ) (f g : ℕ → Bool) → ((i : ℕ) → i < n → f i ≡ g i) → all_below n f ≡ all_below n g
unfolding all_below
same-below zero f g h = refl
same-below (suc n) f g h = ap₂ (λ (b c : Bool). b && c) (same-below n f g (λ i k. h i (omega arith))) (h n (omega arith))

word-front : (xs ys : List ℕ) → length xs ≡ 5 → word_at (xs ++ ys) 0 ≡ word_at xs 0
unfolding word_at
word-front xs ys l =
    rw (get_or_append_left xs ys 0 0 (omega (arith, l)), get_or_append_left xs ys 0 1 (omega (arith, l)), get_or_append_left xs ys 0 2 (omega (arith, l)), get_or_append_left xs ys 0 3 (omega (arith, l)), get_or_append_left xs ys 0 4 (omega (arith, l))) refl

word-drop : (d : ℕ) (xs : List ℕ) (i : ℕ) → word_at (drop d xs) i ≡ word_at xs (d + i)
unfolding word_at
word-drop d xs i =
    let a : d + (i + 1) ≡ d + i + 1 = omega arith in
    let b : d + (i + 2) ≡ d + i + 2 = omega arith in
    let e : d + (i + 3) ≡ d + i + 3 = omega arith in
    let f : d + (i + 4) ≡ d + i + 4 = omega arith in
    rw (get_or-drop d xs i 0, get_or-drop d xs (i + 1) 0, get_or-drop d xs (i + 2) 0, get_or-drop d xs (i + 3) 0, get_or-drop d xs (i + 4) 0, a, b, e, f) refl

word-take : (n : ℕ) (xs : List ℕ) (i : ℕ) → i + 5 ≤ n → word_at (take n xs) i ≡ word_at xs i
unfolding word_at
word-take n xs i h = rw (get_or-take n xs i 0 (omega arith), get_or-take n xs (i + 1) 0 (omega arith), get_or-take n xs (i + 2) 0 (omega arith), get_or-take n xs (i + 3) 0 (omega arith), get_or-take n xs (i + 4) 0 (omega arith)) refl

module _ (test : ℕ → Bool) where
  -- what the tokens of a list say, five bytes a token
  said : ℕ → List ℕ → List Bool
  said zero xs = []
  said (suc n) xs = test (word_at xs 0) ∷ said n (drop 5 xs)

  yields : (n : ℕ) (xs : List ℕ) (s : ChunksExact ℕ) → chunks_exact_size s ≡ 5 → chunks_exact_rest s ≡ xs → length xs ≡ 5 * n → AlwaysYields chunks_exact_steps (λ (x : Bor (List ℕ)). test (word_at x.now 0)) s (said n xs)
  unfolding said
  yields zero xs s e r l = λ x t p. omega (arith, e, l, ap length (sym r ∙ p.1.0), length-append x.now (chunks_exact_rest t), p.1.1)
  yields (suc n) xs s e r l = (
    λ t p. omega (arith, e, l, ap length r, p.1.0),
    λ x t p.
        let whole : xs ≡ x.now ++ chunks_exact_rest t = sym r ∙ p.1.0 in
        let five : length x.now ≡ 5 = p.1.1 ∙ e in
        let left : chunks_exact_rest t ≡ drop 5 xs = sym (ap₂ drop (sym five) whole ∙ drop-append_seam x.now (chunks_exact_rest t)) in (
          ap test (sym (ap (λ (ys : List ℕ). word_at ys 0) whole ∙ word-front x.now (chunks_exact_rest t) five)),
          yields n (drop 5 xs) t (p.0 ∙ e) left (omega (arith, l, length-drop 5 xs)),
        ),
  )

  said-below : (n : ℕ) (xs : List ℕ) → list_all (λ b. b) (said n xs) ≡ all_below n (λ i. test (word_at xs (5 * i)))
  unfolding all_below said
  said-below zero xs = refl
  said-below (suc n) xs =
      ap₂ (λ (b c : Bool). b && c) refl (said-below n (drop 5 xs) ∙ same-below n _ _ (λ i k. ap test (word-drop 5 xs (5 * i) ∙ ap (word_at xs) (omega arith))))
      ∙ sym (below-front n (λ i. test (word_at xs (5 * i))))

pub tokens_from_all : {F : Type 0} {g : Mut F (Bor (List ℕ) × Unit {0}) Bool} {s : ChunksExact ℕ} (n : ℕ) (test : ℕ → Bool) (q : List ℕ) (u : ChunksExact ℕ) (f : F) (r : Bool)
    → (xs : List (Bor (List ℕ))) × (o : Option (Bor (List ℕ))) × (j : F) × YieldsThen chunks_exact_steps s xs o u × FoldsTo (λ p x t. Called g p (x, tt) true t) f xs j
    × MatchOption o (r ≡ true) (λ x. (r ≡ false) × ((h : F) × Called g j (x, tt) false h))
    → chunks_exact_size s ≡ 5 → chunks_exact_rest s ≡ take (5 * n) (drop 1 q) → 5 * n + 1 ≤ length q
    → ((x : Bor (List ℕ)) (b : Bool) (t : F) → Called g f (x, tt) b t → (t ≡ f) × (b ≡ test (word_at x.now 0))) → r ≡ all_below n (λ i. test (word_at q (5 * i + 1)))
tokens_from_all {F} {g} {s} n test q u f r ran size rest enough step =
    let long : 5 * n ≤ length (drop 1 q) = omega (arith, enough, length-drop 1 q) in
    all_from_yields_List {steps = chunks_exact_steps} {s = s} (λ b. b) u f r ran (record { runs = yields test n (take (5 * n) (drop 1 q)) s size rest (length-take-le (5 * n) (drop 1 q) long) }) step
    ∙ said-below test n (take (5 * n) (drop 1 q))
    ∙ same-below n _ _ (λ i k. ap test (word-take (5 * n) (drop 1 q) (5 * i) (omega arith) ∙ word-drop 1 q (5 * i) ∙ ap (word_at q) (omega arith)))
