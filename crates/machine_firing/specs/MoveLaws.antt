-- Which decisions the moves of the code are: a removal from two links, and one or two tokens given. A link of number 65535 changes nothing, so one law
-- holds for every choice of inputs that takes from at most one data input. Assumes nothing but, of the register's place, that the memory is as long
-- as its links need and that they begin behind the registers.
use Rattle.std.specs.Prelude.{ℕ, ◌+◌, ◌*◌, ◌≤◌, ◌<◌, ◌≡◌, Bool, ◌&&◌, get_or, Option, Some, None}
use Rattle.std.proofs.Math.Path.{refl, ap}
use Rattle.std.proofs.Common.{sym, ◌∙◌, true≢false, arith}
use Rattle.std.proofs.Math.Bool.{true, false, not}
use Rattle.std.proofs.lemmas.Bool.{false≢true}
use mathlib.Core.List.{List}
use Rattle.std.proofs.Math.ListN.{length}
use Rattle.value.specs.declared.Value.{Value}
use Rattle.value.specs.Operators.{pick}
use Rattle.value.specs.Bytes.{decoded, value_of, word_or, word_at, stored}
use Rattle.machine_gates.specs.Decide.{Decided, does, idle, is_absent}
use Rattle.machine_gates.specs.Gates.{passes, passing, dropping}
use Rattle.machine_gates.specs.GateLaws.{Leaves}
use Rattle.machine_layout.specs.Layout.{no_link, links_at, need_from, operator_at, port_of, register_at}
use Rattle.machine_firing.specs.Links.{room_from, removed_from, appended_from}
use Rattle.machine_firing.specs.LinkLaws.{length_removed, low-removed, length-appended, low-appended}
use Rattle.machine_firing.specs.Fire.{Plan, taken, given, planned, register_of, ready_from, moved_from, performed_from}
use Rattle.machine_firing.specs.Moves.{Done, Moves, Fires, taken_two, given_one, given_two}

and-true : (x : Bool) → x && true ≡ x
and-true true = refl
and-true false = refl

-- ---- what was done, in other words

module _ (m m' : List ℕ) (dry r : Bool) where
  pub said : (able able' : Bool) (changed changed' : List ℕ) → able ≡ able' → changed ≡ changed' → Done m m' dry r able changed → Done m m' dry r able' changed'
  unfolding Done
  said able able' changed changed' p q d = (d.0 ∙ p, d.1 ∙ ap (λ (c : List ℕ). pick (r && not dry) c m) q)

  -- where it could not, it does not matter what it would have left
  unable : (changed changed' : List ℕ) → Done m m' dry r false changed → Done m m' dry r false changed'
  unfolding Done
  unable changed changed' d = (d.0, d.1 ∙ go r d.0)
    where
      go : (b : Bool) → b ≡ false → pick (b && not dry) changed m ≡ pick (b && not dry) changed' m
      go true e = absurd (true≢false e)
      go false e = refl

-- ---- the decisions

module _ (m : List ℕ) (base size i : ℕ) (dry : Bool) where
  pub moves-idle : Moves m m base size i dry false idle
  unfolding Done planned ready_from
  moves-idle = (refl, refl)

  pub fires-idle : Fires m m base size i dry false idle
  unfolding Done planned ready_from
  fires-idle = (refl, refl)

module _ (m m' : List ℕ) (base size i : ℕ) (dry r : Bool) (t1 t2 t3 : Bool) (once : t2 && t3 ≡ false) where
  abbrev plan : Option Value → Option Value → Option Value → Option Value → Plan
  plan a b c g = planned m (operator_at i + 2) (does t1 t2 t3 a b c g)

  -- the links that are taken from
  abbrev from : ℕ
  from = pick t1 (port_of m i 0) no_link

  abbrev chosen : ℕ
  chosen = pick t2 (port_of m i 1) (pick t3 (port_of m i 2) no_link)

  takes : removed_from (removed_from (removed_from m base size (taken t1 (port_of m i 0))) base size (taken t2 (port_of m i 1))) base size (taken t3 (port_of m i 2))
      ≡ taken_two m base size from chosen
  unfolding taken removed_from taken_two
  takes = go t2 t3 once
    where
      go : (u v : Bool) → u && v ≡ false →
          removed_from (removed_from (removed_from m base size from) base size (pick u (port_of m i 1) no_link)) base size (pick v (port_of m i 2) no_link)
          ≡ removed_from (removed_from m base size from) base size (pick u (port_of m i 1) (pick v (port_of m i 2) no_link))
      go true true e = absurd (true≢false e)
      go true false e = refl
      go false v e = refl

  module _ (a b c g : Option Value) (there : is_absent a ≡ false) where
    ready-one : is_absent b ≡ true → is_absent c ≡ true → ready_from m base size (plan a b c g) ≡ room_from m base size (port_of m i 3)
    unfolding planned ready_from given room_from
    ready-one p q = rw (there, p, q) (and-true (room_from m base size (port_of m i 3)))

    moved-one : is_absent b ≡ true → is_absent c ≡ true → moved_from m base size (plan a b c g) ≡ given_one m base size from chosen (port_of m i 3) (word_or a)
    unfolding planned moved_from given appended_from given_one
    moved-one p q = rw (there, p, q) (ap (λ (x : List ℕ). appended_from x base size (port_of m i 3) (word_or a)) takes)

    ready-second : is_absent b ≡ false → is_absent c ≡ true → ready_from m base size (plan a b c g) ≡ room_from m base size (port_of m i 3) && room_from m base size (port_of m i 4)
    unfolding planned ready_from given room_from
    ready-second p q = rw (there, p, q, and-true (room_from m base size (port_of m i 4))) refl

    moved-second : is_absent b ≡ false → is_absent c ≡ true →
        moved_from m base size (plan a b c g) ≡ given_two m base size from chosen (port_of m i 3) (word_or a) (port_of m i 4) (word_or b)
    unfolding planned moved_from given appended_from given_two
    moved-second p q =
        rw (there, p, q) (ap (λ (x : List ℕ). appended_from (appended_from x base size (port_of m i 3) (word_or a)) base size (port_of m i 4) (word_or b)) takes)

    ready-third : is_absent b ≡ true → is_absent c ≡ false → ready_from m base size (plan a b c g) ≡ room_from m base size (port_of m i 3) && room_from m base size (port_of m i 5)
    unfolding planned ready_from given room_from
    ready-third p q = rw (there, p, q) refl

    moved-third : is_absent b ≡ true → is_absent c ≡ false →
        moved_from m base size (plan a b c g) ≡ given_two m base size from chosen (port_of m i 3) (word_or a) (port_of m i 5) (word_or c)
    unfolding planned moved_from given appended_from given_two
    moved-third p q =
        rw (there, p, q) (ap (λ (x : List ℕ). appended_from (appended_from x base size (port_of m i 3) (word_or a)) base size (port_of m i 5) (word_or c)) takes)

  -- one token given
  pub gives_one : (a g : Option Value) → is_absent a ≡ false →
      Done m m' dry r (room_from m base size (port_of m i 3)) (given_one m base size from chosen (port_of m i 3) (word_or a)) → Moves m m' base size i dry r (passes t1 t2 t3 a g)
  gives_one a g there d =
      said m m' dry r _ _ _ _ (sym (ready-one a None None g there refl refl)) (sym (moved-one a None None g there refl refl)) d

  -- two tokens given, on the first output and the second or third
  pub gives-second : (a b c g : Option Value) → is_absent a ≡ false → is_absent b ≡ false → is_absent c ≡ true →
      Done m m' dry r (room_from m base size (port_of m i 3) && room_from m base size (port_of m i 4)) (given_two m base size from chosen (port_of m i 3) (word_or a) (port_of m i 4) (word_or b)) →
      Moves m m' base size i dry r (does t1 t2 t3 a b c g)
  gives-second a b c g there p q d = said m m' dry r _ _ _ _ (sym (ready-second a b c g there p q)) (sym (moved-second a b c g there p q)) d

  pub gives-third : (a b c g : Option Value) → is_absent a ≡ false → is_absent b ≡ true → is_absent c ≡ false →
      Done m m' dry r (room_from m base size (port_of m i 3) && room_from m base size (port_of m i 5)) (given_two m base size from chosen (port_of m i 3) (word_or a) (port_of m i 5) (word_or c)) →
      Moves m m' base size i dry r (does t1 t2 t3 a b c g)
  gives-third a b c g there p q d = said m m' dry r _ _ _ _ (sym (ready-third a b c g there p q)) (sym (moved-third a b c g there p q)) d

  -- one token given and remembered
  pub remembers : (a : Option Value) → is_absent a ≡ false →
      Done m m' dry r (room_from m base size (port_of m i 3)) (stored (given_one m base size from chosen (port_of m i 3) (word_or a)) (register_at i) (word_or a)) →
      Fires m m' base size i dry r (passes t1 t2 t3 a a)
  unfolding performed_from planned
  remembers a there d =
      said m m' dry r _ _ _ _ (sym (ready-one a None None a there refl refl))
      (ap (λ (x : List ℕ). stored x (register_at i) (word_or a)) (sym (moved-one a None None a there refl refl))) d

  -- a token passed, remembered or dropped where it waits
  pub passes-data : (a g : Option Value) →
      Done m m' dry r (not (is_absent a) && room_from m base size (port_of m i 3)) (given_one m base size from chosen (port_of m i 3) (word_or a)) →
      Moves m m' base size i dry r (passing t1 t2 t3 a g)
  unfolding planned ready_from
  passes-data a g = go (is_absent a) refl
    where
      go : (t : Bool) → is_absent a ≡ t → Done m m' dry r (not t && room_from m base size (port_of m i 3)) (given_one m base size from chosen (port_of m i 3) (word_or a)) →
          Moves m m' base size i dry r (pick t idle (passes t1 t2 t3 a g))
      go true e d = unable m m' dry r _ _ d
      go false e d = gives_one a g e d

  pub remembers-data : (a : Option Value) →
      Done m m' dry r (not (is_absent a) && room_from m base size (port_of m i 3)) (stored (given_one m base size from chosen (port_of m i 3) (word_or a)) (register_at i) (word_or a)) →
      Fires m m' base size i dry r (passing t1 t2 t3 a a)
  unfolding planned ready_from
  remembers-data a = go (is_absent a) refl
    where
      go : (t : Bool) → is_absent a ≡ t →
          Done m m' dry r (not t && room_from m base size (port_of m i 3)) (stored (given_one m base size from chosen (port_of m i 3) (word_or a)) (register_at i) (word_or a)) →
          Fires m m' base size i dry r (pick t idle (passes t1 t2 t3 a a))
      go true e d = unable m m' dry r _ _ d
      go false e d = remembers a e d

  pub drops-data : (a g : Option Value) → Done m m' dry r (not (is_absent a)) (taken_two m base size from chosen) → Moves m m' base size i dry r (dropping t1 t2 t3 a g)
  unfolding planned ready_from moved_from given room_from appended_from
  drops-data a g = go (is_absent a)
    where
      go : (t : Bool) → Done m m' dry r (not t) (taken_two m base size from chosen) → Moves m m' base size i dry r (pick t idle (passes t1 t2 t3 None g))
      go true d = unable m m' dry r _ _ d
      go false d = said m m' dry r _ _ _ _ refl (sym takes) d

-- ---- the moves leave the registers

module _ (m : List ℕ) (base size : ℕ) (h : need_from base size ≤ length m) (p : Plan) where
  abbrev m1 : List ℕ
  m1 = removed_from m base size p.in1

  abbrev m2 : List ℕ
  m2 = removed_from m1 base size p.in2

  abbrev m3 : List ℕ
  m3 = removed_from m2 base size p.in3

  abbrev m4 : List ℕ
  m4 = appended_from m3 base size p.out1 p.word1

  abbrev m5 : List ℕ
  m5 = appended_from m4 base size p.out2 p.word2

  moved-low : (at : ℕ) → at < base → get_or (moved_from m base size p) at 0 ≡ get_or m at 0
  unfolding moved_from
  moved-low at q =
      let h1 : need_from base size ≤ length m1 = omega (arith, length_removed m base size h p.in1) in
      let h2 : need_from base size ≤ length m2 = omega (arith, length_removed m1 base size h1 p.in2) in
      let h3 : need_from base size ≤ length m3 = omega (arith, length_removed m2 base size h2 p.in3) in
      let h4 : need_from base size ≤ length m4 = omega (arith, length-appended m3 base size h3 p.out1 p.word1) in
      let h5 : need_from base size ≤ length m5 = omega (arith, length-appended m4 base size h4 p.out2 p.word2) in
      low-appended m5 base size h5 p.out3 p.word3 at q
      ∙ low-appended m4 base size h4 p.out2 p.word2 at q
      ∙ low-appended m3 base size h3 p.out1 p.word1 at q
      ∙ low-removed m2 base size h2 p.in3 at q
      ∙ low-removed m1 base size h1 p.in2 at q
      ∙ low-removed m base size h p.in1 at q

  pub moved-register : links_at ≤ base → (i : ℕ) → i < 1024 → register_of (moved_from m base size p) i ≡ register_of m i
  unfolding register_of word_at
  moved-register above i small =
      rw (moved-low (register_at i) (omega arith), moved-low (register_at i + 1) (omega arith), moved-low (register_at i + 2) (omega arith), moved-low (register_at i + 3) (omega arith), moved-low (register_at i + 4) (omega arith)) refl

-- a firing is the tokens moved and the register stored that the decision leaves
pub completed : (m : List ℕ) (base size i : ℕ) (g : Option Value) (d : Decided) → ready_from m base size (planned m (operator_at i + 2) d) ≡ true → Leaves g d →
    stored (moved_from m base size (planned m (operator_at i + 2) d)) (register_at i) (word_or g) ≡ performed_from m base size i (planned m (operator_at i + 2) d)
unfolding performed_from planned ready_from
completed m base size i g d ready leaves =
    ap (λ (x : Option Value). stored (moved_from m base size (planned m (operator_at i + 2) d)) (register_at i) (word_or x)) (sym (leaves (able d.able _ ready)))
  where
    able : (x y : Bool) → x && y ≡ true → x ≡ true
    able true y e = refl
    able false y e = e
