-- Laws of specs/StandsValid.antt, and what only they need.
use Prim.Native.Nat.{ℕ, zero, suc, ◌+◌, ◌*◌, ◌≤◌, ◌<◌}
use Rattle.std.specs.Prelude.{◌≡◌, ◌≢◌, Bool, true, false, cond, ◌&&◌, ◌||◌, not, drop, leb, eqb}
use Rattle.std.proofs.Math.Path.{refl, ap, ap₂}
use Rattle.std.proofs.Common.{sym, ◌∙◌, subst, get_or-take, arith}
use mathlib.Core.List.{List, ◌++◌}
use Rattle.std.proofs.Math.Option.{Option, none, some}
use Rattle.std.proofs.Math.ListN.{length, get_or}
use Rattle.std.proofs.Math.Seq.{get_or-drop}
use Rattle.std.proofs.Math.Dec.{ltb}
use borrow.Author.Tests.{lt-ltb, le-ltb, le-leb, eq-eqb, ne_eqb}
use Rattle.std.proofs.Math.Decide.{ℕ_discrete}
use Rattle.value.specs.declared.Value.{Value}
use Rattle.value.specs.Operators.{pick}
use Rattle.value.specs.Bytes.{InRange, word_of, value_of, is_some}
use Rattle.value.specs.Constants.{in_constant_range}
use Rattle.value.specs.Kinds.{is_letter}
use Rattle.value.proofs.Words.{value-of-word}
use Rattle.names.specs.Names.{bit}
use Rattle.formula.specs.Refusals.{number_of}
use Rattle.formula.specs.declared.Refusal.TheVariants.{Memory, Altered}
use Rattle.network.specs.Rules.{Kind, constant, copy, operator, T-gate, F-gate, M-gate, E-gate, IC-gate, FM-gate, FS-gate, Register}
use Rattle.network.specs.Net.{Token, Links}
use Rattle.network.specs.Fill.{Ports, remembering}
use Rattle.network.specs.Firing.{Holds}
use Rattle.network.specs.Uses.{In}
use Rattle.theory_pieces.specs.Sets.{Different}
use Rattle.machine_queue.specs.Stretch.{waiting}
use Rattle.machine_layout.specs.Layout.{links_at, input_kinds_at, capacity_byte, operators_of, links_of, inputs_of, results_of, untaken_of, no_link, number16, name_at, trigger_of, input_link, operator_at, kind_byte, port_of, size_of, link_at, need}
use Rattle.machine_layout.specs.Fits.{stretch-fits}
use Rattle.machine_layout.specs.Kinds.{byte_of, Coded, has_port, may_lack}
use Rattle.machine_firing.specs.Parts.{part_length}
use Rattle.machine_firing.specs.LinkLaws.{link_part}
use Rattle.machine_valid.specs.Below.{all_below, and_both, below_all}
use Rattle.machine_valid.specs.Valid.{counts_ok, figures_ok, unlike, unlike_at, fresh_at, result_ok, input_ok, letter_ok, port_ok, named_ok, register_ok, kind_ok, operator_ok, token_ok, stretch_ok, link_ok_from, link_ok, valid}
use Rattle.machine_calls.specs.Calls.{standing}
use Rattle.graph.specs.Assembly.{Operator}
use Rattle.graph.specs.Translation.{Made}
use Rattle.theory_reference.specs.Plugged.{link-of, ports_of}
use Rattle.theory_wiring.specs.Links.{optional, input_links, output_links}
use Rattle.demand_view.specs.Sound.{Ith, PortOf, PortIs, HeldOf, Formed, Sound}
use Rattle.demand_begin.proofs.Positions.{ith-there, ith-inputs, ith-outputs, in-first, in_rest, in-optional, in-get_d, different-parts, different-rest, different-get_d}
use Rattle.demand_view.proofs.FireCall.{stands-size}
use Rattle.demand_view.specs.Stands.{Waits, Recorded, word_in, Fine, Registered, Stands}
use Rattle.demand_begin.specs.StandsValid.{Apart, Three, In-row}

-- ---- truths
or-first : {a : Bool} (b : Bool) → a ≡ true → a || b ≡ true
or-first b e = rw e refl

or-second : (a : Bool) {b : Bool} → b ≡ true → a || b ≡ true
or-second true e = refl
or-second false e = e

-- ---- names in a row
unlike-other : (x y : ℕ) → x ≢ y → unlike x y ≡ true
unfolding unlike
unlike-other x y n = or-first (eqb x no_link) (ap not (ne_eqb x y n))

unlike-ports : (x y : Option ℕ) → Apart x y → unlike (link-of x) (link-of y) ≡ true
unfolding unlike
unlike-ports none y h = or-second (not (eqb no_link (link-of y))) (eq-eqb no_link no_link refl)
unlike-ports (some a) none h = go (ℕ_discrete a no_link)
  where
    go : Dec (a ≡ no_link) → not (eqb a no_link) || eqb a no_link ≡ true
    go (yes e) = or-second (not (eqb a no_link)) (eq-eqb a no_link e)
    go (no n) = or-first (eqb a no_link) (ap not (ne_eqb a no_link n))
unlike-ports (some a) (some b) h = or-first (eqb a no_link) (ap not (ne_eqb a b (λ e. h b (ap (λ (z : ℕ). some z) e) refl)))

three-apart : (a b c : Option ℕ) → Different (optional a ++ (optional b ++ optional c)) → Three a b c
three-apart a b c d =
    record {
      second-first = λ l p q. different-parts l (optional a) (optional b ++ optional c) d (in-optional l a q) (in-first l (optional b) (optional c) (in-optional l b p));
      third-first = λ l p q. different-parts l (optional a) (optional b ++ optional c) d (in-optional l a q) (in_rest l (optional b) (optional c) (in-optional l c p));
      third-second = λ l p q. different-parts l (optional b) (optional c) (different-rest (optional a) (optional b ++ optional c) d) (in-optional l b q) (in-optional l c p);
    }

row_first : (a b c : Option ℕ) (l : ℕ) → a ≡ some l → In-row a b c l
row_first a b c l e = in-first l (optional a) (optional b ++ optional c) (in-optional l a e)

row-second : (a b c : Option ℕ) (l : ℕ) → b ≡ some l → In-row a b c l
row-second a b c l e = in_rest l (optional a) (optional b ++ optional c) (in-first l (optional b) (optional c) (in-optional l b e))

row-third : (a b c : Option ℕ) (l : ℕ) → c ≡ some l → In-row a b c l
row-third a b c l e = in_rest l (optional a) (optional b ++ optional c) (in_rest l (optional b) (optional c) (in-optional l c e))

-- ---- one operator
kind_ok_lem : (k : Kind) → Coded k → kind_ok (byte_of k) ≡ true
unfolding kind_ok
kind_ok_lem (operator code) h = rw (le-leb 1 code h.0, le-leb code 20 (omega (arith, h.1))) refl
kind_ok_lem constant h = refl
kind_ok_lem copy h = refl
kind_ok_lem T-gate h = refl
kind_ok_lem F-gate h = refl
kind_ok_lem M-gate h = refl
kind_ok_lem E-gate h = refl
kind_ok_lem IC-gate h = refl
kind_ok_lem FM-gate h = refl
kind_ok_lem FS-gate h = refl

value-ok : (v : Value) → InRange v → is_some (value_of (word_of v)) ≡ true
value-ok v h = ap is_some (value-of-word v h)

nothing-held : (k : ℕ) (g h : Register) → (k ≡ 12 → ⊥) → h ≡ none → h ≡ g → register_ok k (word_in g) ≡ true
unfolding register_ok
nothing-held k g h n e f =
    ap (λ (r : Register). register_ok k (word_in r)) (sym f ∙ e) ∙ ap (λ (b : Bool). pick b (in_constant_range (value_of 0)) true) (ne_eqb k 12 n)

any_held : (k : ℕ) (g : Register) → (k ≡ 12 → ⊥) → 19 ≤ k → Fine g → register_ok k (word_in g) ≡ true
unfolding register_ok
any_held k none n h f = ap (λ (b : Bool). pick b (in_constant_range (value_of 0)) true) (ne_eqb k 12 n)
any_held k (some v) n h f =
    ap (λ (b : Bool). pick b (in_constant_range (value_of (word_of v))) (eqb (word_of v) 0 || (leb 19 k && is_some (value_of (word_of v))))) (ne_eqb k 12 n)
    ∙ or-second (eqb (word_of v) 0) (and_both (le-leb 19 k h) (value-ok v f))

constant-held : (g h : Register) → HeldOf constant h → h ≡ g → register_ok 12 (word_in g) ≡ true
unfolding register_ok
constant-held g none p e = absurd p
constant-held g (some v) p e = ap (λ (r : Register). in_constant_range (value_of (word_in r))) (sym e) ∙ ap in_constant_range (value-of-word v p.0) ∙ p.1

register-ok : (k : Kind) (p : Ports) (q : Links) (g : Register) → Coded k → HeldOf k p.held → Fine g → Holds (remembering k) p q g → register_ok (byte_of k) (word_in g) ≡ true
register-ok constant p q g c h f r = constant-held g p.held h r
register-ok copy p q g c h f r = nothing-held 13 g p.held (λ e. omega arith) h r
register-ok (operator code) p q g c h f r = nothing-held code g p.held (λ e. omega (arith, c)) h r
register-ok T-gate p q g c h f r = nothing-held 14 g p.held (λ e. omega arith) h r
register-ok F-gate p q g c h f r = nothing-held 15 g p.held (λ e. omega arith) h r
register-ok M-gate p q g c h f r = nothing-held 16 g p.held (λ e. omega arith) h r
register-ok E-gate p q g c h f r = nothing-held 17 g p.held (λ e. omega arith) h r
register-ok IC-gate p q g c h f r = nothing-held 18 g p.held (λ e. omega arith) h r
register-ok FM-gate p q g c h f r = any_held 19 g (λ e. omega arith) (omega arith) f
register-ok FS-gate p q g c h f r = any_held 20 g (λ e. omega arith) (omega arith) f

port-ok : (kind links p : ℕ) (x : Option ℕ) → PortOf (has_port kind p) (may_lack kind p) x → ((l : ℕ) → x ≡ some l → l < links) → port_ok kind links p (link-of x) ≡ true
unfolding port_ok
port-ok kind links p x h b = go (has_port kind p) (may_lack kind p) x h b
  where
    go : (has lacks : Bool) (x : Option ℕ) → PortOf has lacks x → ((l : ℕ) → x ≡ some l → l < links)
        → pick has (ltb (link-of x) links || (lacks && eqb (link-of x) no_link)) (eqb (link-of x) no_link) ≡ true
    go true lacks none h b = or-second (ltb no_link links) (and_both h (eq-eqb no_link no_link refl))
    go true lacks (some l) h b = or-first (lacks && eqb l no_link) (lt-ltb l links (b l refl))
    go false lacks none h b = eq-eqb no_link no_link refl
    go false lacks (some l) h b = absurd h

module _ (g : Made) (S : Sound g) (kinds : List ℕ) (capacity : ℕ) (low : 1 ≤ capacity) (high : capacity ≤ 16) (m : List ℕ) (q : Links)
    (H : Stands g kinds capacity m q) where
  -- ---- the header
  trigger-ok : ltb (trigger_of m) (links_of m) || eqb (trigger_of m) no_link ≡ true
  trigger-ok = go g.triggered H.trigger-is S.names-below
    where
      go : (b : Bool) → trigger_of m ≡ cond b g.inputs no_link → g.inputs + bit b ≤ g.links → ltb (trigger_of m) (links_of m) || eqb (trigger_of m) no_link ≡ true
      go true e h = or-first (eqb (trigger_of m) no_link) (lt-ltb (trigger_of m) (links_of m) (omega (arith, H.links-are)))
      go false e h = or-second (ltb (trigger_of m) (links_of m)) (eq-eqb (trigger_of m) no_link e)

  pub figures-valid : figures_ok m ≡ true
  unfolding figures_ok counts_ok
  figures-valid =
      and_both (le-leb 1 (capacity_byte m) (omega (arith, H.capacity-is)))
      (and_both (le-leb (capacity_byte m) 16 (omega (arith, H.capacity-is)))
      (and_both (le-leb (untaken_of m) 16 (omega (arith, H.untaken-is, H.untaken-few)))
      (and_both (le-leb (operators_of m) 1024 (omega (arith, H.operators-are, S.few-operators)))
      (and_both (le-leb (links_of m) 3105 (omega (arith, H.links-are, S.few-links)))
      (and_both (le-leb (inputs_of m) 32 (omega (arith, H.inputs_are, S.few-inputs)))
      (and_both (le-leb 1 (results_of m) (omega (arith, H.results-are, S.some_result)))
      (and_both (le-leb (results_of m) 16 (omega (arith, H.results-are, S.few-results))) trigger-ok)))))))

  -- ---- operators
  module _ (i : ℕ) (o : Operator) (at : Ith g.operators i o) where
    abbrev R : Recorded m i o
    R = H.recorded i o at

    taken-below : (l : ℕ) → In l (input_links o) → l < links_of m
    taken-below l n =
        let b : l < g.links = S.wired.takes-below i l (subst (In l) (sym (ith-inputs g.operators i o at)) n) in
        omega (arith, H.links-are)

    put-below : (l : ℕ) → In l (output_links o) → l < links_of m
    put-below l n =
        let b : l < g.links = (S.wired.puts-below i l (subst (In l) (sym (ith-outputs g.operators i o at)) n)).1 in
        omega (arith, H.links-are)

    input-apart : Three o.in1 o.in2 o.in3
    input-apart = three-apart o.in1 o.in2 o.in3 (subst Different (ith-inputs g.operators i o at) (S.wired.inputs-differ i))

    output-apart : Three o.out1 o.out2 o.out3
    output-apart = three-apart o.out1 o.out2 o.out3 (subst Different (ith-outputs g.operators i o at) (S.wired.outputs-differ i))

    across : (l : ℕ) → In l (output_links o) → In l (input_links o) → ⊥
    across l p n =
        S.wired.ports-apart i l (subst (In l) (sym (ith-inputs g.operators i o at)) n) (subst (In l) (sym (ith-outputs g.operators i o at)) p)

    names-differ : (p n : ℕ) (x y : Option ℕ) → port_of m i p ≡ link-of x → port_of m i n ≡ link-of y → Apart x y → unlike_at m (operator_at i + 2) p n ≡ true
    unfolding unlike_at
    names-differ p n x y e f h = ap₂ unlike e f ∙ unlike-ports x y h

    -- the port of a kind
    named-port : (p : ℕ) (x : Option ℕ) → port_of m i p ≡ link-of x → PortIs o p x → ((l : ℕ) → x ≡ some l → l < links_of m)
        → port_ok (kind_byte m i) (links_of m) p (port_of m i p) ≡ true
    named-port p x e h b = ap₂ (λ (k y : ℕ). port_ok k (links_of m) p y) R.kind e ∙ port-ok (byte_of o.kind) (links_of m) p x h b

    ports-valid : all_below 6 (named_ok m (operator_at i + 2) (kind_byte m i)) ≡ true
    unfolding all_below named_ok fresh_at
    ports-valid =
        let F : Formed o = S.formed i o at in
        let a = o.in1 in
        let b = o.in2 in
        let c = o.in3 in
        let x = o.out1 in
        let y = o.out2 in
        let z = o.out3 in
        let ra = row_first a b c in
        let rb = row-second a b c in
        let rc = row-third a b c in
        let rx = row_first x y z in
        let ry = row-second x y z in
        let rz = row-third x y z in
        and_both (and_both (and_both (and_both (and_both (and_both refl
        (and_both (named-port 0 a R.in1 F.in1 (λ l e. taken-below l (ra l e))) refl))
        (and_both (named-port 1 b R.in2 F.in2 (λ l e. taken-below l (rb l e)))
        (and_both refl (names-differ 1 0 b a R.in2 R.in1 input-apart.second-first))))
        (and_both (named-port 2 c R.in3 F.in3 (λ l e. taken-below l (rc l e)))
        (and_both (and_both refl (names-differ 2 0 c a R.in3 R.in1 input-apart.third-first))
        (names-differ 2 1 c b R.in3 R.in2 input-apart.third-second))))
        (and_both (named-port 3 x R.out1 F.out1 (λ l e. put-below l (rx l e)))
        (and_both (and_both (and_both refl (names-differ 3 0 x a R.out1 R.in1 (λ l e f. across l (rx l e) (ra l f))))
        (names-differ 3 1 x b R.out1 R.in2 (λ l e f. across l (rx l e) (rb l f))))
        (names-differ 3 2 x c R.out1 R.in3 (λ l e f. across l (rx l e) (rc l f))))))
        (and_both (named-port 4 y R.out2 F.out2 (λ l e. put-below l (ry l e)))
        (and_both (and_both (and_both (and_both refl (names-differ 4 0 y a R.out2 R.in1 (λ l e f. across l (ry l e) (ra l f))))
        (names-differ 4 1 y b R.out2 R.in2 (λ l e f. across l (ry l e) (rb l f))))
        (names-differ 4 2 y c R.out2 R.in3 (λ l e f. across l (ry l e) (rc l f))))
        (names-differ 4 3 y x R.out2 R.out1 output-apart.second-first))))
        (and_both (named-port 5 z R.out3 F.out3 (λ l e. put-below l (rz l e)))
        (and_both (and_both (and_both (and_both (and_both refl (names-differ 5 0 z a R.out3 R.in1 (λ l e f. across l (rz l e) (ra l f))))
        (names-differ 5 1 z b R.out3 R.in2 (λ l e f. across l (rz l e) (rb l f))))
        (names-differ 5 2 z c R.out3 R.in3 (λ l e f. across l (rz l e) (rc l f))))
        (names-differ 5 3 z x R.out3 R.out1 output-apart.third-first))
        (names-differ 5 4 z y R.out3 R.out2 output-apart.third-second)))

    operator-valid : operator_ok m i ≡ true
    unfolding operator_ok
    operator-valid =
        let F : Formed o = S.formed i o at in
        let G : Registered m q i o = H.registered i o at in
        and_both (ap kind_ok R.kind ∙ kind_ok_lem o.kind F.coded)
        (and_both ports-valid
        (ap₂ register_ok R.kind G.word ∙ register-ok o.kind (ports_of o) q G.register F.coded F.held G.fine G.held))

  operators-valid : all_below (operators_of m) (operator_ok m) ≡ true
  operators-valid =
      below_all (operators_of m) (operator_ok m)
      (λ i h. let w = ith-there g.operators i (omega (arith, H.operators-are)) in operator-valid i w.0 w.1)

  -- ---- links
  stretch-valid : (s : List ℕ) (ts : List Token) → Waits capacity s ts → length s ≡ size_of capacity → stretch_ok s ≡ true
  unfolding stretch_ok token_ok
  stretch-valid s ts W e =
      and_both (le-leb (5 * waiting s + 1) (length s) (omega (arith, W.counted, W.fits)))
      (below_all (waiting s) (token_ok s)
      (λ j h. let w = W.each j (omega (arith, W.counted)) in ap (λ (z : ℕ). is_some (value_of z)) w.3 ∙ value-ok w.0 w.1))

  link-valid : (l : ℕ) → l < g.links → link_ok m (size_of capacity) l ≡ true
  unfolding link_ok_from
  link-valid l h =
      let f = stretch-fits links_at (size_of capacity) l (omega (arith, S.few-links)) in
      stretch-valid (link_part m (size_of capacity) l) (q l) (H.waits l h) (part_length m (link_at (size_of capacity) l) (size_of capacity) (omega (arith, H.long)))

  links-valid : all_below (links_of m) (link_ok m (size_of (capacity_byte m))) ≡ true
  links-valid =
      ap (λ (c : ℕ). all_below (links_of m) (link_ok m (size_of c))) H.capacity-is
      ∙ below_all (links_of m) (link_ok m (size_of capacity)) (λ l h. link-valid l (omega (arith, H.links-are)))

  -- ---- inputs and results
  first-name : name_at m 8 0 ≡ trigger_of m
  unfolding name_at
  first-name = refl

  later-name : (j : ℕ) → name_at m 8 (suc j) ≡ input_link m j
  unfolding name_at
  later-name j = ap (number16 m) (omega arith)

  input-differs : (j : ℕ) → j < g.inputs → (p : ℕ) → p < suc j → name_at m 8 (suc j) ≢ name_at m 8 p
  input-differs j h zero k e =
      go g.triggered H.trigger-is
    where
      go : (b : Bool) → trigger_of m ≡ cond b g.inputs no_link → ⊥
      go true f = omega (arith, first-name, later-name j, H.input-links j h)
      go false f = omega (arith, first-name, later-name j, H.input-links j h, S.few-inputs)
  input-differs j h (suc p) k e = omega (arith, later-name j, later-name p, H.input-links j h, H.input-links p (omega arith))

  input-valid : (p : ℕ) → p < inputs_of m + 1 → input_ok m p ≡ true
  unfolding input_ok fresh_at unlike_at all_below
  input-valid zero h = and_both (or-second (ltb (name_at m 8 0) (links_of m)) refl) refl
  input-valid (suc j) h =
      let k : j < g.inputs = omega (arith, H.inputs_are) in
      and_both
      (or-first (eqb (suc j) 0)
      (lt-ltb (name_at m 8 (suc j)) (links_of m)
      (omega (arith, later-name j, H.input-links j k, H.links-are, S.names-below))))
      (below_all (suc j) (unlike_at m 8 (suc j)) (λ p r. unlike-other (name_at m 8 (suc j)) (name_at m 8 p) (input-differs j k p r)))

  -- the letter stored of an input's kind is that of the kinds
  letter-valid : (j : ℕ) → j < inputs_of m → letter_ok m j ≡ true
  unfolding letter_ok
  letter-valid j h =
      ap is_letter (sym (get_or-take (inputs_of m) (drop input_kinds_at m) j 0 h ∙ get_or-drop input_kinds_at m j 0))
      ∙ ap (λ (ks : List ℕ). is_letter (get_or ks j 0)) H.kinds-are ∙ H.kinds-letters j (omega (arith, H.inputs_are))

  result-valid : (p : ℕ) → p < results_of m → result_ok m 74 p ≡ true
  unfolding result_ok fresh_at unlike_at
  result-valid p h =
      let k : p < length g.results = omega (arith, H.results-are) in
      let b : get_or g.results p 0 < g.links = S.wired.results-below (get_or g.results p 0) (in-get_d p g.results k) in
      and_both (lt-ltb (name_at m 74 p) (links_of m) (omega (arith, H.result-links p k, H.links-are)))
      (below_all p (unlike_at m 74 p)
      (λ j r.
      unlike-other (name_at m 74 p) (name_at m 74 j)
      (λ e. different-get_d g.results S.wired.results-differ p j k r (sym (H.result-links p k) ∙ e ∙ H.result-links j (omega arith)))
      ))

  -- ---- the whole
  pub stands-valid : valid m ≡ true
  unfolding valid
  stands-valid =
      and_both figures-valid
      (and_both operators-valid
      (and_both links-valid
      (and_both (below_all (inputs_of m + 1) (input_ok m) input-valid)
      (and_both (below_all (inputs_of m) (letter_ok m) letter-valid) (below_all (results_of m) (result_ok m 74) result-valid)))))

  -- neither 11 nor 31
  pub stands-well : standing m ≡ 0
  unfolding standing
  stands-well =
      ap (λ (b : Bool). pick b (number_of Memory) (pick (valid m) 0 (number_of Altered)))
      (ap (λ (s : ℕ). ltb (length m) (need s)) (stands-size g S kinds capacity low high m q H) ∙ le-ltb (length m) (need (size_of capacity)) H.long)
      ∙ ap (λ (b : Bool). pick b 0 (number_of Altered)) stands-valid
