-- A statement drives the signal of a name, and calls the instance of a name, exactly where its step drives the number.
use Rattle.std.proofs.Common.{◌≡◌, ℕ, ◌+◌, ◌<◌, ◌≤◌, Bool, true, false, ◌||◌, ◌&&◌, ◌⊎◌, inl, inr, List, [], Some, length, take, slice_get, nat_le, nat_lt, refl, sym, ap, subst, ◌∙◌, arith, take-take}
use Rattle.std.specs.Prelude.{sum_by, position, unwrap_or, ◌==◌}
use Rattle.std.specs.Option.{option_map}
use Rattle.std.specs.Str.{bytes_eq}
use Rattle.std.proofs.lemmas.Bool.{cases_order, lt-leb, lt-ltb, le-leb, leb-true, ltb-true, eqb-true, eq-eqb, and_parts, and_from}
use Rattle.std.proofs.lemmas.Bool.Decides.{nat_tests}
use Rattle.std.proofs.lemmas.List.{get_or-take, length-take-le}
use Rattle.std.proofs.lemmas.List.Sums.{sum_by_more_le}
use Rattle.std.proofs.lemmas.Slice.Eq.{bytes_eq-Decides}
use Rattle.ps_base.specs.LetterCase.{folded}
use Rattle.ps_model.specs.declared.kind.Kind.TheVariants.{Equivalent}
use Rattle.ps_model.specs.declared.named.Instance as model_instance
use Rattle.ps_model.specs.Blocks.{output_count}
use Rattle.ps_model.specs.Network as net
use Rattle.ps_model.specs.Network.{Network}
use Rattle.ps_parser.specs.declared.name.Name.{Name}
use Rattle.ps_parser.specs.declared.statement.Target.TheVariants.{Name as Whole, Pin as OfPin}
use Rattle.ps_parser.specs.Tree.{StatementTree, Assign, Call}
use Rattle.ps_names.specs.declared.entry.Entry.{Entry}
use Rattle.ps_names.specs.declared.entry.Sort.{Sort}
use Rattle.ps_names.specs.declared.entry.Sort.TheVariants.{InputSignal, OutputSignal, LocalSignal, Instance, Nothing}
use Rattle.ps_names.specs.Names.{is_input, is_output, is_local}
use Rattle.ps_names.specs.Limits.{inputs, outputs, locals}
use Rattle.ps_names.specs.Stands.{number, number_at, number_as, action, network_of}
use Rattle.ps_names.proofs.Unbroken.{IsUnbroken}
use Rattle.ps_names.proofs.Targets.{IsTarget, IsInstance, IsDriven, one_name, target_range, one_instance, instance_range, below_all}
use Rattle.ps_names.proofs.ReadNames.{IsRead, IsSignal}
use Rattle.ps_names.proofs.OneDriver.{target_at, callee_at, no_pin_at, declared_is, instances_are}
use Rattle.ps_names.proofs.Whole.{kind_of_called}
use Rattle.ps_language_laws.specs.Paths.{is_among}
use Rattle.ps_language_laws.specs.Equations.{statement_leaves}
use Rattle.ps_language_laws.specs.TextScans.{plain}

-- tests that come to the same are equal
pub same_test : (a b : Bool) → (a ≡ true → b ≡ true) → (b ≡ true → a ≡ true) → a ≡ b
same_test true b there back = sym (there refl)
same_test false true there back = back refl
same_test false false there back = refl

unequal : (a b : ℕ) → a < b → (a == b) ≡ false
unequal a b less = grind (arith, nat_tests)

only_one : (b : Bool) → b ≡ true → (b || false) ≡ true
only_one b h = ap (λ c. c || false) h

pub the_one : (b : Bool) → (b || false) ≡ true → b ≡ true
the_one true h = refl
the_one false h = h

-- the outputs of a later instance come after those of an earlier one
apart : (n : Network) (i j : ℕ) → i < j → j ≤ length n.instances → net.first_pin n i + output_count (net.kind_at n i) ≤ net.first_pin n j
apart n i j h inside =
    let d : model_instance.Instance = record { name = []; kind = Equivalent } in
    let long = length-take-le j n.instances inside in
    let more = sum_by_more_le (λ x. output_count x.kind) (take j n.instances) i d (omega arith) in
    let first = ap (sum_by (λ x. output_count x.kind)) (take-take i j n.instances (omega arith)) in
    let one = ap (λ x. output_count x.kind) (get_or-take j n.instances i d h) in
    omega arith

module _ (es : List Entry) where
  -- one text without letter case has one number
  pub one_number : (m n : Name) → folded m.text ≡ folded n.text → number es m ≡ number es n
  one_number m n h = ap (λ p. number_at es (position (λ e. bytes_eq p (folded e.name.text)) es)) h

  pub read_number : (n : Name) (t : IsRead es n) → number es n ≡ number_as es t.entry.sort t.at
  read_number n t = ap (number_at es) t.declared ∙ ap (λ r. number_as es (unwrap_or (option_map (λ e. e.sort) r) Nothing) t.at) t.is

module _ (name : List ℕ) (es : List Entry) (ss : List StatementTree) (clean : IsUnbroken es ss) where
  abbrev here : Network
  here = network_of name es ss

  -- ---- signals

  -- the number of a signal is below those of the pins
  pub signal_range : (n : Name) → IsRead es n → number es n < inputs es + outputs es + locals es
  signal_range n t = by t.entry.sort refl t.signal
    where
      by : (s : Sort) → t.entry.sort ≡ s → IsSignal s → number es n < inputs es + outputs es + locals es
      by (InputSignal v) q d =
          let e = read_number es n t ∙ ap (λ u. number_as es u t.at) q in
          let less = below_all es (λ x. is_input x.sort) t.at t.entry t.is (ap is_input q) in omega arith
      by (OutputSignal v) q d =
          let e = read_number es n t ∙ ap (λ u. number_as es u t.at) q in
          let less = below_all es (λ x. is_output x.sort) t.at t.entry t.is (ap is_output q) in omega arith
      by (LocalSignal v) q d =
          let e = read_number es n t ∙ ap (λ u. number_as es u t.at) q in
          let less = below_all es (λ x. is_local x.sort) t.at t.entry t.is (ap is_local q) in omega arith
      by (Instance v) q d = absurd d
      by Nothing q d = absurd d

  -- a target with the number of a signal has its name
  target_named : (m n : Name) → IsTarget es m → (t : IsRead es n) → number es m ≡ number es n → folded n.text ≡ folded m.text
  target_named m n a t h = by t.entry.sort refl t.signal
    where
      target_here : IsDriven t.entry.sort → folded n.text ≡ folded m.text
      target_here d = (bytes_eq-Decides (folded n.text) (folded m.text)).0 (one_name es m n a (record { at = t.at; entry = t.entry; declared = t.declared; is = t.is; driven = d }) h)

      by : (s : Sort) → t.entry.sort ≡ s → IsSignal s → folded n.text ≡ folded m.text
      by (InputSignal v) q d =
          let e = read_number es n t ∙ ap (λ u. number_as es u t.at) q in
          let less = below_all es (λ x. is_input x.sort) t.at t.entry t.is (ap is_input q) in
          let range = (target_range es m a).0 in
          absurd (omega arith)
      by (OutputSignal v) q d = target_here (subst IsDriven (sym q) tt)
      by (LocalSignal v) q d = target_here (subst IsDriven (sym q) tt)
      by (Instance v) q d = absurd d
      by Nothing q d = absurd d

  abbrev declared_before : (i : ℕ) → net.declared_count here ≤ net.first_pin here i
  declared_before i = omega arith

  -- a statement drives the signal of a name where its step drives the signal's number
  pub drives_signal : (n : Name) → IsRead es n → (k : ℕ) (s : StatementTree) → slice_get ss k ≡ Some s →
      is_among (folded n.text) (statement_leaves plain [] s).driven ≡ net.drives here (number es n) (action es s)
  drives_signal n t k (Assign (OfPin m q) v) at = absurd (no_pin_at name es ss clean k m q v at)
  drives_signal n t k (Assign (Whole m) v) at =
      same_test (bytes_eq (folded n.text) (folded m.text) || false) (number es m == number es n)
      (λ h. eq-eqb (number es m) (number es n) (one_number es m n (sym ((bytes_eq-Decides (folded n.text) (folded m.text)).0 (the_one _ h)))))
      (λ h. only_one _ ((bytes_eq-Decides (folded n.text) (folded m.text)).1 (target_named m n (target_at name es ss clean k m v at) t (eqb-true (number es m) (number es n) h))))
  drives_signal n t k (Call m args) at =
      let range = signal_range n t in
      let all = declared_is name es ss clean in
      let first = declared_before (number es m) in
      sym (ap (λ b. b && nat_lt (number es n) (net.first_pin here (number es m) + output_count (net.kind_at here (number es m)))) (lt-leb (net.first_pin here (number es m)) (number es n) (omega arith)))

  -- ---- outputs of instances

  -- an output with the number of another instance's output is none of its
  other_pins : (m n : Name) → IsInstance es m → (t : IsInstance es n) → (j : ℕ) → j < output_count t.kind →
      net.drives here (net.first_pin here (number es n) + j) (action es (Call m [])) ≡ true → folded n.text ≡ folded m.text
  other_pins m n a t j small h = by (cases_order (number es m) (number es n))
    where
      s : ℕ
      s = net.first_pin here (number es n) + j

      both : (nat_le (net.first_pin here (number es m)) (net.first_pin here (number es n) + j) ≡ true)
          × (nat_lt (net.first_pin here (number es n) + j) (net.first_pin here (number es m) + output_count (net.kind_at here (number es m))) ≡ true)
      both = and_parts _ _ h

      by : (number es m ≡ number es n) ⊎ ((number es m < number es n) ⊎ (number es n < number es m)) → folded n.text ≡ folded m.text
      by (inl e) = (bytes_eq-Decides (folded n.text) (folded m.text)).0 (one_instance es m n a t e)
      by (inr (inl l)) =
          let c = instances_are name es ss clean in let r = instance_range es n t in
          let gap = apart here (number es m) (number es n) l (omega arith) in
          let high = ltb-true _ _ both.1 in
          absurd (omega arith)
      by (inr (inr l)) =
          let c = instances_are name es ss clean in let r = instance_range es m a in
          let gap = apart here (number es n) (number es m) l (omega arith) in
          let kind = ap output_count (kind_of_called name es ss clean n t) in
          let low = leb-true _ _ both.0 in
          absurd (omega arith)

  own_pin : (n : Name) (t : IsInstance es n) (j : ℕ) (i : ℕ) → j < output_count t.kind → i ≡ number es n →
      (nat_le (net.first_pin here i) (net.first_pin here (number es n) + j) && nat_lt (net.first_pin here (number es n) + j) (net.first_pin here i + output_count (net.kind_at here i))) ≡ true
  own_pin n t j i small is =
      let kind = ap output_count (kind_of_called name es ss clean n t) in
      subst (λ x. (nat_le (net.first_pin here x) (net.first_pin here (number es n) + j) && nat_lt (net.first_pin here (number es n) + j) (net.first_pin here x + output_count (net.kind_at here x))) ≡ true) (sym is)
      (and_from (nat_le (net.first_pin here (number es n)) (net.first_pin here (number es n) + j)) (nat_lt (net.first_pin here (number es n) + j) (net.first_pin here (number es n) + output_count (net.kind_at here (number es n))))
      (le-leb (net.first_pin here (number es n)) (net.first_pin here (number es n) + j) (omega arith))
      (lt-ltb (net.first_pin here (number es n) + j) (net.first_pin here (number es n) + output_count (net.kind_at here (number es n))) (omega arith)))

  -- a statement calls the instance of a name where its step drives an output's number
  pub calls_instance : (n : Name) (t : IsInstance es n) (j : ℕ) → j < output_count t.kind → (k : ℕ) (s : StatementTree) → slice_get ss k ≡ Some s →
      is_among (folded n.text) (statement_leaves plain [] s).called ≡ net.drives here (net.first_pin here (number es n) + j) (action es s)
  calls_instance n t j small k (Assign (OfPin m q) v) at = absurd (no_pin_at name es ss clean k m q v at)
  calls_instance n t j small k (Assign (Whole m) v) at =
      let range = (target_range es m (target_at name es ss clean k m v at)).1 in
      let all = declared_is name es ss clean in
      let first = declared_before (number es n) in
      sym (unequal (number es m) (net.first_pin here (number es n) + j) (omega arith))
  calls_instance n t j small k (Call m args) at =
      same_test (bytes_eq (folded n.text) (folded m.text) || false) _
      (λ h. own_pin n t j (number es m) small (one_number es m n (sym ((bytes_eq-Decides (folded n.text) (folded m.text)).0 (the_one _ h)))))
      (λ h. only_one _ ((bytes_eq-Decides (folded n.text) (folded m.text)).1 (other_pins m n (callee_at name es ss clean k m args at) t j small h)))
