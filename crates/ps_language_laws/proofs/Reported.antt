-- A map reports what its state does.
use Rattle.std.proofs.Common.{◌≡◌, ℕ, suc, ◌+◌, true, cond, List, [], ◌∷◌, ◌++◌, Some, length, map, filter, take, get_or, slice_get, refl, sym, ap, subst, ◌∙◌, arith}
use Rattle.std.specs.List.{range_with_len, AllByRecursion}
use Rattle.ps_base.specs.LetterCase.{folded}
use Rattle.ps_model.specs.declared.named.Instance as model_instance
use Rattle.ps_model.specs.declared.named.Signal as model_signal
use Rattle.ps_model.specs.Blocks.{Block_state, idle}
use Rattle.ps_model.specs.Network as net
use Rattle.ps_model.specs.Network.{Network}
use Rattle.ps_model.specs.Scanning.{State, signal_in, block_in}
use Rattle.ps_model.specs.Meaning.{Item, nothing, Meaning, diag_in, report}
use Rattle.ps_model.specs.Sound.{IsSound}
use Rattle.ps_base.specs.declared.failing.Place.{Place}
use Rattle.ps_parser.specs.declared.name.Name.{Name}
use Rattle.ps_parser.specs.Tree.{SourceTree}
use Rattle.ps_names.specs.declared.entry.Entry.{Entry}
use Rattle.ps_names.specs.declared.entry.Sort.{Sort}
use Rattle.ps_names.specs.declared.entry.Sort.TheVariants.{InputSignal, OutputSignal, LocalSignal, Instance, Nothing}
use Rattle.ps_names.specs.Names.{entries, is_output, is_instance}
use Rattle.ps_names.specs.Limits.{inputs, outputs}
use Rattle.ps_names.specs.Rules.{offences}
use Rattle.ps_names.specs.Stands.{Stands, kind_of, signal_named, instance_named, network}
use Rattle.ps_names.proofs.Unbroken.{IsUnbroken, unbroken}
use Rattle.ps_names.proofs.Targets.{IsInstance, instance_number}
use Rattle.ps_names.proofs.Drivers.{inputs_are}
use Rattle.ps_names.proofs.Lists.{in_map}
use Rattle.ps_derived.specs.declared.library.Library.{Library}
use Rattle.ps_derived.specs.Flat.{flat}
use Rattle.ps_derived.specs.Texts.{IsLibraryWithin}
use Rattle.ps_offences.specs.BlockRules.{block_offences}
use Rattle.ps_language_laws.specs.Reading.{Values}
use Rattle.ps_language_laws.specs.TextScans.{instance_at, instances_in}
use Rattle.ps_language_laws.specs.ByName.{by_name}
use Rattle.ps_language_laws.specs.Laws.{HasSizes}
use Rattle.ps_language_laws.proofs.Seen.{IsMapOf, by_name_is, filtered}
use Rattle.ps_language_laws.proofs.Declaring.{declared_here, own, own_number, output_as}
use Rattle.ps_language_laws.specs.Runs.{TextMeaning}
use Rattle.ps_language_laws.specs.Maps.{AreAlike, AllAlike, HasFields, folded_instance, report_in, text_instances}
use Rattle.ps_language_laws.proofs.Whole.{outputs_same, text_same}
use Rattle.ps_language_laws.proofs.WholeRuns.{nested_runs_are_flat}
use Rattle.ps_language_laws.proofs.OneMap.{of_alike}
use Rattle.ps_language_laws.proofs.OneRun.{runs_alike}

-- ---- lists that are alike element by element

numbered_alike : {X Y : Type 0} (f : ℕ → Y) (g : X → Y) (start : ℕ) (xs : List X) → ((k : ℕ) (x : X) → slice_get xs k ≡ Some x → f (start + k) ≡ g x) →
    map f (range_with_len start (length xs)) ≡ map g xs
numbered_alike f g start [] each = refl
numbered_alike f g start (x ∷ xs) each =
    let rest = numbered_alike f g (start + 1) xs (λ k y at. ap f (let e : start + 1 + k ≡ start + suc k = omega arith in e) ∙ each (suc k) y at) in
    let first = ap f (let e : start ≡ start + 0 = omega arith in e) ∙ each 0 x refl in
    (λ i. first i ∷ rest i)

placed_alike : {X Y Z : Type 0} (f : X → Z) (g : Y → Z) (d : X) (xs : List X) (ys : List Y) → length xs ≡ length ys →
    ((k : ℕ) (y : Y) → slice_get ys k ≡ Some y → f (get_or xs k d) ≡ g y) → map f xs ≡ map g ys
placed_alike f g d [] [] long each = refl
placed_alike f g d [] (y ∷ ys) long each = absurd (omega arith)
placed_alike f g d (x ∷ xs) [] long each = absurd (omega arith)
placed_alike f g d (x ∷ xs) (y ∷ ys) long each =
    let rest = placed_alike f g d xs ys (omega arith) (λ k z at. each (suc k) z at) in
    let first = each 0 y refl in
    (λ i. first i ∷ rest i)

module _ (p : SourceTree) (none : offences p ≡ []) where
  abbrev es : List Entry
  es = entries p

  abbrev app : Network
  app = network p

  clean : IsUnbroken es p.statements
  clean = unbroken p.name.place es p.statements none

  -- ---- a report

  is_kind : (s : Sort) → is_instance s ≡ true → s ≡ Instance (kind_of s)
  is_kind (Instance kind) h = refl
  is_kind (InputSignal t) h = cc
  is_kind (OutputSignal t) h = cc
  is_kind (LocalSignal t) h = cc
  is_kind Nothing h = cc

  module _ (w : State) (sizes : HasSizes app w) (m : Values) (m_of : IsMapOf es w m) where
    output_shown : (k : ℕ) (s : model_signal.Signal) → slice_get app.outputs k ≡ Some s → signal_in w (net.input_count app + k) ≡ m.signal (folded s.name)
    output_shown k s at =
        let e = in_map signal_named (filter (λ (x : Entry). is_output x.sort) es) k s at in
        let f = filtered (λ (x : Entry). is_output x.sort) es k e.0 e.1 in
        let sort = output_as p.name.text es p.statements clean e.0.sort f.0 f.2 in
        let number_is = own_number p.name.text es p.statements clean f.0 e.0 f.1 sort.0 ∙ sort.1 in
        let count = f.3 in
        let first = inputs_are p.name.text es p.statements clean in
        ap (signal_in w) (let here : net.input_count app + k ≡ inputs es + outputs (take f.0 es) = omega arith in here ∙ sym number_is)
        ∙ sym (m_of.signals e.0.name (own p.name.text es p.statements clean f.0 e.0 f.1 sort.0))
        ∙ ap (λ (x : model_signal.Signal). m.signal (folded x.name)) e.2

    state_shown : (k : ℕ) (i : model_instance.Instance) → slice_get app.instances k ≡ Some i → diag_in (block_in w k).code ≡ diag_in (m.block (folded i.name)).code
    state_shown k i at =
        let e = in_map instance_named (filter (λ (x : Entry). is_instance x.sort) es) k i at in
        let f = filtered (λ (x : Entry). is_instance x.sort) es k e.0 e.1 in
        let t : IsInstance es e.0.name = record {
          at = f.0;
          entry = e.0;
          kind = kind_of e.0.sort;
          declared = declared_here p.name.text es p.statements clean f.0 e.0 f.1;
          is = f.1;
          sort = is_kind e.0.sort f.2;
        } in
        ap (λ n. diag_in (block_in w n).code) (sym f.3 ∙ sym (instance_number es e.0.name t))
        ∙ ap (λ (b : Block_state). diag_in b.code) (sym (m_of.blocks e.0.name t))
        ∙ ap (λ (x : model_instance.Instance). diag_in (m.block (folded x.name)).code) e.2

    pub report_same : report app w ≡ report_in app m
    report_same =
        let outs = numbered_alike (signal_in w) (λ (s : model_signal.Signal). m.signal (folded s.name)) (net.input_count app) app.outputs output_shown in
        let diags = placed_alike (λ (b : Block_state). diag_in b.code) (λ (i : model_instance.Instance). diag_in (m.block (folded i.name)).code) idle w.blocks app.instances sizes.block_each state_shown in
        (λ i. record { outs = outs i; diags = diags i })

  -- ---- instances by their paths

  pub paths_are : map folded_instance app.instances ≡ instances_in [] es
  paths_are = go es
    where
      kept : (n : Name) (ty : Place) (s : Sort) (later : List Entry) →
          map folded_instance (map instance_named (cond (is_instance s) (record { name = n; ty = ty; sort = s } ∷ later) later))
          ≡ instance_at (folded n.text) s ++ map folded_instance (map instance_named later)
      kept n ty (InputSignal t) later = refl
      kept n ty (OutputSignal t) later = refl
      kept n ty (LocalSignal t) later = refl
      kept n ty (Instance kind) later = refl
      kept n ty Nothing later = refl

      go : (xs : List Entry) → map folded_instance (map instance_named (filter (λ (x : Entry). is_instance x.sort) xs)) ≡ instances_in [] xs
      go [] = refl
      go (x ∷ xs) =
          kept x.name x.ty x.sort (filter (λ (y : Entry). is_instance y.sort) xs)
          ∙ ap (λ l. instance_at (folded x.name.text) x.sort ++ l) (go xs)

-- ---- of a text

module _ (depth : ℕ) (l : Library) (within : IsLibraryWithin depth l) (unbroken_blocks : block_offences l ≡ []) (app : Network) (stands : Stands (flat l) app) where
  pub fields_are : HasFields l app
  fields_are = record {
    outputs = ap (λ (n : Network). n.outputs) stands.is ∙ ap (map signal_named) (sym (outputs_same l));
    instances = ap (λ (n : Network). map folded_instance n.instances) stands.is ∙ paths_are (flat l) stands.unbroken ∙ sym (text_same depth l within unbroken_blocks).instances;
  }

  reports_same : (ws : List State) (ms : List Values) → AllByRecursion (HasSizes app) ws →
      AllAlike (text_instances l) (map (by_name (entries (flat l))) ws) ms → map (report app) ws ≡ map (report_in app) ms
  reports_same [] [] sizes same = refl
  reports_same [] (m ∷ ms) sizes same = absurd same
  reports_same (w ∷ ws) [] sizes same = absurd same
  reports_same (w ∷ ws) (m ∷ ms) sizes same =
      let instances = (text_same depth l within unbroken_blocks).instances in
      let m_of = of_alike (flat l) stands.unbroken w (by_name (entries (flat l)) w) m (subst (λ is. AreAlike is (by_name (entries (flat l)) w) m) instances same.0) (by_name_is (entries (flat l)) w) in
      let one = subst (λ n. HasSizes n w → report n w ≡ report_in n m) (sym stands.is) (λ fit. report_same (flat l) stands.unbroken w fit m m_of) sizes.0 in
      let rest = reports_same ws ms sizes.1 same.1 in
      (λ i. one i ∷ rest i)

  -- the reports of the states that items mean are those of the maps that they mean of the text
  pub reports_are : IsSound app → (items : List Item) (ws : List State) (ms : List Values) → Meaning app items ws → TextMeaning l items ms → map (report app) ws ≡ map (report_in app) ms
  reports_are sound items ws ms means meant =
      let flatly = (nested_runs_are_flat depth l app within unbroken_blocks stands items ws).0 means in
      reports_same ws ms flatly.0
      (runs_alike depth l app within unbroken_blocks stands sound nothing nothing tt items (map (by_name (entries (flat l))) ws) ms flatly.1 meant)
