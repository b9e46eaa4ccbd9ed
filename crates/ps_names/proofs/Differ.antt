-- Where no name is declared twice, the names of the application differ.
use Rattle.std.proofs.Common.{◌≡◌, ℕ, Bool, true, false, List, [], ◌∷◌, ◌++◌, map, filter, get_or, refl, sym, ap, subst, ◌∙◌, arith}
use Rattle.std.specs.List.{All, AllPairs}
use Rattle.std.proofs.lemmas.Bool.{false≢true}
use Rattle.std.proofs.lemmas.List.{map-append}
use Rattle.std.proofs.lemmas.List.Concat.{flat_map_single}
use Rattle.std.proofs.lemmas.List.Elements.{All-append}
use Rattle.std.proofs.lemmas.List.Kept.{AllPairs-filter}
use Rattle.std.proofs.lemmas.Option.{slice_get-get_or}
use Rattle.std.proofs.lemmas.Slice.Eq.{bytes_eq-Decides}
use Rattle.ps_base.specs.declared.failing.Rule.TheVariants.{N1}
use Rattle.ps_model.specs.Network as net
use Rattle.ps_base.specs.LetterCase.{SameName, folded}
use Rattle.ps_parser.specs.Tree.{StatementTree}
use Rattle.ps_names.specs.declared.entry.Entry.{Entry}
use Rattle.ps_names.specs.declared.entry.Sort.{Sort}
use Rattle.ps_names.specs.declared.entry.Sort.TheVariants.{InputSignal, OutputSignal, LocalSignal, Instance, Nothing}
use Rattle.ps_names.specs.Names.{is_input, is_output, is_local, is_instance}
use Rattle.ps_names.specs.Rules.{declared_twice, repeated}
use Rattle.ps_names.specs.Stands.{network_of, signal_named, instance_named}
use Rattle.ps_names.proofs.Distinct.{unrepeated_differ}
use Rattle.ps_names.proofs.Lists.{pairs_append, pairs_map, pairs_across, map_map}

abbrev Differ : Entry → Entry → Type 0
Differ x y = ¬ (SameName x.name.text y.name.text)

differ_back : (x y : Entry) → Differ x y → Differ y x
differ_back x y h e = h (sym e)

all_differ : (es : List Entry) → declared_twice es ≡ [] → AllPairs Differ es
all_differ es none i j d lt within alike_ =
    let x = get_or es i d in let y = get_or es j d in
    false≢true
    (sym (unrepeated_differ (λ e. e.name ∷ []) N1 [] es i j x y x.name y.name lt (ap (repeated N1 []) (flat_map_single (λ e. e.name) es) ∙ none)
    (slice_get-get_or es i d (omega arith)) (slice_get-get_or es j d within) refl refl)
    ∙ (bytes_eq-Decides (folded y.name.text) (folded x.name.text)).1 (sym alike_))

no_output_in : (s : Sort) → is_input s ≡ true → is_output s ≡ false
no_output_in (InputSignal t) h = refl
no_output_in (OutputSignal t) h = sym h
no_output_in (LocalSignal t) h = refl
no_output_in (Instance k) h = refl
no_output_in Nothing h = refl

no_local_in : (s : Sort) → is_input s ≡ true → is_local s ≡ false
no_local_in (LocalSignal t) h = sym h
no_local_in (InputSignal t) h = refl
no_local_in (OutputSignal t) h = refl
no_local_in (Instance k) h = refl
no_local_in Nothing h = refl

no_local_out : (s : Sort) → is_output s ≡ true → is_local s ≡ false
no_local_out (LocalSignal t) h = sym h
no_local_out (InputSignal t) h = refl
no_local_out (OutputSignal t) h = refl
no_local_out (Instance k) h = refl
no_local_out Nothing h = refl

abbrev no_instance_of : (is : Sort → Bool) → Type 0
no_instance_of is = (s : Sort) → is s ≡ true → is_instance s ≡ false

no_instance_in : no_instance_of is_input
no_instance_in (Instance k) h = sym h
no_instance_in (InputSignal t) h = refl
no_instance_in (OutputSignal t) h = refl
no_instance_in (LocalSignal t) h = refl
no_instance_in Nothing h = refl

no_instance_out : no_instance_of is_output
no_instance_out (Instance k) h = sym h
no_instance_out (InputSignal t) h = refl
no_instance_out (OutputSignal t) h = refl
no_instance_out (LocalSignal t) h = refl
no_instance_out Nothing h = refl

no_instance_local : no_instance_of is_local
no_instance_local (Instance k) h = sym h
no_instance_local (InputSignal t) h = refl
no_instance_local (OutputSignal t) h = refl
no_instance_local (LocalSignal t) h = refl
no_instance_local Nothing h = refl

module _ (es : List Entry) (none : declared_twice es ≡ []) where
  apart_all : AllPairs Differ es
  apart_all = all_differ es none

  across : (p q : Sort → Bool) → ((s : Sort) → p s ≡ true → q s ≡ false) → All (λ x. All (Differ x) (filter (λ e. q e.sort) es)) (filter (λ e. p e.sort) es)
  across p q h = pairs_across Differ differ_back (λ e. p e.sort) (λ e. q e.sort) (λ e. h e.sort) es apart_all

  within : (p : Sort → Bool) → AllPairs Differ (filter (λ e. p e.sort) es)
  within p = AllPairs-filter Differ (λ e. p e.sort) es apart_all

  -- each element of one list differs from those of two lists
  both : (xs ys zs : List Entry) → All (λ x. All (Differ x) ys) xs → All (λ x. All (Differ x) zs) xs → All (λ x. All (Differ x) (ys ++ zs)) xs
  both xs ys zs a b k d inside = All-append (Differ (get_or xs k d)) ys zs (a k d inside) (b k d inside)

  signals_differ : AllPairs Differ (filter (λ e. is_input e.sort) es ++ (filter (λ e. is_output e.sort) es ++ filter (λ e. is_local e.sort) es))
  signals_differ =
      let ins = filter (λ e. is_input e.sort) es in let outs = filter (λ e. is_output e.sort) es in let locs = filter (λ e. is_local e.sort) es in
      pairs_append Differ ins (outs ++ locs) (within is_input)
      (pairs_append Differ outs locs (within is_output) (within is_local) (across is_output is_local no_local_out))
      (both ins outs locs (across is_input is_output no_output_in) (across is_input is_local no_local_in))

  entries_differ : AllPairs Differ ((filter (λ e. is_input e.sort) es ++ (filter (λ e. is_output e.sort) es ++ filter (λ e. is_local e.sort) es)) ++ filter (λ e. is_instance e.sort) es)
  entries_differ =
      let ins = filter (λ e. is_input e.sort) es in let outs = filter (λ e. is_output e.sort) es in let locs = filter (λ e. is_local e.sort) es in
      let blocks = filter (λ e. is_instance e.sort) es in
      let cross = λ (x : Entry). All (Differ x) blocks in
      pairs_append Differ (ins ++ (outs ++ locs)) blocks signals_differ (within is_instance)
      (All-append cross ins (outs ++ locs) (across is_input is_instance no_instance_in)
      (All-append cross outs locs (across is_output is_instance no_instance_out) (across is_local is_instance no_instance_local)))

  names_are : (name : List ℕ) (ss : List StatementTree) →
      net.names (network_of name es ss)
      ≡ map (λ e. e.name.text) ((filter (λ e. is_input e.sort) es ++ (filter (λ e. is_output e.sort) es ++ filter (λ e. is_local e.sort) es)) ++ filter (λ e. is_instance e.sort) es)
  names_are name ss =
      let ins = filter (λ e. is_input e.sort) es in let outs = filter (λ e. is_output e.sort) es in let locs = filter (λ e. is_local e.sort) es in
      let blocks = filter (λ e. is_instance e.sort) es in
      let text = λ (e : Entry). e.name.text in
      let named = λ (xs : List Entry). map_map (λ s. s.name) signal_named xs in
      let last : map (λ s. s.name) (map signal_named outs ++ map signal_named locs) ≡ map text outs ++ map text locs =
      map-append (λ s. s.name) (map signal_named outs) (map signal_named locs) ∙ ap (λ l. l ++ map (λ s. s.name) (map signal_named locs)) (named outs)
      ∙ ap (λ l. map text outs ++ l) (named locs) in
      let all : map (λ s. s.name) (map signal_named ins ++ (map signal_named outs ++ map signal_named locs)) ≡ map text (ins ++ (outs ++ locs)) =
      map-append (λ s. s.name) (map signal_named ins) (map signal_named outs ++ map signal_named locs) ∙ ap (λ l. l ++ map (λ s. s.name) (map signal_named outs ++ map signal_named locs)) (named ins)
      ∙ ap (λ l. map text ins ++ l) (last ∙ sym (map-append text outs locs)) ∙ sym (map-append text ins (outs ++ locs)) in
      ap (λ l. l ++ map (λ i. i.name) (map instance_named blocks)) all ∙ ap (λ l. map text (ins ++ (outs ++ locs)) ++ l) (map_map (λ i. i.name) instance_named blocks)
      ∙ sym (map-append text (ins ++ (outs ++ locs)) blocks)

  pub names_differ : (name : List ℕ) (ss : List StatementTree) → AllPairs (λ a b. ¬ (SameName a b)) (net.names (network_of name es ss))
  names_differ name ss =
      subst (AllPairs (λ a b. ¬ (SameName a b))) (sym (names_are name ss))
      (pairs_map (λ a b. ¬ (SameName a b)) (λ e. e.name.text) _ entries_differ)
