-- No declared signal is of the type TIME.
use Rattle.std.proofs.Common.{◌≢◌, ℕ, Bool, true, false, cond, List, ◌++◌, Option, None, Some, map, filter}
use Rattle.std.specs.Prelude.{codes}
use Rattle.std.specs.Option.{option_map}
use Rattle.std.specs.List.{All}
use Rattle.std.proofs.lemmas.List.Elements.{All-append, All-map, All-filter}
use Rattle.ps_model.specs.declared.kind.Kind.{Kind}
use Rattle.ps_model.specs.declared.kind.Ty.TheVariants as ty
use Rattle.ps_model.specs.declared.named.Signal.{Signal}
use Rattle.ps_model.specs.Named.{AreBoolean}
use Rattle.ps_model.specs.Network.{declared_signals}
use Rattle.ps_parser.specs.declared.name.Name.{Name}
use Rattle.ps_parser.specs.declared.section.Part.{Part}
use Rattle.ps_parser.specs.declared.section.Part.TheVariants.{Input, Output, Local}
use Rattle.ps_parser.specs.Tree.{SourceTree, StatementTree}
use Rattle.ps_names.specs.declared.entry.Entry.{Entry}
use Rattle.ps_names.specs.declared.entry.TypeNamed.{TypeNamed}
use Rattle.ps_names.specs.declared.entry.TypeNamed.TheVariants as type_name
use Rattle.ps_base.specs.LetterCase.{is_same_name}
use Rattle.ps_names.specs.Names.{kind_called, type_named, sort_in, entry_of, declares, section_entries, entries, is_input, is_output, is_local}
use Rattle.ps_names.specs.Stands.{ty_of, signal_named, network_of}
use Rattle.ps_names.proofs.Lists.{all_at, all_brought}

-- what a name of a type stands for is not TIME
abbrev IsBooleanType : Option TypeNamed → Type 0
IsBooleanType (Some (type_name.Signal t)) = t ≢ ty.Time
IsBooleanType _ = Unit {0}

type_is_boolean : (text : List ℕ) → IsBooleanType (type_named text)
type_is_boolean text = by (is_same_name text (codes "SAFEBOOL")) (is_same_name text (codes "BOOL")) (kind_called text)
  where
    by : (a b : Bool) (k : Option Kind) → IsBooleanType (cond a (Some (type_name.Signal ty.Safe)) (cond b (Some (type_name.Signal ty.Bool)) (option_map type_name.Block k)))
    by true b k = λ e. cc
    by false true k = λ e. cc
    by false false None = tt
    by false false (Some kind) = tt

sort_is_boolean : (part : Part) (o : Option TypeNamed) → IsBooleanType o → ty_of (sort_in part o) ≢ ty.Time
sort_is_boolean Input (Some (type_name.Signal t)) h = h
sort_is_boolean Output (Some (type_name.Signal t)) h = h
sort_is_boolean Local (Some (type_name.Signal t)) h = h
sort_is_boolean Input (Some (type_name.Block kind)) h = λ e. cc
sort_is_boolean Output (Some (type_name.Block kind)) h = λ e. cc
sort_is_boolean Local (Some (type_name.Block kind)) h = λ e. cc
sort_is_boolean Input None h = λ e. cc
sort_is_boolean Output None h = λ e. cc
sort_is_boolean Local None h = λ e. cc

-- a declared name is of no type TIME
abbrev pub IsBoolean : Entry → Type 0
IsBoolean e = ty_of e.sort ≢ ty.Time

pub entry_is_boolean : (part : Part) (d n : Name) → IsBoolean (entry_of part d n)
entry_is_boolean part d n = sort_is_boolean part (type_named d.text) (type_is_boolean d.text)

pub entries_are_boolean : (p : SourceTree) → All IsBoolean (entries p)
entries_are_boolean p =
    all_brought IsBoolean section_entries p.sections (λ i s at. all_brought IsBoolean (declares s.part) s.declarations (λ j d there.
    All-map IsBoolean (entry_of s.part d.ty) d.names
    (all_at (λ n. IsBoolean (entry_of s.part d.ty n)) d.names (λ k n here. entry_is_boolean s.part d.ty n))))

part_is_boolean : (part : Entry → Bool) (es : List Entry) → All IsBoolean es → AreBoolean (map signal_named (filter part es))
part_is_boolean part es all =
    All-map (λ (s : Signal). s.ty ≢ ty.Time) signal_named (filter part es) (All-filter part IsBoolean es all)

pub signals_boolean : (name : List ℕ) (es : List Entry) (ss : List StatementTree) → All IsBoolean es → AreBoolean (declared_signals (network_of name es ss))
signals_boolean name es ss all =
    All-append (λ (s : Signal). s.ty ≢ ty.Time) (network_of name es ss).inputs ((network_of name es ss).outputs ++ (network_of name es ss).locals)
    (part_is_boolean (λ e. is_input e.sort) es all)
    (All-append (λ (s : Signal). s.ty ≢ ty.Time) (network_of name es ss).outputs (network_of name es ss).locals
    (part_is_boolean (λ e. is_output e.sort) es all) (part_is_boolean (λ e. is_local e.sort) es all))
