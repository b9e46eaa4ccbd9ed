-- The declared names of a source.
use Rattle.std.specs.Prelude.{ℕ, Bool, true, false, List, [], ◌∷◌, Option, None, Some, map, codes, position, slice_get}
use Rattle.std.specs.Prelude.{if◌then◌else◌}
use Rattle.std.specs.Option.{option_map}
use Rattle.std.specs.List.{flat_map, find}
use Rattle.ps_base.specs.LetterCase.{is_same_name}
use Rattle.ps_model.specs.declared.kind.Ty.TheVariants as ty
use Rattle.ps_model.specs.declared.kind.Kind.{Kind}
use Rattle.ps_model.specs.declared.kind.Kind.TheVariants.{Equivalent, Antivalent, EmergencyStop, Espe, ModeSelector}
use Rattle.ps_model.specs.declared.kind.Kind.TheVariants.{TwoHandTwo, TwoHandThree, GuardMonitoring, GuardLocking}
use Rattle.ps_model.specs.declared.kind.Kind.TheVariants.{EnableSwitch, SafetyRequest, OutControl, Edm}
use Rattle.ps_model.specs.Blocks.{block}
use Rattle.ps_parser.specs.declared.name.Name.{Name}
use Rattle.ps_parser.specs.declared.section.Part.{Part}
use Rattle.ps_parser.specs.declared.section.Part.TheVariants.{Input, Output, Local}
use Rattle.ps_parser.specs.declared.section.Declaration.{Declaration}
use Rattle.ps_parser.specs.declared.section.Section.{Section}
use Rattle.ps_parser.specs.Tree.{SourceTree}
use Rattle.ps_names.specs.declared.entry.TypeNamed.{TypeNamed}
use Rattle.ps_names.specs.declared.entry.TypeNamed.TheVariants as type_name
use Rattle.ps_names.specs.declared.entry.Sort.{Sort}
use Rattle.ps_names.specs.declared.entry.Sort.TheVariants.{InputSignal, OutputSignal, LocalSignal, Instance, Nothing}
use Rattle.ps_names.specs.declared.entry.Entry.{Entry}

-- ---- names without letter case

-- one name but for letter case
abbrev pub same : Name → Name → Bool
same a b = is_same_name a.text b.text

-- ---- types

-- The thirteen kinds of function blocks.
abbrev pub kinds : List Kind
kinds = Equivalent ∷ Antivalent ∷ EmergencyStop ∷ Espe ∷ ModeSelector ∷ TwoHandTwo ∷ TwoHandThree
    ∷ GuardMonitoring ∷ GuardLocking ∷ EnableSwitch ∷ SafetyRequest ∷ OutControl ∷ Edm ∷ []

-- the kind with this name
unfoldable pub kind_called : List ℕ → Option Kind
kind_called text = find (λ k. is_same_name text (block k).name) kinds

-- What the name of a type stands for: SAFEBOOL, BOOL or a kind.
abbrev pub type_named : List ℕ → Option TypeNamed
type_named text =
    if is_same_name text (codes "SAFEBOOL") then Some (type_name.Signal ty.Safe) else
    if is_same_name text (codes "BOOL") then Some (type_name.Signal ty.Bool) else
    option_map type_name.Block (kind_called text)

-- what a name declared in a section with a type is
abbrev pub sort_in : Part → Option TypeNamed → Sort
sort_in Input (Some (type_name.Signal t)) = InputSignal t
sort_in Output (Some (type_name.Signal t)) = OutputSignal t
sort_in Local (Some (type_name.Signal t)) = LocalSignal t
sort_in Local (Some (type_name.Block k)) = Instance k
sort_in _ _ = Nothing

-- ---- declarations

-- a name that is declared in a section with a type
abbrev pub entry_of : Part → Name → Name → Entry
entry_of part ty n = record { name = n; ty = ty.place; sort = sort_in part (type_named ty.text) }

-- the declared names of a declaration, of a section and of a source, in order
abbrev pub declares : Part → Declaration → List Entry
declares part d = map (entry_of part d.ty) d.names

-- The declared names of a section, in order.
abbrev pub section_entries : Section → List Entry
section_entries s = flat_map (declares s.part) s.declarations

-- The declared names of a source, in order.
abbrev pub entries : SourceTree → List Entry
entries p = flat_map section_entries p.sections

-- ---- what a name is

-- It is an input.
abbrev pub is_input : Sort → Bool
is_input (InputSignal t) = true
is_input _ = false

-- It is an output.
abbrev pub is_output : Sort → Bool
is_output (OutputSignal t) = true
is_output _ = false

-- It is a local.
abbrev pub is_local : Sort → Bool
is_local (LocalSignal t) = true
is_local _ = false

-- It is an instance.
abbrev pub is_instance : Sort → Bool
is_instance (Instance k) = true
is_instance _ = false

-- It is a signal of this part: an input, an output or a local.
abbrev pub is_signal_of : Part → Sort → Bool
is_signal_of Input s = is_input s
is_signal_of Output s = is_output s
is_signal_of Local s = is_local s

module _ (es : List Entry) where
  -- where a name is declared first
  abbrev pub declared_at : Name → Option ℕ
  declared_at n = position (λ e. same n e.name) es

  -- what the declaration at a place makes its name
  abbrev pub sort_at : Option ℕ → Option Sort
  sort_at None = None
  sort_at (Some k) = option_map (λ e. e.sort) (slice_get es k)

  -- What the first declaration of a name makes it; None where the name is not declared.
  abbrev pub sort_of : Name → Option Sort
  sort_of n = sort_at (declared_at n)
