-- A source with its inputs and outputs in the order of an application.
use Rattle.std.specs.Prelude.{◌≡◌, ◌+◌, ℕ, Bool, not, ◌&&◌, List, [], ◌∷◌, ◌++◌, if◌then◌else◌, length, nat_lt, Option, Some, None}
use Rattle.std.specs.List.{flat_map, list_any, range_with_len}
use Rattle.ps_base.specs.LetterCase.{is_same_name}
use Rattle.ps_base.specs.declared.failing.Refusal.{Refusal}
use Rattle.ps_model.specs.Network.{Network, input_count, signal_name}
use Rattle.ps_names.specs.Offences.{refused}
use Rattle.ps_names.specs.Rules.{offences}
use Rattle.ps_names.specs.Stands.{Stands}
use Rattle.ps_parser.specs.Tree.{SourceTree}
use Rattle.ps_parser.specs.declared.name.Name.{Name}
use Rattle.ps_parser.specs.declared.section.Declaration.{Declaration}
use Rattle.ps_parser.specs.declared.section.Part.{Part}
use Rattle.ps_parser.specs.declared.section.Section.{Section}

-- a section in which one name is declared
abbrev pub alone : Part → (ty name : Name) → Section
alone part ty name = record { part = part; declarations = record { names = name ∷ []; ty = ty } ∷ [] }

-- a name of these, if it is one that is taken, declared alone
abbrev pub taken_name : (List ℕ → Bool) → Part → (ty name : Name) → List Section
taken_name wanted part ty name = if wanted name.text then alone part ty name ∷ [] else []

-- the names of a declaration that are taken, each declared alone
abbrev pub taken_declaration : (List ℕ → Bool) → Part → Declaration → List Section
taken_declaration wanted part d = flat_map (taken_name wanted part d.ty) d.names

-- those of a section
abbrev pub taken_section : (List ℕ → Bool) → Section → List Section
taken_section wanted s = flat_map (taken_declaration wanted s.part) s.declarations

-- those of sections, in their order
abbrev pub taken : (List ℕ → Bool) → List Section → List Section
taken wanted sections = flat_map (taken_section wanted) sections

module _ (net : Network) where
  -- how many inputs and outputs an application has
  abbrev pub shared_count : ℕ
  shared_count = input_count net + length net.outputs

  -- a name is that of the input or output with a number, without letter case
  abbrev pub is_shared_at : ℕ → List ℕ → Bool
  is_shared_at s text = nat_lt s shared_count && is_same_name text (signal_name net s)

  -- a name is that of an input or output
  abbrev pub is_shared : List ℕ → Bool
  is_shared text = list_any (λ s. is_same_name text (signal_name net s)) (range_with_len 0 shared_count)

  -- The declarations of another application, each name alone: first what is named as an input or output of this one, in
  -- its order, and then all other names.
  abbrev pub arranged_sections : List Section → List Section
  arranged_sections sections =
      flat_map (λ s. taken (is_shared_at s) sections) (range_with_len 0 shared_count) ++ taken (λ text. not (is_shared text)) sections

  -- the source of another application, with its declarations in the order of this one
  abbrev pub arranged : SourceTree → SourceTree
  arranged tree = record tree { sections = arranged_sections tree.sections }

  -- The application that stands for the source so arranged; none where that breaks a rule of names.
  abbrev pub IsArranged : SourceTree → Option Network → Type 0
  IsArranged tree (Some other) = Stands (arranged tree) other
  IsArranged tree None = (refusal : Refusal) × (refused (offences (arranged tree)) ≡ Some refusal)
