-- By names a source means what its application means; nested is flat, of one scan and of runs of scans; and paths are
-- told apart.
use Rattle.std.specs.Prelude.{◌≡◌, ◌↔◌, ℕ, Bool, List, [], ◌∷◌, ◌++◌, map, length}
use Rattle.std.specs.List.{AllByRecursion}
use Rattle.ps_base.specs.LetterCase.{folded}
use Rattle.ps_model.specs.Network.{Network, signal_count, instance_count}
use Rattle.ps_model.specs.Scanning.{State, Solves}
use Rattle.ps_model.specs.Meaning.{Item, Meaning}
use Rattle.ps_parser.specs.declared.name.Name.{Name}
use Rattle.ps_parser.specs.Names.{IsPlainName}
use Rattle.ps_parser.specs.Tree.{SourceTree}
use Rattle.ps_names.specs.Names.{entries}
use Rattle.ps_names.specs.Stands.{Stands}
use Rattle.ps_derived.specs.declared.library.Library.{Library}
use Rattle.ps_derived.specs.Texts.{IsLibraryWithin}
use Rattle.ps_derived.specs.Flat.{flat}
use Rattle.ps_offences.specs.BlockRules.{block_offences}
use Rattle.ps_language_laws.specs.ByName.{by_name}
use Rattle.ps_language_laws.specs.TextScans.{plain_body, Scanned}
use Rattle.ps_language_laws.specs.Nested.{Nested}
use Rattle.ps_language_laws.specs.Runs.{TextMeaning}

-- A state has a value for each signal of an application and a state for each instance.
pub record HasSizes (net : Network) (w : State) : Type 0 where
  pub signal_each : length w.signals ≡ signal_count net
  pub block_each : length w.blocks ≡ instance_count net

-- Of a source that stands for an application: a state solves the equations of the application exactly where it has its
-- sizes and, by its names, is what a scan of the source leaves.
abbrev pub NamesAreNumbers : Type 0
NamesAreNumbers = (p : SourceTree) (net : Network) → Stands p net → (old : State) (ins : List Bool) (dt : ℕ) (new : State) →
    Solves net old ins dt new ↔ (HasSizes net new × Scanned (entries p) (plain_body p) (by_name (entries p) old) ins dt (by_name (entries p) new))

-- Of a text of the grammar that breaks no rule on function blocks, where its flat source stands for an application: a
-- state solves the equations of the application exactly where it has its sizes and, by its dotted names, is what a scan
-- of the text leaves.
abbrev pub NestedIsFlat : Type 0
NestedIsFlat = (depth : ℕ) (l : Library) (net : Network) → IsLibraryWithin depth l → block_offences l ≡ [] → Stands (flat l) net →
    (old : State) (ins : List Bool) (dt : ℕ) (new : State) →
    Solves net old ins dt new ↔ (HasSizes net new × Nested l (by_name (entries (flat l)) old) ins dt (by_name (entries (flat l)) new))

-- Of such a text: states are what a list of scans and restarts means of the application exactly where they have its
-- sizes and are, by its dotted names, what the list means of the text.
abbrev pub NestedRunsAreFlat : Type 0
NestedRunsAreFlat = (depth : ℕ) (l : Library) (net : Network) → IsLibraryWithin depth l → block_offences l ≡ [] → Stands (flat l) net →
    (items : List Item) (ws : List State) →
    Meaning net items ws ↔ (AllByRecursion (HasSizes net) ws × TextMeaning l items (map (by_name (entries (flat l))) ws))

-- ---- paths

-- a path as it is written: its first name, and each further one after a dot
abbrev pub written : List ℕ → List (List ℕ) → List ℕ
written n [] = n
written n (m ∷ ms) = n ++ 46 ∷ written m ms

-- Two paths of names of the grammar that are written alike without letter case have the same names without letter case.
-- So the path `g.h.e` is that of E in H in G and of nothing else.
abbrev pub PathsAreApart : Type 0
PathsAreApart = (m : Name) (ms : List Name) (n : Name) (ns : List Name) →
    AllByRecursion (λ (x : Name). IsPlainName x.text) (m ∷ ms) → AllByRecursion (λ (x : Name). IsPlainName x.text) (n ∷ ns) →
    written (folded m.text) (map (λ (x : Name). folded x.text) ms) ≡ written (folded n.text) (map (λ (x : Name). folded x.text) ns) →
    map (λ (x : Name). folded x.text) (m ∷ ms) ≡ map (λ (x : Name). folded x.text) (n ∷ ns)
