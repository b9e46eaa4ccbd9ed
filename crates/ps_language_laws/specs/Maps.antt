-- Maps of a text: which of them are alike, and what they report.
use Rattle.std.specs.Prelude.{◌≡◌, ℕ, List, [], ◌∷◌, Some, map, filter, slice_get}
use Rattle.ps_base.specs.LetterCase.{folded}
use Rattle.ps_model.specs.declared.named.Instance.{Instance}
use Rattle.ps_model.specs.declared.named.Signal.{Signal}
use Rattle.ps_model.specs.declared.report.Report.{Report}
use Rattle.ps_model.specs.Meaning.{diag_in}
use Rattle.ps_model.specs.Network.{Network}
use Rattle.ps_names.specs.declared.entry.Entry.{Entry}
use Rattle.ps_names.specs.Names.{entries, is_output}
use Rattle.ps_names.specs.Stands.{signal_named}
use Rattle.ps_derived.specs.declared.library.Library.{Library}
use Rattle.ps_language_laws.specs.Reading.{Values}
use Rattle.ps_language_laws.specs.Equations.{output_names}
use Rattle.ps_language_laws.specs.Nested.{program_of}

-- ---- alike

-- the instances of the thirteen kinds in a text, each with its path as its name
abbrev pub text_instances : Library → List Instance
text_instances l = (program_of l).instances []

-- Two maps have the same signals, and of each of these instances the same state and the same outputs. What they have at
-- the path of another instance, or at a name that is no output pin, is of no account.
pub record AreAlike (instances : List Instance) (a b : Values) : Type 0 where
  pub signals : (p : List ℕ) → a.signal p ≡ b.signal p
  pub blocks : (k : ℕ) (i : Instance) → slice_get instances k ≡ Some i → a.block i.name ≡ b.block i.name
  pub outputs : (k j : ℕ) (i : Instance) (pin : List ℕ) → slice_get instances k ≡ Some i → slice_get (output_names i.kind) j ≡ Some pin →
      a.output i.name (folded pin) ≡ b.output i.name (folded pin)

-- these maps are alike, one by one
abbrev pub AllAlike : List Instance → (ms ns : List Values) → Type 0
AllAlike instances [] [] = Unit {0}
AllAlike instances [] (n ∷ ns) = ⊥
AllAlike instances (m ∷ ms) [] = ⊥
AllAlike instances (m ∷ ms) (n ∷ ns) = AreAlike instances m n × AllAlike instances ms ns

-- ---- reports

-- the report that a map gives: the outputs of an application by their names, and what its instances say of themselves
-- by their paths
abbrev pub report_in : Network → Values → Report
report_in net m = record {
  outs = map (λ (s : Signal). m.signal (folded s.name)) net.outputs;
  diags = map (λ (i : Instance). diag_in (m.block (folded i.name)).code) net.instances;
}

-- an instance without letter case
abbrev pub folded_instance : Instance → Instance
folded_instance i = record { name = folded i.name; kind = i.kind }

-- The fields of a report of the application are the outputs of the program as it declares them, and the instances of
-- the text by their paths.
pub record HasFields (l : Library) (net : Network) : Type 0 where
  pub outputs : net.outputs ≡ map signal_named (filter (λ (e : Entry). is_output e.sort) (entries l.program))
  pub instances : map folded_instance net.instances ≡ text_instances l
