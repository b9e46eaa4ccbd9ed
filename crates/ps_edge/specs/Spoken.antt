-- Which word of a call names the text that a rule speaks of.
use Rattle.std.specs.Prelude.{◌≡◌, ◌+◌, ◌*◌, ℕ, List, Option, Some, slice_get}
use Rattle.ps_base.specs.declared.failing.Rule.{Rule}
use Rattle.ps_base.specs.declared.failing.Rule.TheVariants.{C1, C2, O1, O2, O3, O4, O5, F1, F2, F3, F4, F5}
use Rattle.ps_base.specs.declared.failing.Rule.TheVariants.{T1, T2, T3, T4, T5, T6, T7, T8, T9}
use Rattle.ps_base.specs.declared.limits.TheConstants.{LARGEST_SOURCE, LARGEST_CERTIFICATE, LARGEST_TRACE}
use Rattle.ps_base.specs.declared.limits.TheConstants.{LONGEST_FAULT_LINE, MOST_FAULT_LINES}
use Rattle.ps_edge.specs.declared.spoken.Spoken.{Spoken}
use Rattle.ps_edge.specs.declared.spoken.Spoken.TheVariants.{App, Cert, Faults, Trace}

-- the text that a rule refuses
abbrev pub spoken_of : Rule → Spoken
spoken_of C1 = Cert
spoken_of C2 = Cert
spoken_of O1 = Cert
spoken_of O2 = Cert
spoken_of O3 = Cert
spoken_of O4 = Cert
spoken_of O5 = Cert
spoken_of F1 = Faults
spoken_of F2 = Faults
spoken_of F3 = Faults
spoken_of F4 = Faults
spoken_of F5 = Faults
spoken_of T1 = Trace
spoken_of T2 = Trace
spoken_of T3 = Trace
spoken_of T4 = Trace
spoken_of T5 = Trace
spoken_of T6 = Trace
spoken_of T7 = Trace
spoken_of T8 = Trace
spoken_of T9 = Trace
spoken_of rule = App

-- The place of its name among the words of every command, counted from 0: `verify APP CERT`, `fault APP TRACE FAULTS`.
abbrev pub place_of : Spoken → ℕ
place_of App = 1
place_of Cert = 2
place_of Faults = 3
place_of Trace = 2

-- the word that names a text, if there is one
abbrev pub named : (words : List (List ℕ)) → Spoken → Option (List ℕ)
named words spoken = slice_get words (place_of spoken)

-- this is the word that names a text
abbrev pub IsNamed : (words : List (List ℕ)) → Spoken → List ℕ → Type 0
IsNamed words spoken name = named words spoken ≡ Some name

-- as many bytes of a text as its rules look at
abbrev pub most_of : Spoken → ℕ
most_of App = LARGEST_SOURCE
most_of Cert = LARGEST_CERTIFICATE
most_of Faults = MOST_FAULT_LINES * (LONGEST_FAULT_LINE + 1)
most_of Trace = LARGEST_TRACE
