-- Runs of scans of a text with function blocks: what a list of scans and restarts means, with the equations of the
-- text.
use Rattle.std.specs.Prelude.{false, List}
use Rattle.ps_model.specs.Blocks.{idle}
use Rattle.ps_model.specs.Meaning.{Item, After, nothing, Leaves}
use Rattle.ps_derived.specs.declared.library.Library.{Library}
use Rattle.ps_language_laws.specs.Reading.{Values}
use Rattle.ps_language_laws.specs.Nested.{Nested}

-- the map before the first scan: every signal FALSE, every instance idle
abbrev pub blank : Values
blank = record { signal = λ p. false; output = λ p pin. false; block = λ p. idle }

-- the maps of the scans among these items, each of which is what a scan of the text leaves after the one before, and
-- anew after each restart
abbrev pub TextRuns : Library → After Values → List Item → List Values → Type 0
TextRuns l = Leaves blank (Nested l)

-- these maps, one for each scan, are what the items mean
abbrev pub TextMeaning : Library → List Item → List Values → Type 0
TextMeaning l items ws = TextRuns l nothing items ws
