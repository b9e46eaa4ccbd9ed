-- One line of a trace, and what is left after it.
use Rattle.std.proofs.Common.{◌≡◌, ◌≢◌, ◌<◌, ◌+◌, ℕ, List, Bool, Ok, Err, length, refl, ◌∙◌, ap, arith}
use Rattle.std.proofs.lemmas.Grind.{common_steps}
use Rattle.ps_base.specs.declared.failing.Rule.{Rule}
use Rattle.ps_lines.specs.Lines as cut
use Rattle.ps_lines.specs.Reader.{Gives, GoesOn, begin_of}
use Rattle.ps_lines.specs.declared.reader.LineReader.{LineReader}
use Rattle.ps_lines.specs.declared.reader.Got.{Got}
use Rattle.ps_lines.specs.declared.reader.Got.TheVariants.{Line, LastLine, TooLong, TooLarge, End}
use Rattle.ps_model.specs.Meaning.Item.{scan, restart}
use Rattle.ps_trace.specs.Words.{fields}
use Rattle.ps_trace.specs.Trace.{line_said}
use Rattle.ps_trace.specs.Trace.Said.{skips, restarts, scans, breaks}
use Rattle.ps_trace.specs.Header.{header_said}
use Rattle.ps_trace.specs.Header.Header.{no_header, places, wrong}
use Rattle.ps_trace.specs.Scans.{scans_from, header_from, at_line, inputs_of}
use Rattle.ps_trace.specs.Scans.Headed.{begins, fails}
use Rattle.ps_trace.specs.Feeds.{feeds_of}
use Rattle.ps_trace.specs.Reading.{Begins, only_refused}

-- a header's line is skipped
pub headed_skip : (got : Got) (names : List (List ℕ)) (number feeds : ℕ) (lines rest : List cut.Line) (bytes : List ℕ) → Gives lines got bytes rest → feeds_of got ≡ Ok feeds →
    header_said names (fields bytes) ≡ no_header → header_from names number lines ≡ header_from names (number + feeds) rest
headed_skip Line names number feeds lines rest bytes gives is says = ap (header_from names number) gives ∙ grind (arith, common_steps)
headed_skip LastLine names number feeds lines rest bytes gives is says = ap (header_from names number) gives ∙ grind (arith, common_steps)
headed_skip TooLong names number feeds lines rest bytes gives is says = cc
headed_skip TooLarge names number feeds lines rest bytes gives is says = cc
headed_skip End names number feeds lines rest bytes gives is says = cc

-- it is refused
pub headed_wrong : (got : Got) (names : List (List ℕ)) (number feeds : ℕ) (rule : Rule) (lines rest : List cut.Line) (bytes : List ℕ) → Gives lines got bytes rest → feeds_of got ≡ Ok feeds →
    header_said names (fields bytes) ≡ wrong rule → header_from names number lines ≡ fails (at_line rule number)
headed_wrong Line names number feeds rule lines rest bytes gives is says = ap (header_from names number) gives ∙ grind (arith, common_steps)
headed_wrong LastLine names number feeds rule lines rest bytes gives is says = ap (header_from names number) gives ∙ grind (arith, common_steps)
headed_wrong TooLong names number feeds rule lines rest bytes gives is says = cc
headed_wrong TooLarge names number feeds rule lines rest bytes gives is says = cc
headed_wrong End names number feeds rule lines rest bytes gives is says = cc

-- it is the header
pub headed_begins : (got : Got) (names : List (List ℕ)) (number feeds : ℕ) (found : List ℕ) (lines rest : List cut.Line) (bytes : List ℕ) → Gives lines got bytes rest → feeds_of got ≡ Ok feeds →
    header_said names (fields bytes) ≡ places found → header_from names number lines ≡ begins found (number + feeds) rest
headed_begins Line names number feeds found lines rest bytes gives is says = ap (header_from names number) gives ∙ grind (arith, common_steps)
headed_begins LastLine names number feeds found lines rest bytes gives is says = ap (header_from names number) gives ∙ grind (arith, common_steps)
headed_begins TooLong names number feeds found lines rest bytes gives is says = cc
headed_begins TooLarge names number feeds found lines rest bytes gives is says = cc
headed_begins End names number feeds found lines rest bytes gives is says = cc

-- there is no such line
pub headed_fails : (got : Got) (names : List (List ℕ)) (number : ℕ) (rule : Rule) (lines rest : List cut.Line) (bytes : List ℕ) → Gives lines got bytes rest → feeds_of got ≡ Err rule →
    header_from names number lines ≡ fails (at_line rule number)
headed_fails Line names number rule lines rest bytes gives is = cc
headed_fails LastLine names number rule lines rest bytes gives is = cc
headed_fails TooLong names number rule lines rest bytes gives is = ap (header_from names number) gives ∙ grind (arith, common_steps)
headed_fails TooLarge names number rule lines rest bytes gives is = ap (header_from names number) gives.2 ∙ grind (arith, common_steps)
headed_fails End names number rule lines rest bytes gives is = ap (header_from names number) gives.0 ∙ grind (arith, common_steps)

-- a line after the header is skipped
pub scans_skip : (got : Got) (found : List ℕ) (number last feeds : ℕ) (lines rest : List cut.Line) (bytes : List ℕ) → Gives lines got bytes rest → feeds_of got ≡ Ok feeds →
    line_said (length found) last (fields bytes) ≡ skips → scans_from found number last lines ≡ scans_from found (number + feeds) last rest
scans_skip Line found number last feeds lines rest bytes gives is says = ap (scans_from found number last) gives ∙ grind (arith, common_steps)
scans_skip LastLine found number last feeds lines rest bytes gives is says = ap (scans_from found number last) gives ∙ grind (arith, common_steps)
scans_skip TooLong found number last feeds lines rest bytes gives is says = cc
scans_skip TooLarge found number last feeds lines rest bytes gives is says = cc
scans_skip End found number last feeds lines rest bytes gives is says = cc

-- it is a restart
pub scans_restart : (got : Got) (found : List ℕ) (number last feeds : ℕ) (lines rest : List cut.Line) (bytes : List ℕ) → Gives lines got bytes rest → feeds_of got ≡ Ok feeds →
    line_said (length found) last (fields bytes) ≡ restarts → Begins (scans_from found number last lines) restart (scans_from found (number + feeds) last rest)
scans_restart Line found number last feeds lines rest bytes gives is says = ap (scans_from found number last) gives ∙ grind (arith, common_steps)
scans_restart LastLine found number last feeds lines rest bytes gives is says = ap (scans_from found number last) gives ∙ grind (arith, common_steps)
scans_restart TooLong found number last feeds lines rest bytes gives is says = cc
scans_restart TooLarge found number last feeds lines rest bytes gives is says = cc
scans_restart End found number last feeds lines rest bytes gives is says = cc

-- it is a scan
pub scans_scan : (got : Got) (found : List ℕ) (number last feeds now : ℕ) (values : List Bool) (lines rest : List cut.Line) (bytes : List ℕ) → Gives lines got bytes rest → feeds_of got ≡ Ok feeds →
    line_said (length found) last (fields bytes) ≡ scans now values →
    Begins (scans_from found number last lines) (scan now (inputs_of found values)) (scans_from found (number + feeds) now rest)
scans_scan Line found number last feeds now values lines rest bytes gives is says = ap (scans_from found number last) gives ∙ grind (arith, common_steps)
scans_scan LastLine found number last feeds now values lines rest bytes gives is says = ap (scans_from found number last) gives ∙ grind (arith, common_steps)
scans_scan TooLong found number last feeds now values lines rest bytes gives is says = cc
scans_scan TooLarge found number last feeds now values lines rest bytes gives is says = cc
scans_scan End found number last feeds now values lines rest bytes gives is says = cc

-- it is refused
pub scans_break : (got : Got) (found : List ℕ) (number last feeds : ℕ) (rule : Rule) (lines rest : List cut.Line) (bytes : List ℕ) → Gives lines got bytes rest → feeds_of got ≡ Ok feeds →
    line_said (length found) last (fields bytes) ≡ breaks rule → scans_from found number last lines ≡ only_refused (at_line rule number)
scans_break Line found number last feeds rule lines rest bytes gives is says = ap (scans_from found number last) gives ∙ grind (arith, common_steps)
scans_break LastLine found number last feeds rule lines rest bytes gives is says = ap (scans_from found number last) gives ∙ grind (arith, common_steps)
scans_break TooLong found number last feeds rule lines rest bytes gives is says = cc
scans_break TooLarge found number last feeds rule lines rest bytes gives is says = cc
scans_break End found number last feeds rule lines rest bytes gives is says = cc

-- it is too long, or has a byte past the largest text
pub scans_fail : (got : Got) (found : List ℕ) (number last : ℕ) (rule : Rule) (lines rest : List cut.Line) (bytes : List ℕ) → Gives lines got bytes rest → feeds_of got ≡ Err rule →
    got ≢ End → scans_from found number last lines ≡ only_refused (at_line rule number)
scans_fail Line found number last rule lines rest bytes gives is more = cc
scans_fail LastLine found number last rule lines rest bytes gives is more = cc
scans_fail TooLong found number last rule lines rest bytes gives is more = ap (scans_from found number last) gives ∙ grind (arith, common_steps)
scans_fail TooLarge found number last rule lines rest bytes gives is more = ap (scans_from found number last) gives.2 ∙ grind (arith, common_steps)
scans_fail End found number last rule lines rest bytes gives is more = absurd (more refl)

-- a line that came takes the reader on
pub begins_later : (got : Got) (old new : LineReader) (feeds : ℕ) → GoesOn got old new → feeds_of got ≡ Ok feeds → begin_of old < begin_of new
begins_later Line old new feeds goes is = goes
begins_later LastLine old new feeds goes is = goes
begins_later TooLong old new feeds goes is = goes
begins_later TooLarge old new feeds goes is = cc
begins_later End old new feeds goes is = cc
