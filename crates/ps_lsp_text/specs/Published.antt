-- What the editor is told of a text, as JSON after the Language Server Protocol.
use Rattle.std.specs.Prelude.{◌≡◌, ◌+◌, ℕ, List, [], codes, if◌then◌else◌, map, take}
use Rattle.std.specs.Str.{is_utf8}
use Rattle.serde_json.specs.Data.{Data, Members, number, unsigned, string, array, object, member, no_members, put}
use Rattle.serde_json.specs.View.{items_of}
use Rattle.ps_base.specs.declared.limits.TheConstants.{LARGEST_SOURCE}
use Rattle.ps_text.specs.declared.positions.Position.{Position}
use Rattle.ps_text.specs.declared.positions.Range.{Range}
use Rattle.ps_report.specs.Short.{rule_text}
use Rattle.ps_lsp_text.specs.Findings.{Diagnoses}
use Rattle.ps_lsp_text.specs.declared.finding.Finding.{Finding}
use Rattle.ps_lsp_text.specs.declared.finding.What.{What}
use Rattle.ps_lsp_text.specs.declared.finding.What.TheVariants as what

-- a position
abbrev pub position_data : Position → Data
position_data p = object (member (codes "character") (number (unsigned p.character)) (member (codes "line") (number (unsigned p.line)) no_members))

-- a range
abbrev pub range_data : Range → Data
range_data r = object (member (codes "end") (position_data r.end) (member (codes "start") (position_data r.start) no_members))

-- how bad a finding is, by the numbers of the protocol: a refusal is an error, and a note an information
abbrev pub severity_of : What → ℕ
severity_of (what.Refused rule) = 1
severity_of what.Noted = 3

-- the members of a diagnostic, and of a refusal its rule as the code
abbrev pub with_code : What → Members → Members
with_code (what.Refused rule) members = put (codes "code") (string (rule_text rule)) members
with_code what.Noted members = members

-- the text of words, which are UTF-8
abbrev pub text_of : List ℕ → List ℕ
text_of words = if is_utf8 words then words else []

-- the diagnostic of a finding
abbrev pub diagnostic_data : Finding → Data
diagnostic_data finding =
    object (with_code finding.what (member (codes "message") (string (text_of finding.words)) (member (codes "range") (range_data finding.range)
    (member (codes "severity") (number (unsigned (severity_of finding.what))) (member (codes "source") (string (codes "plcsafe")) no_members)))))

-- the diagnostics of findings, in their order
abbrev pub diagnostics_data : List Finding → Data
diagnostics_data found = array (items_of (map diagnostic_data found))

-- the notice that these are the diagnostics of the text of a name
abbrev pub notice_data : (uri : List ℕ) → Data → Data
notice_data uri diagnostics =
    object (member (codes "jsonrpc") (string (codes "2.0")) (member (codes "method") (string (codes "textDocument/publishDiagnostics"))
    (member (codes "params") (object (member (codes "diagnostics") diagnostics (member (codes "uri") (string uri) no_members))) no_members)))

-- the bytes that decide of a text
abbrev pub front : List ℕ → List ℕ
front text = take (LARGEST_SOURCE + 1) text

-- the notice that nothing is found any more in the text of a name
abbrev pub withdrawal : (uri : List ℕ) → Data
withdrawal uri = notice_data uri (diagnostics_data [])

-- a notice tells what is found in this very text: all of it, and nothing else
pub record TellsOf (uri text : List ℕ) (notice : Data) : Type 0 where
  pub found : List Finding
  pub diagnoses : Diagnoses (front text) text found
  pub is : notice ≡ notice_data uri (diagnostics_data found)
