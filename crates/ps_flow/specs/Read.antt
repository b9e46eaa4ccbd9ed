-- Which texts are those of a certificate, and where a text first is none.
use Rattle.std.specs.Prelude.{◌≡◌, ◌≢◌, ℕ, List, [], ◌∷◌, ◌++◌, ◌+◌, ◌<◌, ◌≤◌, ◌==◌, ◌⊎◌, All, Result, Ok, Err, length}
use Rattle.std.specs.Prelude.{map, if◌then◌else◌}
use Rattle.std.specs.List.{onto_first}
use Rattle.ps_base.specs.declared.failing.Fail.{Fail}
use Rattle.ps_base.specs.declared.failing.Fail.TheVariants.{Memory, Refused}
use Rattle.ps_base.specs.declared.failing.Place.{Place}
use Rattle.ps_base.specs.declared.failing.Rule.{Rule}
use Rattle.ps_base.specs.declared.failing.Rule.TheVariants.{C1, C2}
use Rattle.ps_base.specs.declared.limits.TheConstants.{MOST_CERTIFICATE_LINES, LARGEST_CERTIFICATE}
use Rattle.ps_flow.specs.declared.certificate.CertLine.{CertLine}
use Rattle.ps_flow.specs.declared.text.TheConstants.{LINE_FEED}
use Rattle.ps_flow.specs.Lines.{IsNumbered}
use Rattle.ps_flow.specs.Written.{line_text, written}

-- the lines of a text: a line ends with a line feed or with the text, and none begins at the text's end
abbrev pub lines_of : List ℕ → List (List ℕ)
lines_of [] = []
lines_of (b ∷ bytes) = if b == LINE_FEED then [] ∷ lines_of bytes else onto_first b (lines_of bytes)

-- the text of these lines, the last line feed possibly missing
abbrev pub IsTextOf : List CertLine → List ℕ → Type 0
IsTextOf lines text = (text ≡ written lines) ⊎ (text ++ LINE_FEED ∷ [] ≡ written lines)

-- over 40,000 lines or 1,048,576 bytes
abbrev pub IsTooLarge : List ℕ → Type 0
IsTooLarge text = (MOST_CERTIFICATE_LINES < length (lines_of text)) ⊎ (LARGEST_CERTIFICATE < length text)

-- At most 40,000 lines and 1,048,576 bytes.
pub record IsWithin (text : List ℕ) : Type 0 where
  pub lines : length (lines_of text) ≤ MOST_CERTIFICATE_LINES
  pub bytes : length text ≤ LARGEST_CERTIFICATE

-- line n, counted from 1, is the first that is not the text of a line
pub record IsFirstOther (text : List ℕ) (n : ℕ) : Type 0 where
  pub before : List CertLine
  pub other : List ℕ
  pub behind : List (List ℕ)
  pub cut : lines_of text ≡ map line_text before ++ other ∷ behind
  pub numbered : All IsNumbered before
  pub place : n ≡ length before + 1
  pub form : (l : CertLine) → IsNumbered l → other ≢ line_text l

-- the rule refuses the text at this place, which is a line alone: C2 before C1
abbrev pub RefusesText : List ℕ → Rule → Place → Type 0
RefusesText text C2 place = (place ≡ record { line = 1; column = 0 }) × IsTooLarge text
RefusesText text C1 place = (place.column ≡ 0) × IsWithin text × IsFirstOther text place.line
RefusesText text rule place = ⊥

-- The text is within the limits, and it is that of these lines.
pub record IsCertificate (text : List ℕ) (lines : List CertLine) : Type 0 where
  pub form : IsTextOf lines text
  pub numbered : All IsNumbered lines
  pub within : IsWithin text

-- What a text is read as: the lines of which it is the certificate, or the refusal of a text that is none. Want of
-- memory is the one free answer.
abbrev pub ReadsAs : List ℕ → Result (List CertLine) Fail → Type 0
ReadsAs text (Ok lines) = IsCertificate text lines
ReadsAs text (Err Memory) = Unit {0}
ReadsAs text (Err (Refused r)) = RefusesText text r.rule r.place
