-- What is found in a text: the refusals of one that is refused, and else the notes on it and its odd comments; each at
-- its piece of the text, and in words.
use Rattle.std.specs.Prelude.{◌≡◌, ◌==◌, ◌||◌, ◌-◌, ◌<◌, ◌≤◌, ℕ, List, [], ◌∷◌, ◌++◌, Bool, true, not, Option, Some, None, Result, Ok, Err}
use Rattle.std.specs.Prelude.{codes, decimal, length, map, min, option_map, option_to_list, slice_get, take}
use Rattle.std.specs.List.{starts_with}
use Rattle.ps_base.specs.declared.failing.Fail.{Fail}
use Rattle.ps_base.specs.declared.failing.Fail.TheVariants.{Memory, Refused}
use Rattle.ps_base.specs.declared.failing.Place.{Place}
use Rattle.ps_base.specs.declared.failing.Refusal.{Refusal}
use Rattle.ps_base.specs.declared.failing.Rule.{Rule}
use Rattle.ps_lexer.specs.declared.token.Token.{Token}
use Rattle.ps_model.specs.Network.{Network}
use Rattle.ps_names.specs.Stands.{Stands}
use Rattle.ps_notes.specs.declared.note.OddComment.{OddComment}
use Rattle.ps_notes.specs.declared.note.Placed.{Placed}
use Rattle.ps_text.specs.Columns.{last_column}
use Rattle.ps_report.specs.Short.{rule_text}
use Rattle.ps_message.specs.Message.{SaysPlainly}
use Rattle.ps_message.specs.NoteLine.{plain_note_text, plain_odd_text}
use Rattle.ps_parser.specs.Tree.{SourceTree}
use Rattle.ps_findings.specs.Comments.{odds_of}
use Rattle.ps_findings.specs.Places.{placed_notes}
use Rattle.ps_accepted.specs.Source.{IsProgram}
use Rattle.ps_accepted.specs.Answering.{IsAcceptance, app_of}
use Rattle.ps_accepted.specs.declared.accepting.Accepted.{Accepted}
use Rattle.ps_lsp_text.specs.Pieces.{AreShown, range_at, range_of}
use Rattle.ps_lsp_text.specs.declared.finding.Finding.{Finding}
use Rattle.ps_lsp_text.specs.declared.finding.Findings.{Findings}
use Rattle.ps_lsp_text.specs.declared.finding.What.{What}
use Rattle.ps_lsp_text.specs.declared.finding.What.TheVariants as what
use Rattle.ps_lsp_text.specs.declared.finding_all.TheConstants.{LONGEST_SEARCHED, MOST_FINDINGS}

-- all that is found in a text, in the order in which it is told
abbrev pub all_of : Findings → List Finding
all_of findings = option_to_list findings.first ++ findings.more.items

-- the finding that so many more are not shown, from a place on
abbrev pub left_out : (text : List ℕ) → What → Place → (count : ℕ) → Finding
left_out text sort place count = record {
  what = sort;
  range = range_of text place 1;
  words = decimal (min count last_column) ++ codes " more from here on, not shown";
}

-- the same, if there is one more: of which sort the next one is, and where
abbrev pub rest_out : (text : List ℕ) → Option (What × Place) → (count : ℕ) → List Finding
rest_out text None count = []
rest_out text (Some next) count = left_out text next.0 next.1 count ∷ []

-- ---- refusals

-- a finding tells of this refusal: by its rule, at its piece of the text, and with the words of its message; what the
-- text tells of it besides may be among them
pub record Tells (text : List ℕ) (shown : List Token) (refusal : Refusal) (finding : Finding) : Type 0 where
  pub rule : finding.what ≡ what.Refused refusal.rule
  pub range : finding.range ≡ range_at text shown refusal.place
  pub given : List ℕ
  pub words : SaysPlainly text refusal given finding.words

-- findings tell of these refusals, each of one, in their order
abbrev pub TellEach : (text : List ℕ) → (shown : List Token) → List Refusal → List Finding → Type 0
TellEach text shown [] found = found ≡ []
TellEach text shown (refusal ∷ more) found =
    (first : Finding) × (rest : List Finding) × (found ≡ first ∷ rest) × Tells text shown refusal first × TellEach text shown more rest

-- what a finding tells of a refusal that is not shown
abbrev pub refusal_out : Refusal → What × Place
refusal_out refusal = (what.Refused refusal.rule, refusal.place)

-- findings tell of the first of these refusals, of at most `MOST_FINDINGS`, and then how many are left
pub record TellMost (text : List ℕ) (shown : List Token) (refusals : List Refusal) (found : List Finding) : Type 0 where
  pub told : List Finding
  pub tell : TellEach text shown (take MOST_FINDINGS refusals) told
  pub is : found ≡ told ++ rest_out text (option_map refusal_out (slice_get refusals MOST_FINDINGS)) (length refusals - MOST_FINDINGS)

-- What is told after the first refusal of a text: nothing where the text is long, and else further refusals.
pub record AreFurther (text : List ℕ) (shown : List Token) (found : List Finding) : Type 0 where
  pub long : LONGEST_SEARCHED < length text → found ≡ []
  pub refusals : List Refusal
  pub told : length text ≤ LONGEST_SEARCHED → TellMost text shown refusals found

-- what is found in a text that this refusal refuses: first of all it, and then further ones
pub record AreRefused (text : List ℕ) (refusal : Refusal) (found : List Finding) : Type 0 where
  pub shown : List Token
  pub are_shown : AreShown text shown
  pub first : Finding
  pub tells : Tells text shown refusal first
  pub more : List Finding
  pub further : AreFurther text shown more
  pub is : found ≡ first ∷ more

-- ---- notes

-- the finding of a note on an application
abbrev pub note_found : (text : List ℕ) → (shown : List Token) → Network → Placed → Finding
note_found text shown net placed = record {
  what = what.Noted;
  range = range_at text shown placed.place;
  words = plain_note_text net placed.note;
}

-- the finding of an odd comment
abbrev pub odd_found : (text : List ℕ) → (shown : List Token) → OddComment → Finding
odd_found text shown odd = record {
  what = what.Noted;
  range = range_at text shown odd.place;
  words = plain_odd_text odd.what;
}

-- what a finding tells of a note, and of an odd comment, that is not shown
abbrev pub note_out : Placed → What × Place
note_out placed = (what.Noted, placed.place)

abbrev pub odd_out : OddComment → What × Place
odd_out odd = (what.Noted, odd.place)

-- the findings of notes: of at most `MOST_FINDINGS`, and then how many are left
abbrev pub notes_found : (text : List ℕ) → (shown : List Token) → Network → List Placed → List Finding
notes_found text shown net placed =
    map (note_found text shown net) (take MOST_FINDINGS placed)
    ++ rest_out text (option_map note_out (slice_get placed MOST_FINDINGS)) (length placed - MOST_FINDINGS)

-- the findings of odd comments, likewise
abbrev pub odds_found : (text : List ℕ) → (shown : List Token) → List OddComment → List Finding
odds_found text shown odds =
    map (odd_found text shown) (take MOST_FINDINGS odds)
    ++ rest_out text (option_map odd_out (slice_get odds MOST_FINDINGS)) (length odds - MOST_FINDINGS)

-- what is found in a text whose flat source stands for this application: its notes, in their order and each at its
-- place, and then the comments that an editor shows otherwise than they are read
pub record AreNoted (text : List ℕ) (source : SourceTree) (net : Network) (found : List Finding) : Type 0 where
  pub shown : List Token
  pub are_shown : AreShown text shown
  pub is : found ≡ notes_found text shown net (placed_notes source net) ++ odds_found text shown (odds_of text)

-- what is found in a text that gives this application
pub record AreAccepted (text : List ℕ) (net : Network) (found : List Finding) : Type 0 where
  pub source : SourceTree
  pub program : IsProgram text source
  pub stands : Stands source net
  pub noted : AreNoted text source net found

-- ---- all

-- what is found in a text of which this comes
abbrev pub AreFound : (text : List ℕ) → Result Accepted Fail → List Finding → Type 0
AreFound text (Ok accepted) found = AreAccepted text (app_of accepted) found
AreFound text (Err (Refused refusal)) found = AreRefused text refusal found
AreFound text (Err Memory) found = ⊥

-- What is found in the text that begins with these bytes, by what the text gives by the rules L, P, B, N and S: the
-- notes where it is accepted, and else its refusal, and then further ones.
abbrev pub Diagnoses : (text whole : List ℕ) → List Finding → Type 0
Diagnoses text whole found = (given : Result Accepted Fail) × IsAcceptance whole given × AreFound text given found

-- ---- whether a text parses

-- whether a rule is one by which a text is none of the language: its name begins with L or P
abbrev pub is_of_language : Rule → Bool
is_of_language rule =
    starts_with (λ a b. a == b) (rule_text rule) (codes "L") || starts_with (λ a b. a == b) (rule_text rule) (codes "P")

-- whether a finding leaves it that the text parses
abbrev pub leaves_parsed : What → Bool
leaves_parsed (what.Refused rule) = not (is_of_language rule)
leaves_parsed what.Noted = true

-- whether a text with this first finding parses: no rule L or P refuses it
abbrev pub parses_with : Option Finding → Bool
parses_with None = true
parses_with (Some finding) = leaves_parsed finding.what

-- whether a text of which this is found parses
abbrev pub parses : Findings → Bool
parses findings = parses_with findings.first
