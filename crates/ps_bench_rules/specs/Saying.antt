-- What the code says of a line and of a file that it reads.
use Rattle.std.specs.Prelude.{◌≡◌, ◌≢◌, ◌≤◌, ℕ, Bool, List, if◌then◌else◌, codes, Option, Some, None, Result, Ok, Err}
use Rattle.std.specs.Str.{bytes_eq}
use Rattle.ps_lines.specs.Lines.{Line}
use Rattle.ps_lines.specs.Reader.{Gives}
use Rattle.ps_lines.specs.declared.reader.Got.{Got}
use Rattle.ps_lines.specs.declared.reader.Got.TheVariants.{TooLong, TooLarge}
use Rattle.ps_model.specs.Network.{Network}
use Rattle.ps_bench_rules.specs.File.{has_begun, lines_read, said_after}
use Rattle.ps_bench_rules.specs.Line.{Said, follow_said, line_said, pace_said, said_or, some_settings}
use Rattle.ps_bench_rules.specs.Line.Said.{paces, fixes, ties, starts, asks, breaks}
use Rattle.ps_bench_rules.specs.Words.{conditions_said}
use Rattle.ps_bench_rules.specs.declared.draft.Draft.{Draft}
use Rattle.ps_bench_rules.specs.declared.flaw.Flaw.TheVariants.{R1}
use Rattle.ps_bench_rules.specs.declared.flaw.RulesFail.{RulesFail}
use Rattle.ps_bench_rules.specs.declared.flaw.RulesFail.TheVariants.{Memory as NoMemory, Fault as IsFault, Refused as IsRefused}
use Rattle.ps_bench_rules.specs.declared.flaw.RulesRefusal.{RulesRefusal}
use Rattle.ps_bench_rules.specs.declared.limits.TheConstants.{MOST_RULES_LINES}
use Rattle.ps_bench_rules.specs.declared.line.Leader.{Leader}
use Rattle.ps_bench_rules.specs.declared.line.Leader.TheVariants.{Every, Fixed, Follows, First}
use Rattle.ps_bench_rules.specs.declared.rules.Purpose.{Purpose}
use Rattle.ps_bench_rules.specs.declared.rules.RulesFile.{RulesFile}

-- what stands after a line, by an answer: a refusal, or the draft as it is now
abbrev pub after_by : Option RulesRefusal → Draft → Result Draft RulesRefusal
after_by None d = Ok d
after_by (Some refusal) d = Err refusal

-- what a file that ends says, by an answer: a refusal, or the file as it is now
abbrev pub file_by : Option RulesRefusal → RulesFile → Result RulesFile RulesRefusal
file_by None file = Ok file
file_by (Some refusal) file = Err refusal

-- the setting that a word begins, if it begins one
abbrev pub leader_of : List ℕ → Option Leader
leader_of word =
    if bytes_eq word (codes "every") then Some Every
    else if bytes_eq word (codes "fixed") then Some Fixed
    else if bytes_eq word (codes "follows") then Some Follows
    else if bytes_eq word (codes "first") then Some First
    else None

-- what a setting says that begins so
abbrev pub setting_by : Network → Purpose → Leader → List (List ℕ) → Said
setting_by net purpose Every words = said_or paces (pace_said words)
setting_by net purpose Fixed words = said_or fixes (some_settings net words)
setting_by net purpose Follows words = said_or ties (follow_said net purpose words)
setting_by net purpose First words = said_or starts (some_settings net words)

-- what a line of these words says that begins no rule: after its first word stand others
abbrev pub led_by : Network → Purpose → (begun : Bool) → Option Leader → (words others : List (List ℕ)) → Said
led_by net purpose begun None words others = if begun then said_or asks (conditions_said net words) else breaks R1
led_by net purpose begun (Some leader) words others = if begun then breaks R1 else setting_by net purpose leader others

-- the file was read: an answer that neither a failed read nor running out of memory gives
abbrev pub IsRead : {A : Type 0} → Result A RulesFail → Type 0
IsRead (Ok value) = Unit {0}
IsRead (Err NoMemory) = ⊥
IsRead (Err IsFault) = ⊥
IsRead (Err (IsRefused refusal)) = Unit {0}

module _ (net : Network) (purpose : Purpose) (got : Got) (number : ℕ) (line : List ℕ) (before behind : Draft) where
  -- a line with this number is taken, of which so much was got
  pub record IsTaken : Type 0 where
    pub short : got ≢ TooLong
    pub small : got ≢ TooLarge
    pub few : number ≤ MOST_RULES_LINES
    pub says : said_after before number (line_said net purpose (has_begun before) line) ≡ Ok behind

  -- a line is taken, or the lines from it on are refused
  abbrev pub IsLineTaken : Option RulesRefusal → Type 0
  IsLineTaken None = IsTaken
  IsLineTaken (Some refusal) = (lines rest : List Line) → Gives lines got line rest → lines_read net purpose before number lines ≡ Err refusal
