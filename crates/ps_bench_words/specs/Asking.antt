-- What the words of a call ask of the program. They are read as `clap` reads words: options stand before, between and
-- after the others, `--` ends them, `--format=tap` and `--format tap` are the same.
use Rattle.std.specs.Prelude.{◌≡◌, ◌⊎◌, ℕ, Bool, ◌==◌, List, [], ◌∷◌, Option, Some, None, codes, nat_le, nat_lt}
use Rattle.std.specs.Prelude.{if◌then◌else◌, unwrap_or}
use Rattle.std.specs.List.{list_any}
use Rattle.std.specs.Option.{option_map_or}
use Rattle.std.specs.Str.{bytes_eq}
use Rattle.clap.specs.Kinds.{IsAmong}
use Rattle.clap.specs.Faults.{fault_of}
use Rattle.clap.specs.Simple.{Shape, subcommand_of}
use Rattle.clap.specs.Walk.{Row, all_of, count_of, first_of}
use Rattle.clap.specs.declared.error.kind.ErrorKind.{ErrorKind}
use Rattle.clap.specs.declared.error.kind.ErrorKind.TheVariants.{DisplayHelp, DisplayVersion}
use Rattle.ps_bench_words.specs.Commands.{commands, workbench}
use Rattle.ps_bench_words.specs.declared.asking.Format.{Format}
use Rattle.ps_bench_words.specs.declared.asking.Format.TheVariants.{Text, Tap, Junit}
use Rattle.ps_bench_words.specs.declared.asking.Layout.{Layout}
use Rattle.ps_bench_words.specs.declared.asking.Layout.TheVariants.{Text as AsText, Csv, Json, Vcd}
use Rattle.ps_bench_words.specs.declared.pages.TheConstants as pages
use Rattle.ps_cover.specs.declared.format.Format.{Format as Output}
use Rattle.ps_cover.specs.declared.format.Format.TheVariants.{Text as InText, Json as InJson}
use Rattle.ps_model.specs.declared.channel.Channel.{Channel}
use Rattle.ps_model.specs.declared.channel.Channel.TheVariants.{A, B}
use Rattle.ps_trace.specs.Words.{number_of}

-- What the words ask: a command with the names of its files, a page to be shown, by its text, or nothing that is taken.
pub data Asked : Type 0 where
  Test : (app : List ℕ) (cases : List (List ℕ)) (format : Format) → Asked
  Expand : (app cases : List ℕ) → Asked
  Watch : (app trace : List ℕ) (names : List (List ℕ)) (faults : Option (List ℕ)) (layout : Layout) → Asked
  Trace : (app csv : List ℕ) → Asked
  Why : (app trace : List ℕ) (time : ℕ) (name : List ℕ) (output : Output) → Asked
  Cover : (app : List ℕ) (traces : List (List ℕ)) (output : Output) (least : Option ℕ) (ideas : Bool) → Asked
  Never : (app rules : List ℕ) (states : ℕ) → Asked
  Same : (app other : List ℕ) (rules : Option (List ℕ)) (states : ℕ) → Asked
  Campaign : (app trace : List ℕ) (from count : ℕ) (channel : Option Channel) (print : Bool) → Asked
  Sum : (files : List (List ℕ)) → Asked
  Report : (app : List ℕ) (cases : List (List ℕ)) (title : Option (List ℕ)) → Asked
  Live : (app : List ℕ) (names : Bool) → Asked
  Page : (text : List ℕ) → Asked
  NotTaken : Asked

-- ---- the values of options

-- the format of a name
abbrev pub format_named : List ℕ → Option Format
format_named name =
    if bytes_eq name (codes "text") then Some Text
    else if bytes_eq name (codes "tap") then Some Tap
    else if bytes_eq name (codes "junit") then Some Junit
    else None

-- results are told as text where no format is named
abbrev pub format_of : Option (List ℕ) → Option Format
format_of None = Some Text
format_of (Some name) = format_named name

-- the layout of a name
abbrev pub layout_named : List ℕ → Option Layout
layout_named name =
    if bytes_eq name (codes "text") then Some AsText
    else if bytes_eq name (codes "csv") then Some Csv
    else if bytes_eq name (codes "json") then Some Json
    else if bytes_eq name (codes "vcd") then Some Vcd
    else None

-- a run is written as text where no layout is named
abbrev pub layout_of : Option (List ℕ) → Option Layout
layout_of None = Some AsText
layout_of (Some name) = layout_named name

-- the output of a name
abbrev pub output_named : List ℕ → Option Output
output_named name =
    if bytes_eq name (codes "text") then Some InText
    else if bytes_eq name (codes "json") then Some InJson
    else None

-- what is told is told as text where nothing else is named
abbrev pub output_of : Option (List ℕ) → Option Output
output_of None = Some InText
output_of (Some name) = output_named name

-- a number that is 1 at least
abbrev pub some_said : Option ℕ → Option ℕ
some_said None = None
some_said (Some n) = if n == 0 then None else Some n

-- how many states may be held: a million where it is not said
abbrev pub states_of : Option (List ℕ) → Option ℕ
states_of None = Some 1000000
states_of (Some word) = some_said (number_of word)

-- a number that is 100 at most
abbrev pub percent_said : Option ℕ → Option (Option ℕ)
percent_said None = None
percent_said (Some n) = if nat_le n 100 then Some (Some n) else None

-- a percentage, where one is said
abbrev pub percentage_of : Option (List ℕ) → Option (Option ℕ)
percentage_of None = Some None
percentage_of (Some word) = percent_said (number_of word)

-- the channel of a name
abbrev pub channel_named : List ℕ → Option (Option Channel)
channel_named name =
    if bytes_eq name (codes "A") then Some (Some A)
    else if bytes_eq name (codes "B") then Some (Some B)
    else None

-- the channel that all faults strike, where one is named
abbrev pub channel_of : Option (List ℕ) → Option (Option Channel)
channel_of None = Some None
channel_of (Some name) = channel_named name

-- ---- what each command asks with what was given to it

-- the values of an argument, none where it was not given
abbrev pub values_of : List ℕ → List Row → List (List ℕ)
values_of id rows = unwrap_or (all_of id rows) []

-- the first value of an argument, the empty text where it was not given
abbrev pub value_of : List ℕ → List Row → List ℕ
value_of id rows = unwrap_or (first_of id rows) []

-- what is asked with a value that an option has to have: nothing is taken where it has none
abbrev pub asks_by : {X : Type 0} → Option X → (X → Asked) → Asked
asks_by said asks = option_map_or asks said NotTaken

-- `test`
abbrev pub test_asks : List Row → Asked
test_asks rows = asks_by (format_of (first_of (codes "format") rows))
    (Test (value_of (codes "APP") rows) (values_of (codes "CASES") rows))

-- `expand`
abbrev pub expand_asks : List Row → Asked
expand_asks rows = Expand (value_of (codes "APP") rows) (value_of (codes "CASES") rows)

-- `watch`
abbrev pub watch_asks : List Row → Asked
watch_asks rows = asks_by (layout_of (first_of (codes "format") rows))
    (Watch (value_of (codes "APP") rows) (value_of (codes "TRACE") rows) (values_of (codes "NAME") rows)
    (first_of (codes "faults") rows))

-- `trace`
abbrev pub trace_asks : List Row → Asked
trace_asks rows = Trace (value_of (codes "APP") rows) (value_of (codes "CSV") rows)

-- `why`
abbrev pub why_asks : List Row → Asked
why_asks rows = asks_by (output_of (first_of (codes "format") rows)) (λ output.
    asks_by (number_of (value_of (codes "TIME") rows)) (λ time.
    Why (value_of (codes "APP") rows) (value_of (codes "TRACE") rows) time (value_of (codes "NAME") rows) output))

-- `cover`
abbrev pub cover_asks : List Row → Asked
cover_asks rows = asks_by (output_of (first_of (codes "format") rows)) (λ output.
    asks_by (percentage_of (first_of (codes "least") rows)) (λ least.
    Cover (value_of (codes "APP") rows) (values_of (codes "TRACE") rows) output least
    (nat_lt 0 (count_of (codes "ideas") rows))))

-- `never`
abbrev pub never_asks : List Row → Asked
never_asks rows = asks_by (states_of (first_of (codes "states") rows))
    (Never (value_of (codes "APP") rows) (value_of (codes "RULES") rows))

-- `same`
abbrev pub same_asks : List Row → Asked
same_asks rows = asks_by (states_of (first_of (codes "states") rows))
    (Same (value_of (codes "APP") rows) (value_of (codes "OTHER") rows) (first_of (codes "RULES") rows))

-- `campaign`
abbrev pub campaign_asks : List Row → Asked
campaign_asks rows = asks_by (number_of (value_of (codes "FROM") rows)) (λ from.
    asks_by (number_of (value_of (codes "COUNT") rows)) (λ count.
    asks_by (channel_of (first_of (codes "channel") rows)) (λ channel.
    Campaign (value_of (codes "APP") rows) (value_of (codes "TRACE") rows) from count channel
    (nat_lt 0 (count_of (codes "print") rows)))))

-- `sum`
abbrev pub sum_asks : List Row → Asked
sum_asks rows = Sum (values_of (codes "FILE") rows)

-- `report`
abbrev pub report_asks : List Row → Asked
report_asks rows =
    Report (value_of (codes "APP") rows) (values_of (codes "CASES") rows) (first_of (codes "title") rows)

-- `live`
abbrev pub live_asks : List Row → Asked
live_asks rows = Live (value_of (codes "APP") rows) (nat_lt 0 (count_of (codes "names") rows))

-- the program has a command of this name
abbrev pub is_command : List ℕ → Bool
is_command name = list_any (λ (s : Shape). bytes_eq s.name name) commands

-- the page of this name among the last commands, and the program's where there is none of it
abbrev pub later_page : List ℕ → List ℕ
later_page name =
    if bytes_eq name (codes "never") then pages.NEVER.now
    else if bytes_eq name (codes "same") then pages.SAME.now
    else if bytes_eq name (codes "campaign") then pages.CAMPAIGN.now
    else if bytes_eq name (codes "sum") then pages.SUM.now
    else if bytes_eq name (codes "report") then pages.REPORT.now
    else if bytes_eq name (codes "live") then pages.LIVE.now
    else if bytes_eq name (codes "help") then pages.HELP.now
    else pages.PROGRAM.now

-- the page of the command of this name, and of the program where there is none of it
abbrev pub page_named : List ℕ → List ℕ
page_named name =
    if bytes_eq name (codes "test") then pages.TEST.now
    else if bytes_eq name (codes "expand") then pages.EXPAND.now
    else if bytes_eq name (codes "watch") then pages.WATCH.now
    else if bytes_eq name (codes "trace") then pages.TRACE.now
    else if bytes_eq name (codes "why") then pages.WHY.now
    else if bytes_eq name (codes "cover") then pages.COVER.now
    else later_page name

-- `help`: the page of a command that there is, or of the program
abbrev pub help_asks : Option (List ℕ) → Asked
help_asks None = Page pages.PROGRAM.now
help_asks (Some name) = if is_command name then Page (page_named name) else NotTaken

-- what a command asks with what was given to it
abbrev pub command_asks : List ℕ → List Row → Asked
command_asks name rows =
    if bytes_eq name (codes "test") then test_asks rows
    else if bytes_eq name (codes "expand") then expand_asks rows
    else if bytes_eq name (codes "watch") then watch_asks rows
    else if bytes_eq name (codes "trace") then trace_asks rows
    else if bytes_eq name (codes "why") then why_asks rows
    else if bytes_eq name (codes "cover") then cover_asks rows
    else if bytes_eq name (codes "never") then never_asks rows
    else if bytes_eq name (codes "same") then same_asks rows
    else if bytes_eq name (codes "campaign") then campaign_asks rows
    else if bytes_eq name (codes "sum") then sum_asks rows
    else if bytes_eq name (codes "report") then report_asks rows
    else if bytes_eq name (codes "live") then live_asks rows
    else if bytes_eq name (codes "help") then help_asks (first_of (codes "COMMAND") rows)
    else NotTaken

-- what the command that was named asks
abbrev pub matched_asks : Option (List ℕ × List Row) → Asked
matched_asks met = option_map_or (λ p. command_asks p.0 p.1) met NotTaken

-- ---- what the words ask

-- `clap` finds no fault in the words, and the command that they name asks this
abbrev pub IsForm : List (List ℕ) → Asked → Type 0
IsForm words asked = (fault_of workbench words ≡ []) × (asked ≡ matched_asks (subcommand_of workbench words))

-- an error that is none: help or the version was asked for
abbrev pub IsRequest : ErrorKind → Type 0
IsRequest kind = (kind ≡ DisplayHelp) ⊎ (kind ≡ DisplayVersion)

-- the page that `--help` asks for: that of the command that the first word names, or of the program
abbrev pub page_of : List (List ℕ) → List ℕ
page_of [] = pages.PROGRAM.now
page_of (word ∷ words) = page_named word

-- the words ask for this page: for help, or for the version
abbrev pub AsksPage : List (List ℕ) → List ℕ → Type 0
AsksPage words text =
    (IsAmong DisplayHelp (fault_of workbench words) × (text ≡ page_of words))
    ⊎ (IsAmong DisplayVersion (fault_of workbench words) × (text ≡ pages.VERSION.now))

-- `clap` finds a fault in the words
abbrev pub IsFaulty : List (List ℕ) → Type 0
IsFaulty words = (kind : ErrorKind) × IsAmong kind (fault_of workbench words) × ¬ IsRequest kind

-- what is asked where `clap` finds a fault: the page that was asked for, or nothing that is taken
abbrev pub IsTurnedAway : List (List ℕ) → Asked → Type 0
IsTurnedAway words (Page text) = AsksPage words text
IsTurnedAway words NotTaken = IsFaulty words
IsTurnedAway words asked = ⊥

-- the words ask this
abbrev pub Asks : List (List ℕ) → Asked → Type 0
Asks words asked = IsForm words asked ⊎ IsTurnedAway words asked
