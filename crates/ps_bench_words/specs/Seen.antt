-- How the code has words, forms of commands, and what words ask.
use Rattle.std.specs.Prelude.{◌≡◌, ◌∷◌, [], ℕ, List, Option, Some, None, Result, Ok, Err, fold, map, option_map}
use Rattle.std.specs.Borrow.{Bor}
use Rattle.clap.specs.Simple.{App, Shape, new_app, with_rule, with_subcommand}
use Rattle.clap.specs.Walk.{Rule}
use Rattle.ps_bench_words.specs.Asking as asking
use Rattle.ps_bench_words.specs.Asking.Asked.{Test as TestOf, Expand as ExpandOf, Watch as WatchOf, Trace as TraceOf}
use Rattle.ps_bench_words.specs.Asking.Asked.{Why as WhyOf, Cover as CoverOf, Never as NeverOf, Same as SameOf, Live as LiveOf}
use Rattle.ps_bench_words.specs.Asking.Asked.{Campaign as CampaignOf, Sum as SumOf, Report as ReportOf}
use Rattle.ps_bench_words.specs.Asking.Asked.{Page as PageOf, NotTaken as NotTakenOf}
use Rattle.ps_bench_words.specs.Commands.{flag, option, word, words, test, expand, watch, trace, why, cover, never, same}
use Rattle.ps_bench_words.specs.Commands.{campaign, sum, report, live, help}
use Rattle.ps_bench_words.specs.declared.asking.Asked.{Asked}
use Rattle.ps_bench_words.specs.declared.asking.Asked.TheVariants.{Test, Expand, Watch, Trace, Why, Cover, Never, Same}
use Rattle.ps_bench_words.specs.declared.asking.Asked.TheVariants.{Campaign, Sum, Report, Live, Page, NotTaken}
use Rattle.ps_bench_words.specs.declared.forms.Argument.{Argument}
use Rattle.ps_bench_words.specs.declared.forms.Form.{Form}
use Rattle.ps_bench_words.specs.declared.forms.Given.{Given}
use Rattle.ps_bench_words.specs.declared.forms.Given.TheVariants.{Word, Words, Value, Flag}
use Rattle.ps_bench_words.specs.declared.reading.Unread.{Unread}
use Rattle.ps_bench_words.specs.declared.reading.Unread.TheVariants.{NoMemory, Wrong}

-- the bytes of words that are borrowed
abbrev pub seen : List (Bor (List ℕ)) → List (List ℕ)
seen = map (λ word. word.now)

-- what the code's answer asks
abbrev pub asked_seen : Asked → asking.Asked
asked_seen (Test app cases format) = TestOf app.now (seen cases.items) format
asked_seen (Expand app cases) = ExpandOf app.now cases.now
asked_seen (Watch app trace names faults layout) =
    WatchOf app.now trace.now (seen names.items) (option_map (λ name. name.now) faults) layout
asked_seen (Trace app csv) = TraceOf app.now csv.now
asked_seen (Why app trace time name output) = WhyOf app.now trace.now time name.now output
asked_seen (Cover app traces output least ideas) = CoverOf app.now (seen traces.items) output least ideas
asked_seen (Never app rules states) = NeverOf app.now rules.now states
asked_seen (Same app other rules states) =
    SameOf app.now other.now (option_map (λ name. name.now) rules) states
asked_seen (Campaign app trace from count channel print) = CampaignOf app.now trace.now from count channel print
asked_seen (Sum files) = SumOf (seen files.items)
asked_seen (Report app cases title) = ReportOf app.now (seen cases.items) (option_map (λ text. text.now) title)
asked_seen (Live app names) = LiveOf app.now names
asked_seen (Page text) = PageOf text.now
asked_seen (NotTaken text) = NotTakenOf

-- an argument that is given so
abbrev pub given_as : Given → List ℕ → Rule
given_as Word id = word id
given_as Words id = words id
given_as (Value name) id = option id
given_as Flag id = flag id

-- an argument
abbrev pub rule_seen : Argument → Rule
rule_seen argument = record (given_as argument.given argument.id.now) { required = argument.required }

-- a command, argument by argument
abbrev pub command_seen : Form → App
command_seen form = fold with_rule (new_app form.name.now) (map rule_seen form.arguments.now)

-- the same as a command of the program
abbrev pub shape_seen : Form → Shape
shape_seen form = (command_seen form).top

-- the commands of the program in groups, in the order of its page
unfoldable pub of_cases : List Shape
of_cases = test ∷ expand ∷ watch ∷ []

unfoldable pub of_traces : List Shape
of_traces = trace ∷ why ∷ cover ∷ []

unfoldable pub of_searches : List Shape
of_searches = never ∷ same ∷ []

unfoldable pub of_campaigns : List Shape
of_campaigns = campaign ∷ sum ∷ []

unfoldable pub of_pages : List Shape
of_pages = report ∷ live ∷ help ∷ []

-- a program with one more command
abbrev pub with_form : App → Form → App
with_form program form = with_subcommand program (shape_seen form)

-- a value was read that was given, and one that cannot be read is none
abbrev pub IsRead : {X : Type 0} → Result X Unread → Option X → Type 0
IsRead (Ok value) said = said ≡ Some value
IsRead (Err (Wrong why)) said = said ≡ None
IsRead (Err NoMemory) said = Unit {0}

-- what is asked was read, and where a value cannot be read nothing is taken
abbrev pub IsAsked : Result Asked Unread → asking.Asked → Type 0
IsAsked (Ok asked) wanted = asked_seen asked ≡ wanted
IsAsked (Err (Wrong why)) wanted = wanted ≡ NotTakenOf
IsAsked (Err NoMemory) wanted = Unit {0}
