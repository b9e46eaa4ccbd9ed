-- What a person is told of a call that stopped. Where it is nothing, the text is empty.
use Rattle.std.specs.Prelude.{◌≡◌, ◌⊎◌, ◌+◌, ◌*◌, ◌∷◌, ℕ, Bool, true, false, List, [], codes, map}
use Rattle.std.specs.Prelude.{slice_get, unwrap_or, if◌then◌else◌}
use Rattle.ps_base.specs.declared.failing.Place.{Place}
use Rattle.ps_base.specs.declared.failing.Refusal.{Refusal}
use Rattle.ps_base.specs.declared.limits.TheConstants.{LARGEST_SOURCE, LARGEST_TRACE}
use Rattle.ps_base.specs.declared.limits.TheConstants.{LONGEST_FAULT_LINE, MOST_FAULT_LINES}
use Rattle.ps_bench_cases.specs.declared.rule.CaseRefusal.{CaseRefusal}
use Rattle.ps_bench_cases.specs.declared.rule.CaseRule.{CaseRule}
use Rattle.ps_bench_cases.specs.declared.rule.CaseRule.TheVariants.{K1, K2, K3, K4, K5, K6, K7}
use Rattle.ps_bench_frame.specs.Meant.{file_meant}
use Rattle.ps_bench_frame.specs.declared.ending.Input.{Input as InputOf}
use Rattle.ps_bench_frame.specs.declared.ending.Input.TheVariants.{Trace, TraceAt, Faults, Rules, Log, Other}
use Rattle.ps_bench_frame.specs.declared.ending.InputStop.{InputStop}
use Rattle.ps_bench_frame.specs.declared.ending.InputStop.TheVariants.{Refused, RulesRefused, LogRefused}
use Rattle.ps_bench_frame.specs.declared.ending.InputStop.TheVariants.{SumRefused, OtherRefused, Unlike, Unread}
use Rattle.ps_bench_frame.specs.declared.ending.Stop.{Stop}
use Rattle.ps_bench_frame.specs.declared.ending.Stop.TheVariants.{App, Cases, UnreadApp, UnreadCases, Input}
use Rattle.ps_bench_frame.specs.declared.ending.Stop.TheVariants.{Unwritten, NoMemory}
use Rattle.ps_bench_logs.specs.declared.flaw.Flaw.{Flaw as LogFlaw}
use Rattle.ps_bench_logs.specs.declared.flaw.Flaw.TheVariants.{V1, V2, V3, V4}
use Rattle.ps_bench_logs.specs.declared.flaw.LogRefusal.{LogRefusal}
use Rattle.ps_bench_rules.specs.declared.flaw.Flaw.{Flaw as RulesFlaw}
use Rattle.ps_bench_rules.specs.declared.flaw.Flaw.TheVariants.{R1, R2, R3, R4, R5}
use Rattle.ps_bench_rules.specs.declared.flaw.RulesRefusal.{RulesRefusal}
use Rattle.ps_bench_trials.specs.declared.refusal.SumRefusal.{SumRefusal}
use Rattle.ps_bench_trials.specs.declared.refusal.SumRule.{SumRule}
use Rattle.ps_bench_trials.specs.declared.refusal.SumRule.TheVariants.{U1, U2, U3}
use Rattle.ps_bench_trials.specs.declared.summing.TheConstants.{LARGEST_SUM}
use Rattle.ps_edge.specs.Hearing.{IsFirst, ListenerSeen}
use Rattle.ps_edge.specs.Telling.{IsOfApp, why_told}
use Rattle.ps_message.specs.Ending.{unread_text}
use Rattle.ps_message.specs.Message.{Says, message_text}
use Rattle.ps_message.specs.declared.advice.Advice.{Advice}
use Rattle.ps_message.specs.declared.statuses.Unread.TheVariants.{Failed}
use Rattle.ps_message.specs.declared.statuses.TheConstants.{NO_MEMORY, UNWRITTEN}
use Rattle.ps_bench_messages.specs.declared.advising.TheConstants.{MOST_LOOKED_AT}
use Rattle.ps_bench_messages.specs.declared.telling.Names.{Names}

-- ---- the names of the files of a call

-- The names of a call: of its application, its case files, the word in the place of its trace, the words in the place
-- of several or its files of counts, its fault file, its rules file, its log, and the application that it compares.
pub record Named : Type 0 where
  pub app : List ℕ
  pub cases : List (List ℕ)
  pub trace : List ℕ
  pub traces : List (List ℕ)
  pub faults : List ℕ
  pub rules : List ℕ
  pub log : List ℕ
  pub other : List ℕ

-- the same, as the code has them
abbrev pub named_by : Names → Named
named_by names = record {
  app = names.app.now;
  cases = map (λ name. name.now) names.cases.now;
  trace = names.trace.now;
  traces = map (λ name. name.now) names.traces.now;
  faults = names.faults.now;
  rules = names.rules.now;
  log = names.log.now;
  other = names.other.now;
}

-- the name of an application, and no other name
abbrev pub named_app : List ℕ → Named
named_app app = record {
  app = app;
  cases = [];
  trace = [];
  traces = [];
  faults = [];
  rules = [];
  log = [];
  other = [];
}

-- the name at a place among names; empty where there is none
abbrev pub at_place : List (List ℕ) → (place : ℕ) → List ℕ
at_place names place = unwrap_or (slice_get names place) []

-- the file of cases that a word for a trace means: of several the one at this place
abbrev pub case_word : (traces : List (List ℕ)) → (trace : List ℕ) → (place : ℕ) → List ℕ
case_word [] trace place = file_meant trace
case_word (name ∷ names) trace place = file_meant (at_place (name ∷ names) place)

-- the case file at a place of the words, or the one that a word for a trace means
abbrev pub case_file : (cases traces : List (List ℕ)) → (trace : List ℕ) → (place : ℕ) → List ℕ
case_file [] traces trace place = case_word traces trace place
case_file (name ∷ names) traces trace place = at_place (name ∷ names) place

-- what a trace is called that comes by standard input
abbrev pub fed_name : List ℕ
fed_name = codes "standard input"

-- the trace comes by standard input, of a call that names none
abbrev pub is_empty : List ℕ → Bool
is_empty [] = true
is_empty (byte ∷ bytes) = false

-- the name of what a run is made of
abbrev pub input_name : Named → InputOf → List ℕ
input_name names Trace = if is_empty names.trace then fed_name else names.trace
input_name names (TraceAt place) = at_place names.traces place
input_name names Faults = names.faults
input_name names Rules = names.rules
input_name names Log = names.log
input_name names Other = names.other

-- nothing of it can be read again: a trace that came by standard input
abbrev pub is_fed : Named → InputOf → Bool
is_fed names Trace = is_empty names.trace
is_fed names (TraceAt place) = false
is_fed names Faults = false
is_fed names Rules = false
is_fed names Log = false
is_fed names Other = false

-- as many bytes of what a run is made of as its rules look at
abbrev pub most_of : InputOf → ℕ
most_of Trace = LARGEST_TRACE
most_of (TraceAt place) = LARGEST_TRACE
most_of Faults = MOST_FAULT_LINES * (LONGEST_FAULT_LINE + 1)
most_of Rules = MOST_LOOKED_AT
most_of Log = MOST_LOOKED_AT
most_of Other = LARGEST_SOURCE + 1

-- ---- refusals

-- The message of a refusal of the application of this name, of which a text is read anew: as much as its rules look at.
abbrev pub IsOfSource : ListenerSeen → (name : List ℕ) → Refusal → List ℕ → Type 0
IsOfSource who name refusal text =
    (source : List ℕ) × IsFirst (LARGEST_SOURCE + 1) (who.reads name) source × IsOfApp name source refusal text

-- The message of a refusal by this rule at this line of a text in the file of this name. Which further words it has,
-- and which column it points at, is left open.
abbrev pub IsAdvised : (rule : List ℕ) → (line : ℕ) → (file source : List ℕ) → List ℕ → Type 0
IsAdvised rule line file source text =
    (advice : Advice) × (advice.name.now ≡ rule) × (words : List ℕ) × (place : Place) × (place.line ≡ line)
    × (text ≡ message_text advice words file source place)

-- the same of a text of which at most so many bytes are read anew
abbrev pub IsAdvisedAnew : ListenerSeen → (most : ℕ) → (rule : List ℕ) → (line : ℕ) → (file : List ℕ) → List ℕ →
    Type 0
IsAdvisedAnew who most rule line file text =
    (source : List ℕ) × IsFirst most (who.reads file) source × IsAdvised rule line file source text

-- the names of the rules of case files
abbrev pub case_rule : CaseRule → List ℕ
case_rule K1 = codes "K1"
case_rule K2 = codes "K2"
case_rule K3 = codes "K3"
case_rule K4 = codes "K4"
case_rule K5 = codes "K5"
case_rule K6 = codes "K6"
case_rule K7 = codes "K7"

-- those of rules files
abbrev pub rules_rule : RulesFlaw → List ℕ
rules_rule R1 = codes "R1"
rules_rule R2 = codes "R2"
rules_rule R3 = codes "R3"
rules_rule R4 = codes "R4"
rules_rule R5 = codes "R5"

-- those of logs
abbrev pub log_rule : LogFlaw → List ℕ
log_rule V1 = codes "V1"
log_rule (V2 column) = codes "V2"
log_rule V3 = codes "V3"
log_rule V4 = codes "V4"

-- those of files of counts
abbrev pub sum_rule : SumRule → List ℕ
sum_rule U1 = codes "U1"
sum_rule U2 = codes "U2"
sum_rule U3 = codes "U3"

-- the message of a refusal of the case file of this name
abbrev pub IsOfCases : ListenerSeen → (name : List ℕ) → CaseRefusal → List ℕ → Type 0
IsOfCases who name r = IsAdvisedAnew who MOST_LOOKED_AT (case_rule r.rule) r.line name

-- that of a rules file
abbrev pub IsOfRules : ListenerSeen → (name : List ℕ) → RulesRefusal → List ℕ → Type 0
IsOfRules who name r = IsAdvisedAnew who MOST_LOOKED_AT (rules_rule r.flaw) r.line name

-- that of a log
abbrev pub IsOfLog : ListenerSeen → (name : List ℕ) → LogRefusal → List ℕ → Type 0
IsOfLog who name r = IsAdvisedAnew who MOST_LOOKED_AT (log_rule r.flaw) r.line name

-- that of a file of counts
abbrev pub IsOfSum : ListenerSeen → (name : List ℕ) → SumRefusal → List ℕ → Type 0
IsOfSum who name r = IsAdvisedAnew who (LARGEST_SUM + 1) (sum_rule r.rule) r.line name

-- what is read anew of a text, of which nothing can be read again where it came by standard input
abbrev pub IsReadOf : (is_fed : Bool) → (most : ℕ) → (text source : List ℕ) → Type 0
IsReadOf true most text source = source ≡ []
IsReadOf false most text source = IsFirst most text source

-- what is read anew of what a run is made of
abbrev pub IsReadAnew : ListenerSeen → Named → InputOf → List ℕ → Type 0
IsReadAnew who names input source =
    IsReadOf (is_fed names input) (most_of input) (who.reads (input_name names input)) source

-- the message of a refusal of a trace or a fault file; which further words it has is left open
abbrev pub IsOfInput : ListenerSeen → Named → InputOf → Refusal → List ℕ → Type 0
IsOfInput who names input refusal text =
    (source given : List ℕ) × IsReadAnew who names input source
    × Says (input_name names input) source refusal given text

-- ---- texts that cannot be read

-- The message of a file that cannot be read; nothing where the listener can read it by now.
abbrev pub unread_told : ListenerSeen → (name : List ℕ) → List ℕ
unread_told who name = why_told name (who.unread name)

-- the same of what a run is made of; of a trace that came by standard input that a read failed
abbrev pub input_unread : ListenerSeen → Named → InputOf → List ℕ
input_unread who names input =
    if is_fed names input then unread_text fed_name Failed else unread_told who (input_name names input)

-- ---- stops

-- what is told of a call that stopped at what a run or a search is made of
abbrev pub IsOfInputStop : ListenerSeen → Named → InputStop → List ℕ → Type 0
IsOfInputStop who names (Refused input refusal) text = IsOfInput who names input refusal text
IsOfInputStop who names (RulesRefused refusal) text = IsOfRules who names.rules refusal text
IsOfInputStop who names (LogRefused refusal) text = IsOfLog who names.log refusal text
IsOfInputStop who names (SumRefused refusal) text = IsOfSum who (at_place names.traces refusal.place) refusal text
IsOfInputStop who names (OtherRefused refusal) text = IsOfSource who names.other refusal text
IsOfInputStop who names Unlike text = text ≡ []
IsOfInputStop who names (Unread input) text = text ≡ input_unread who names input

-- what is told of a call with these names that stopped so, by what the listener reads
abbrev pub IsOfStop : ListenerSeen → Named → Stop → List ℕ → Type 0
IsOfStop who names (App refusal) text = IsOfSource who names.app refusal text
IsOfStop who names (Cases place refusal) text =
    IsOfCases who (case_file names.cases names.traces names.trace place) refusal text
IsOfStop who names UnreadApp text = text ≡ unread_told who names.app
IsOfStop who names (UnreadCases place) text =
    text ≡ unread_told who (case_file names.cases names.traces names.trace place)
IsOfStop who names (Input why) text = IsOfInputStop who names why text
IsOfStop who names Unwritten text = text ≡ UNWRITTEN.now
IsOfStop who names NoMemory text = text ≡ NO_MEMORY.now

-- the same, or that memory is out, where there is none for the message
abbrev pub IsTold : ListenerSeen → Named → Stop → List ℕ → Type 0
IsTold who names stop text = IsOfStop who names stop text ⊎ (text ≡ NO_MEMORY.now)
