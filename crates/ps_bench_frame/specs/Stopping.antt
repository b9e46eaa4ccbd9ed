-- What a call leaves that stops before all is done.
use Rattle.std.specs.Prelude.{◌≡◌, ◌⊎◌, ℕ, Bool, IsTrue, List, ◌++◌, Option, Some, Err}
use Rattle.ps_base.specs.declared.failing.Refusal.{Refusal}
use Rattle.ps_bench_cases.specs.File.{cases_of}
use Rattle.ps_bench_cases.specs.Writing.{TookBeginning}
use Rattle.ps_bench_cases.specs.declared.rule.CaseRefusal.{CaseRefusal}
use Rattle.ps_bench_logs.specs.declared.flaw.LogRefusal.{LogRefusal}
use Rattle.ps_report.specs.Short.{refusal_text}
use Rattle.ps_accepted.specs.Source.{IsAcceptedAs}
use Rattle.ps_accepted.specs.Source.Reading.{is_refused}
use Rattle.ps_bench_frame.specs.Opening.{Source}
use Rattle.ps_bench_frame.specs.Refusing.{log_refused_line}
use Rattle.ps_bench_frame.specs.declared.ending.InputStop.TheVariants.{LogRefused}
use Rattle.ps_bench_frame.specs.declared.ending.Stop.{Stop}
use Rattle.ps_bench_frame.specs.declared.ending.Stop.TheVariants.{App, Cases, UnreadApp, UnreadCases, Input}
use Rattle.ps_bench_frame.specs.declared.ending.Stop.TheVariants.{Unwritten, NoMemory}

-- the text of the application of this name is refused so, where it is known
abbrev pub IsRefusedApp : (reading : Bool) (held : List ℕ → Option (List ℕ)) → (name : List ℕ) → Refusal → Type 0
IsRefusedApp reading held name refusal =
    IsTrue reading → (text : List ℕ) × (held name ≡ Some text) × IsAcceptedAs text (is_refused refusal)

-- the text of the case file of this name is refused so, where it is known
abbrev pub AreRefused : Source → (name : List ℕ) → CaseRefusal → Type 0
AreRefused from name refusal =
    IsTrue from.tells → (text : List ℕ) × (from.held name ≡ Some text)
    × (cases_of from.net from.sizes text ≡ Err refusal)

-- after these bytes an output that tells took nothing
abbrev pub TookNothing : (tells : Bool) (before after : List ℕ) → Type 0
TookNothing tells before after = IsTrue tells → after ≡ before

-- after these bytes an output that tells took this text
abbrev pub Took : (text : List ℕ) (tells : Bool) (before after : List ℕ) → Type 0
Took text tells before after = IsTrue tells → after ≡ before ++ text

-- after these bytes an output that tells took a beginning of this text
abbrev pub TookSome : (text : List ℕ) (tells : Bool) (before after : List ℕ) → Type 0
TookSome text tells before after = IsTrue tells → TookBeginning before text after

-- How a call stops that gets no application of this name: the line of its refusal is written, or a beginning of it, and
-- for every other reason nothing.
abbrev pub StopsAtApp : (reading : Bool) (held : List ℕ → Option (List ℕ)) → (name : List ℕ) → Stop →
    (tells : Bool) (before after : List ℕ) → Type 0
StopsAtApp reading held name (App refusal) tells before after =
    IsRefusedApp reading held name refusal × Took (refusal_text refusal) tells before after
StopsAtApp reading held name Unwritten tells before after =
    (refusal : Refusal) × IsRefusedApp reading held name refusal × TookSome (refusal_text refusal) tells before after
StopsAtApp reading held name UnreadApp tells before after = TookNothing tells before after
StopsAtApp reading held name NoMemory tells before after = TookNothing tells before after
StopsAtApp reading held name (Cases place refusal) tells before after = ⊥
StopsAtApp reading held name (UnreadCases place) tells before after = ⊥
StopsAtApp reading held name (Input why) tells before after = ⊥

-- Why a call gets no cases of the file of this name: a refusal is that of its text.
abbrev pub IsWhyNoCases : Source → (name : List ℕ) → Stop → Type 0
IsWhyNoCases from name (Cases place refusal) = AreRefused from name refusal
IsWhyNoCases from name (UnreadCases place) = Unit {0}
IsWhyNoCases from name NoMemory = Unit {0}
IsWhyNoCases from name (App refusal) = ⊥
IsWhyNoCases from name UnreadApp = ⊥
IsWhyNoCases from name (Input why) = ⊥
IsWhyNoCases from name Unwritten = ⊥

-- How a call stops that gets no cases of the file of this name, and tells a refusal so: that is written, or a beginning
-- of it, and for every other reason nothing.
abbrev pub StopsAtCases : Source → (name : List ℕ) → (told : CaseRefusal → List ℕ) → Stop →
    (tells : Bool) (before after : List ℕ) → Type 0
StopsAtCases from name told (Cases place refusal) tells before after =
    AreRefused from name refusal × Took (told refusal) tells before after
StopsAtCases from name told Unwritten tells before after =
    (refusal : CaseRefusal) × AreRefused from name refusal × TookSome (told refusal) tells before after
StopsAtCases from name told (UnreadCases place) tells before after = TookNothing tells before after
StopsAtCases from name told NoMemory tells before after = TookNothing tells before after
StopsAtCases from name told (App refusal) tells before after = ⊥
StopsAtCases from name told UnreadApp tells before after = ⊥
StopsAtCases from name told (Input why) tells before after = ⊥

-- How a call stops at this refusal of a log: its line is written, or a beginning of it.
abbrev pub StopsAtLog : LogRefusal → (tells : Bool) → (before after : List ℕ) → Stop → Type 0
StopsAtLog refusal tells before after stop =
    ((stop ≡ Input (LogRefused refusal)) × Took (log_refused_line refusal) tells before after)
    ⊎ (((stop ≡ Unwritten) ⊎ (stop ≡ NoMemory)) × TookSome (log_refused_line refusal) tells before after)

-- How a call stops in this text, all of which it would write: a beginning of it is written.
abbrev pub StopsIn : (text : List ℕ) → Stop → (tells : Bool) (before after : List ℕ) → Type 0
StopsIn text Unwritten tells before after = TookSome text tells before after
StopsIn text NoMemory tells before after = TookSome text tells before after
StopsIn text (App refusal) tells before after = ⊥
StopsIn text (Cases place refusal) tells before after = ⊥
StopsIn text UnreadApp tells before after = ⊥
StopsIn text (UnreadCases place) tells before after = ⊥
StopsIn text (Input why) tells before after = ⊥
