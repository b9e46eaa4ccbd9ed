-- What a command comes to of its files, whatever it writes of that.
use Rattle.std.specs.Prelude.{◌≡◌, ◌⊎◌, IsSome, IsTrue, ℕ, List, Result, Ok, Err, IsErrAnd}
use Rattle.ps_bench_cases.specs.declared.case.CaseFile.{CaseFile}
use Rattle.ps_model.specs.Network.{Network}
use Rattle.ps_model.specs.declared.channel.ImageSizes.{ImageSizes}
use Rattle.ps_outside.specs.declared.text_fail.TextFail.{TextFail}
use Rattle.ps_outside.specs.declared.text_fail.TextFail.TheVariants as text_fail
use Rattle.ps_bench_frame.specs.Opening.{IsOfApp, IsOfText, Source, source_in}
use Rattle.ps_bench_frame.specs.Seen.{Texts}
use Rattle.ps_bench_frame.specs.Sourcing.{IsSourceOf}
use Rattle.ps_bench_frame.specs.Stopping.{IsRefusedApp, IsWhyNoCases}
use Rattle.ps_bench_frame.specs.declared.answering.Answer.{Answer}
use Rattle.ps_bench_frame.specs.declared.ending.Stop.{Stop}
use Rattle.ps_bench_frame.specs.declared.ending.Stop.TheVariants.{App, Cases, UnreadApp, UnreadCases, Input}
use Rattle.ps_bench_frame.specs.declared.ending.Stop.TheVariants.{Unwritten, NoMemory}
use Rattle.ps_bench_frame.specs.declared.sourcing.Sourced.{Sourced}

-- why a call stops that gets no application
abbrev pub no_app : TextFail → Stop
no_app (text_fail.Refused refusal) = App refusal
no_app text_fail.Fault = UnreadApp
no_app text_fail.Memory = NoMemory

-- Why a call gets no application of this name: a refusal is that of its text.
abbrev pub IsWhyNoApp : Texts → (app : List ℕ) → Stop → Type 0
IsWhyNoApp texts app (App refusal) = IsRefusedApp texts.tells texts.held app refusal
IsWhyNoApp texts app UnreadApp = Unit {0}
IsWhyNoApp texts app NoMemory = Unit {0}
IsWhyNoApp texts app (Cases place refusal) = ⊥
IsWhyNoApp texts app (UnreadCases place) = ⊥
IsWhyNoApp texts app (Input why) = ⊥
IsWhyNoApp texts app Unwritten = ⊥

-- the application of this name, with its source; or why there is none
abbrev pub OpensSourced : Texts → (name : List ℕ) → Result Sourced Stop → Type 0
OpensSourced texts name (Ok sourced) =
    IsOfApp (source_in sourced.opened.app sourced.opened.sizes texts) name
    × (IsTrue texts.tells → IsSourceOf texts.held name sourced.source)
OpensSourced texts name (Err stop) = IsWhyNoApp texts name stop

-- the cases of the file of this name, or why there are none
abbrev pub OpensCases : Source → (name : List ℕ) → Result CaseFile Stop → Type 0
OpensCases from name (Ok file) = IsOfText from name file × (IsTrue from.tells → IsSome (from.held name))
OpensCases from name (Err stop) = IsWhyNoCases from name stop

-- What a command comes to: it gets no application of this name, for this reason; or this comes of the application.
abbrev pub OfApp : (Source → Result Answer Stop → Type 0) → Texts → (app : List ℕ) → Result Answer Stop → Type 0
OfApp Comes texts app came =
    IsErrAnd came (IsWhyNoApp texts app)
    ⊎ ((net : Network) × (sizes : ImageSizes) × IsOfApp (source_in net sizes texts) app
    × Comes (source_in net sizes texts) came)
