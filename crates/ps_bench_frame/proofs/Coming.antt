-- What a call gets of an application or of a case file, from what the readers promise.
use Rattle.std.proofs.Common.{◌≡◌, ◌≢◌, ℕ, IsTrue, IsSome, List, Option, Result, Ok, Err, refl}
use Rattle.std.specs.Prelude.{IfErr, IfOk, OnOk}
use Rattle.ps_bench_cases.specs.declared.case.CaseFile.{CaseFile}
use Rattle.ps_outside.specs.declared.text_fail.TextFail.{TextFail}
use Rattle.ps_outside.specs.declared.text_fail.TextFail.TheVariants.{Memory, Fault, Refused}
use Rattle.ps_accepted.specs.Answering.{Reads}
use Rattle.ps_accepted.specs.Source.{IsAcceptedAs}
use Rattle.ps_bench_frame.specs.Coming.{IsWhyNoApp, OpensCases, OpensSourced, no_app}
use Rattle.ps_bench_frame.specs.Ending.{IsUnread}
use Rattle.ps_bench_frame.specs.Opening.{GivesNet, IsOfText, Source}
use Rattle.ps_bench_frame.specs.Seen.{Texts}
use Rattle.ps_bench_frame.specs.Stopping.{IsWhyNoCases}
use Rattle.ps_bench_frame.specs.declared.ending.Stop.{Stop}
use Rattle.ps_bench_frame.specs.declared.ending.Stop.TheVariants.{App, Cases, UnreadApp, UnreadCases, Input, Unwritten, NoMemory}
use Rattle.ps_bench_frame.specs.declared.sourcing.Sourced.{Sourced}

-- ---- an application

-- why there is none
pub app_none : (texts : Texts) (name : List ℕ) (why : TextFail) → (IsTrue texts.tells → Reads GivesNet IsAcceptedAs (texts.held name) (Err why)) →
    IsWhyNoApp texts name (no_app why)
app_none texts name (Refused refusal) reads = reads
app_none texts name Fault reads = tt
app_none texts name Memory reads = tt

pub app_unread : (why : TextFail) → IsUnread (no_app why) → why ≡ Fault
app_unread (Refused refusal) is = cc
app_unread Fault is = refl
app_unread Memory is = cc

-- no write stops a call there
no_app_written : (texts : Texts) (name : List ℕ) (stop : Stop) → IsWhyNoApp texts name stop → stop ≢ Unwritten
no_app_written texts name Unwritten why is = why
no_app_written texts name (App refusal) why is = cc
no_app_written texts name (Cases place refusal) why is = why
no_app_written texts name UnreadApp why is = cc
no_app_written texts name (UnreadCases place) why is = why
no_app_written texts name (Input why_input) why is = why
no_app_written texts name NoMemory why is = cc

pub app_no_write : (texts : Texts) (name : List ℕ) (came : Result Sourced Stop) → OpensSourced texts name came → IfErr came (λ stop. stop ≢ Unwritten)
app_no_write texts name (Ok sourced) opens = tt
app_no_write texts name (Err stop) opens = no_app_written texts name stop opens

-- ---- cases

-- what is read of a file
pub opens_cases : (from : Source) (name : List ℕ) (came : Result CaseFile Stop) → IfOk came (IsOfText from name) →
    (IsTrue from.tells → OnOk came (IsSome (from.held name))) → IfErr came (IsWhyNoCases from name) → OpensCases from name came
opens_cases from name (Ok file) of found why = (of, found)
opens_cases from name (Err stop) of found why = why

no_cases_written : (from : Source) (name : List ℕ) (stop : Stop) → IsWhyNoCases from name stop → stop ≢ Unwritten
no_cases_written from name Unwritten why is = why
no_cases_written from name (App refusal) why is = why
no_cases_written from name (Cases place refusal) why is = cc
no_cases_written from name UnreadApp why is = why
no_cases_written from name (UnreadCases place) why is = cc
no_cases_written from name (Input why_input) why is = why
no_cases_written from name NoMemory why is = cc

pub cases_no_write : (from : Source) (name : List ℕ) (came : Result CaseFile Stop) → IfErr came (IsWhyNoCases from name) → IfErr came (λ stop. stop ≢ Unwritten)
cases_no_write from name (Ok file) why = tt
cases_no_write from name (Err stop) why = no_cases_written from name stop why
