-- A case file that was read once: what comes of the text that is held of it comes of the file.
use Rattle.std.proofs.Common.{◌≡◌, ◌≤◌, ◌∙◌, ◌∷◌, [], ℕ, Bool, true, IsTrue, List, Option, Some, Result, Ok, Err, inl, inr, refl, sym, arith}
use Rattle.std.proofs.lemmas.Result.{IfErr-weaker}
use Rattle.ps_bench_cases.specs.declared.case.CaseFile.{CaseFile}
use Rattle.ps_bench_cases.specs.declared.rule.CaseRefusal.{CaseRefusal}
use Rattle.ps_bench_cover.specs.Leaving.{Leaves, sides}
use Rattle.ps_bench_frame.specs.Ending.{IsUnread}
use Rattle.ps_bench_frame.specs.Opening.{IsOfText, Source, source}
use Rattle.ps_bench_frame.specs.Refusing.{refused_line}
use Rattle.ps_bench_frame.specs.Stopping.{AreRefused, StopsAtCases}
use Rattle.ps_bench_frame.specs.declared.ending.Stop.{Stop}
use Rattle.ps_bench_frame.specs.declared.ending.Stop.TheVariants.{App, Cases, Input, NoMemory, UnreadApp, UnreadCases, Unwritten}
use Rattle.ps_bench_report.specs.Digests.{AreDigests}
use Rattle.ps_bench_report.specs.Running.{EndsFile}
use Rattle.ps_bench_report.specs.declared.running.Pages.{Pages}
use Rattle.ps_model.specs.Network.{Network}
use Rattle.ps_model.specs.declared.channel.ImageSizes.{ImageSizes}
use Rattle.ps_outside.specs.Outside.{Rose}

-- the text in the place of all files
abbrev from_text : Network → ImageSizes → (text : List ℕ) → Source
from_text net sizes text = source net sizes true (λ other. Some text)

module _ (net : Network) (sizes : ImageSizes) (tells : Bool) (held : List ℕ → Option (List ℕ)) (name text : List ℕ)
    (is : IsTrue tells → held name ≡ Some text) where
  refused_held : (refusal : CaseRefusal) → AreRefused (from_text net sizes text) name refusal → AreRefused (source net sizes tells held) name refusal
  refused_held refusal refused = λ told. let why = refused refl in (why.0, is told ∙ why.1, why.2)

  of_text_held : (file : CaseFile) → IsOfText (from_text net sizes text) name file → IsOfText (source net sizes tells held) name file
  of_text_held file of = λ told t there. of refl t (sym (is told) ∙ there)

  stops_held : (stop : Stop) (telling : Bool) (before after : List ℕ) → StopsAtCases (from_text net sizes text) name refused_line stop telling before after →
      StopsAtCases (source net sizes tells held) name refused_line stop telling before after
  stops_held (Cases place refusal) telling before after stops = (refused_held refusal stops.0, stops.1)
  stops_held Unwritten telling before after stops = (stops.0, refused_held stops.0 stops.1, stops.2)
  stops_held (UnreadCases place) telling before after stops = stops
  stops_held NoMemory telling before after stops = stops
  stops_held (App refusal) telling before after stops = stops
  stops_held UnreadApp telling before after stops = stops
  stops_held (Input why) telling before after stops = stops

  -- what names it
  digests_held : (digests : List (List ℕ)) → AreDigests (from_text net sizes text) (name ∷ []) digests → AreDigests (source net sizes tells held) (name ∷ []) digests
  digests_held [] named = named
  digests_held (d ∷ []) named = (λ told. let is_named = named.0 refl in (is_named.0, is told ∙ is_named.1, is_named.2), tt)
  digests_held (d ∷ e ∷ ds) named = absurd named.1

  -- how a call ends that ran its cases
  pub ends_held : {X : Type 0} (app : List ℕ) (place : ℕ) (old new : Pages) (telling : Bool) (before after : List ℕ) (ended : Result X Stop) →
      EndsFile (from_text net sizes text) app name place old new telling before after ended →
      EndsFile (source net sizes tells held) app name place old new telling before after ended
  ends_held app place old new telling before after (Ok done) ends = (
    ends.0,
    ends.1,
    record { name_is = ends.2.name_is; of_text = of_text_held ends.1.file ends.2.of_text; ran = ends.2.ran },
    record {
      digests = ends.3.digests;
      named = digests_held ends.3.digests ends.3.named;
      in_front = ends.3.in_front;
      in_rows = ends.3.in_rows;
      in_parts = ends.3.in_parts;
      tally = ends.3.tally;
      covers = ends.3.covers;
    },
  )
  ends_held app place old new telling before after (Err stop) ends = stops_held stop telling before after ends

-- no count rises where there is none
never_rose : Rose 0 0 → ⊥
never_rose (inl more) = omega (arith, more)
never_rose (inr last) = omega (arith, last)

-- what it leaves, beside files that were read before
pub leaves_held : {X : Type 0} (R : Type 0) (text text' : List ℕ) (r r' : Bool) (h h' : List ℕ → Option (List ℕ)) (f f' : List ℕ → ℕ) (t t' : Bool) (w w' : ℕ)
    (ended : Result X Stop) → r' ≡ r → h' ≡ h → ((other : List ℕ) → f other ≤ f' other) →
    Leaves (Rose 0 0) (sides true (λ other. Some text) (λ other. 0) t w) (sides true (λ other. Some text') (λ other. 0) t' w') ended →
    Leaves R (sides r h f t w) (sides r' h' f' t' w') ended
leaves_held R text text' r r' h h' f f' t t' w w' ended reading kept reads leaves = record {
  stays = record { reading = reading; kept = kept; reads = reads; telling = leaves.stays.telling; writes = leaves.stays.writes };
  unread = IfErr-weaker ended (λ stop. IsUnread stop → Rose 0 0) (λ stop. IsUnread stop → R) (λ stop unread at. absurd (never_rose (unread at))) leaves.unread;
  unwritten = leaves.unwritten;
}
