-- A trace whose scans are added, or that is refused.
use Rattle.std.proofs.Common.{◌≡◌, ℕ, List, [], Option, Some, true, Result, Ok, Err, refl, inr, arith}
use Rattle.ps_cover.specs.Applying as applying
use Rattle.ps_base.specs.declared.failing.Refusal.{Refusal}
use Rattle.ps_bench_frame.specs.Following.{IsFollowed}
use Rattle.ps_bench_frame.specs.Meant.{file_meant}
use Rattle.ps_bench_frame.specs.Opening.{Source, source_in}
use Rattle.ps_bench_frame.specs.Seen.{Texts}
use Rattle.ps_bench_frame.specs.declared.ending.Stop.{Stop}
use Rattle.ps_bench_frame.specs.declared.ending.Stop.TheVariants.{NoMemory}
use Rattle.ps_bench_trace.specs.Coming.{IsWhyNoTrace}
use Rattle.ps_bench_trace.specs.Playing.{IsPlay, MeansPlay, trace_held}
use Rattle.ps_bench_trace.specs.Refusing.{RefusesHeld}
use Rattle.ps_bench_trace.specs.declared.playing.Play.{Play}
use Rattle.ps_bench_trace.proofs.Refused.{word_refused}
use Rattle.ps_cover.proofs.Joining.{joins_up}
use Rattle.ps_cover.specs.Covers.{Joins}
use Rattle.ps_cover.specs.declared.cover.Cover.{Cover}
use Rattle.ps_model.specs.Meaning.{nothing}
use Rattle.ps_model.specs.Network.{Network}
use Rattle.ps_model.specs.Sound.{IsSound}
use Rattle.ps_model.specs.declared.channel.Fault.{Fault}
use Rattle.ps_model.specs.declared.channel.ImageSizes.{ImageSizes}
use Rattle.ps_model.proofs.Runs.{has_one_meaning}
use Rattle.ps_runs.specs.Watching.{EvaluatesAs}
use Rattle.ps_runs.specs.declared.items.Cut.{Cut}
use Rattle.ps_runs.specs.declared.items.Cut.TheVariants as cut
use Rattle.ps_runs.specs.declared.watching.Evaluated.{Evaluated}
use Rattle.ps_trace.specs.Scans.{scans_of}
use Rattle.ps_bench_cover.specs.Adding.{AddsHeld, AddsWord}
use Rattle.ps_bench_cover.specs.Coming.{ComesOfTrace, ComesOfWord}
use Rattle.ps_bench_cover.specs.Taking.{IsBegun, cover_takes}
use Rattle.ps_bench_cover.specs.declared.covering.Shown.{Shown}
use Rattle.ps_bench_cover.proofs.Done.{covered, done_refused, done_whole}

module _ (net : Network) (held : Option (List ℕ)) (p p' : Evaluated) (t t' : Shown) where
  -- what was followed of the trace that is held
  abbrev pub Follows : Result (Unit {0}) Cut → Type 0
  Follows ended = IsFollowed (EvaluatesAs net) (λ t p o. []) (λ t p o t'. cover_takes net t.cover p o t'.cover) net held p p' t t' ended

  -- a trace that was begun anew, and of which all was done, is added
  pub play_added : IsSound net → IsBegun net p t.cover → (total new : Cover) → Joins total t'.cover new → Follows (Ok tt) → AddsHeld net held total new
  play_added sound begun total new joins (text, is, bytes, did) =
      let scans = scans_of text net in
      let one = has_one_meaning net sound scans.items in
      let steps = applying.scans_of net nothing scans.items one.meaning in
      let shown = covered net sound 0 p t scans bytes (Ok tt) p' t' nothing one.meaning begun.stands (omega arith) begun.first one.means did in (
        text,
        is,
        steps,
        record {
          ends = done_whole _ _ _ 0 p t scans bytes (Ok tt) p' t' did;
          states = one.meaning;
          means = one.means;
          are = refl;
        },
        λ traces first whole knows. joins_up net traces steps first total t.cover t'.cover new whole knows begun.whole begun.unseen shown joins,
      )

  -- a refusal is that of the trace
  pub play_refused : (refusal : Refusal) → Follows (Err (cut.Refused refusal)) → RefusesHeld net held refusal
  play_refused refusal (text, is, bytes, did) =
      (text, is, done_refused net _ _ 0 p t (scans_of text net) bytes (Err (cut.Refused refusal)) p' t' refusal did refl)

-- memory ran out before a trace
pub no_memory : {Refuses : Refusal → Type 0} → IsWhyNoTrace Refuses NoMemory
no_memory = record { of_run = tt; refuses = λ refusal is. cc }

-- ---- what a word means

-- what is held where a word stands is what the word means
word_added : (from : Source) (word : List ℕ) (faults : List Fault) (held : Option (List ℕ)) (old new : Cover) →
    ((trace : List ℕ) → held ≡ Some trace → IsPlay from word trace faults) → AddsHeld from.net held old new → AddsWord from word old new
word_added from word faults held old new means (trace, is, steps, are, adds) = (steps, (trace, faults, means trace is, are), adds)

module _ (net : Network) (sizes : ImageSizes) (texts : Texts) (word : List ℕ) (play : Play) (old new : Cover)
    (means : MeansPlay (source_in net sizes texts) word play.cases play.faults) where
  abbrev from : Source
  from = source_in net sizes texts

  abbrev held : Option (List ℕ)
  held = trace_held play.cases (texts.held (file_meant word))

  -- the scans of what a word means are added
  pub word_done : ComesOfTrace net play.cases word texts old new (Ok tt) → ComesOfWord from word old new (Ok true)
  word_done comes = λ tells. word_added from word play.faults held old new (means tells) (comes tells)

  -- what a word means is refused
  pub word_stops : (stop : Stop) → ComesOfTrace net play.cases word texts old new (Err stop) → ComesOfWord from word old new (Err stop)
  word_stops stop why = inr (record {
    of_run = why.of_run;
    refuses = λ refusal is tells. word_refused from word play.faults held refusal (means tells) (why.refuses refusal is tells);
  })
