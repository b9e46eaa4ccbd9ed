-- Apparatus: the trace that was read, by what is kept of it.
use Rattle.std.specs.Prelude.{◌≡◌, ℕ, List, Option, Some}
use Rattle.ps_bench_frame.specs.Opening.{Source}
use Rattle.ps_bench_trials.specs.Steps.{items_in}
use Rattle.ps_bench_campaign.specs.declared.recorder.Course.{Course}
use Rattle.ps_model.specs.Network.{Network}
use Rattle.ps_model.specs.declared.channel.Fault.{Fault}
use Rattle.ps_bench_trials.specs.Naming.{digest_text}
use Rattle.ps_trace.specs.Scans.{scans_of}
use Rattle.ps_trace.specs.Scans.End.{whole}
use Rattle.ps_bench_trace.specs.Playing.{IsPlay}
use Rattle.ps_bench_campaign.specs.declared.recording.Recorded.{Recorded}

-- the scans of the text are those of the course, and it is whole
abbrev pub IsCourseOf : Network → (text : List ℕ) → Course → Type 0
IsCourseOf net text course = scans_of text net ≡ record { items = items_in course.steps.items; end = whole }

-- what is kept is of the trace that is held
abbrev pub RecordsHeld : Network → (held : Option (List ℕ)) → Recorded → Type 0
RecordsHeld net held r =
    (trace : List ℕ) × (held ≡ Some trace) × IsCourseOf net trace r.course × (r.name ≡ digest_text trace)

-- and of what a word means
abbrev pub RecordsWord : Source → (word : List ℕ) → Recorded → Type 0
RecordsWord from word r =
    (trace : List ℕ) × (brought : List Fault) × IsPlay from word trace brought
    × IsCourseOf from.net trace r.course × (r.name ≡ digest_text trace)
