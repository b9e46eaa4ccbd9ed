-- The last scan that is shown.
use Rattle.std.proofs.Common.{◌≡◌, ◌∙◌, ◌-◌, List, Option, Some, None, Bor, length, map, refl, sym, ap}
use Rattle.std.specs.Prelude.{option_copied, option_map, slice_get}
use Rattle.std.proofs.lemmas.List.{length-map}
use Rattle.std.proofs.lemmas.Option.{slice_get-map}
use Rattle.ps_bench_report.specs.Recorder.{last_frame}
use Rattle.ps_bench_report.specs.Recording.{frame_of}
use Rattle.ps_bench_report.specs.declared.recording.Moment.{Moment}

-- what is lent shows what it is
lent : (o : Option (Bor Moment)) → option_map (λ (m : Bor Moment). frame_of m.now) o ≡ option_map frame_of (option_copied o)
lent None = refl
lent (Some m) = refl

-- the last one of moments shows the last frame
pub last_shown : (ms : List Moment) (o : Option (Bor Moment)) → option_copied o ≡ slice_get ms (length ms - 1) →
    option_map (λ (m : Bor Moment). frame_of m.now) o ≡ last_frame (map frame_of ms)
last_shown ms o is =
    lent o ∙ ap (option_map frame_of) is ∙ sym (slice_get-map frame_of ms (length ms - 1))
    ∙ ap (λ n. slice_get (map frame_of ms) (n - 1)) (sym (length-map ms frame_of))
