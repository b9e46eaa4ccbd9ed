use Rattle.std.proofs.Common.{◌-◌, Bool, List, ap}
use Rattle.std.proofs.Math.Seq.{map-set_same}
use Rattle.ps_bench_report.specs.Recording.{Film, Frame, frame_of}
use Rattle.ps_bench_names.specs.declared.name.Name.{Name}
use Rattle.ps_bench_report.proofs.recording.Recording.wait_until.Goals as goal

abbrev film_with : List Name → List Frame → Bool → Film
film_with names frames is_cut = record { names = names; frames = frames; is_cut = is_cut }

pub returns-in-Some : goal.returns-in-Some
returns-in-Some c =
    let r = c.args.self.now in
    let last = c.in-Some.last.now in
    ap (λ (frames : List Frame). film_with r.names.items frames r.is_cut)
    (map-set_same frame_of r.moments.items (r.moments.len - 1) (record last { wait = c.saturating_sub-last.result }) last (ap frame_of c.in-Some.ensures.value))
