-- What a writer of value changes writes of the items of a trace.
use Rattle.std.proofs.Common.{◌≡◌, ◌∙◌, ◌++◌, ◌+◌, ℕ, Bool, true, false, List, [], ◌∷◌, Result, length, refl, sym, ap, subst, arith}
use Rattle.std.specs.Prelude.{codes, decimal}
use Rattle.std.proofs.lemmas.List.{length-map, length-replicate}
use Rattle.ps_bench_names.specs.declared.name.Name.{Name}
use Rattle.ps_bench_judge.specs.Runs.{moments_of}
use Rattle.ps_bench_judge.specs.Moments.{Moment}
use Rattle.ps_model.specs.Meaning.{Runs, nothing}
use Rattle.ps_model.specs.Network.{Network}
use Rattle.ps_model.specs.Scanning.{State}
use Rattle.ps_model.specs.Sound.{IsSound}
use Rattle.ps_runs.specs.Doing.{Did}
use Rattle.ps_runs.specs.Performing.{Performs}
use Rattle.ps_runs.specs.Resting.{answered}
use Rattle.ps_runs.specs.Watching.{Watches}
use Rattle.ps_runs.specs.Written.{WritesLines}
use Rattle.ps_runs.specs.declared.items.Cut.{Cut}
use Rattle.ps_runs.specs.declared.striking.StruckWorld.{StruckWorld}
use Rattle.ps_runs.specs.declared.watching.Watched.{Watched}
use Rattle.ps_runs.proofs.ToCome.{first_stands}
use Rattle.ps_trace.specs.Scans.{Scans}
use Rattle.ps_bench_waves.specs.DumpWriter.{has_begun, last_of}
use Rattle.ps_bench_waves.specs.Text.{change_text, changes, lines_text, scan_text}
use Rattle.ps_bench_waves.specs.Values.{Held, held}
use Rattle.ps_bench_waves.specs.Values.Held.{bit}
use Rattle.ps_bench_waves.proofs.Seeing.{watched}
use Rattle.ps_bench_waves.specs.Watcher.{seen_behind}
use Rattle.ps_bench_waves.specs.Dumped.{Dumped, dump_text, dump_told, dumped_anew, dumped_then, none_dumped}
use Rattle.ps_bench_waves.specs.Counts.{next_count}
use Rattle.ps_bench_waves.specs.Dumping.{TakesRestart, TakesScan, dumper_said, dumper_takes, wires_held}
use Rattle.ps_bench_waves.specs.Parts.{parts_of}
use Rattle.ps_bench_watch.specs.Prepared.{IsDumpBegun}
use Rattle.ps_bench_waves.specs.declared.dumper.Dumper.{Dumper}

-- where all lines are written, it does not matter what the wires had before
all_changes : (wire : ℕ) (last other now : List Held) → length last ≡ length other →
    changes true wire last now ≡ changes true wire other now
all_changes wire last other [] same = refl
all_changes wire [] [] (v ∷ now) same = refl
all_changes wire [] (o ∷ other) (v ∷ now) same = cc
all_changes wire (l ∷ last) [] (v ∷ now) same = cc
all_changes wire (l ∷ last) (o ∷ other) (v ∷ now) same =
    ap (λ (rest : List ℕ). change_text wire v ++ rest) (all_changes (wire + 1) last other now (omega (arith, same)))

-- it is known what the wires had in the last scan, and before the first how many there are
abbrev LastKnown : (begun : Bool) → (last known : List Held) → Type 0
LastKnown true last known = last ≡ known
LastKnown false last known = length last ≡ length known

-- the lines of a scan, where that is known
known_lines : (begun : Bool) (last known now : List Held) → LastKnown begun last known →
    lines_text begun last now ≡ lines_text begun known now
known_lines true last known now same = ap (λ (l : List Held). lines_text true l now) same
known_lines false last known now same =
    ap (λ (text : List ℕ). codes "$dumpvars\n" ++ (text ++ codes "$end\n")) (all_changes 0 last known now same)

module _ (net : Network) (names : List Name) where
  -- a writer knows what was written before
  record Knows (b : Dumped) (d : Dumper) : Type 0 where
    parts : d.parts.items ≡ parts_of names
    begun : has_begun d.dump ≡ b.begun
    last : LastKnown b.begun (last_of d.dump) b.last
    next : d.next ≡ b.next

  told : (b : Dumped) (d : Dumper) (m : Moment) → Knows b d →
      scan_text (has_begun d.dump) (last_of d.dump) m.now (wires_held net d.parts.items d.next m) ≡ dump_told net names b m
  told b d m knows =
      (λ i. scan_text (knows.begun i) (last_of d.dump) m.now (wires_held net (knows.parts i) (knows.next i) m))
      ∙ ap (λ (text : List ℕ). codes "#" ++ (decimal m.now ++ (codes "\n" ++ text)))
      (known_lines b.begun (last_of d.dump) b.last (wires_held net (parts_of names) b.next m) knows.last)

  goes : (b : Dumped) (d d' : Dumper) (m : Moment) → Knows b d → TakesScan net d m d' → Knows (dumped_then net names b m) d'
  goes b d d' m knows takes = record {
    parts = takes.parts ∙ knows.parts;
    begun = takes.begun;
    last = takes.last ∙ (λ i. wires_held net (knows.parts i) (knows.next i) m);
    next = takes.next ∙ ap next_count knows.next;
  }

  goes_anew : (b : Dumped) (d d' : Dumper) → Knows b d → TakesRestart d d' → Knows (dumped_anew b) d'
  goes_anew b d d' knows takes = record {
    parts = takes.parts ∙ knows.parts;
    begun = takes.begun ∙ knows.begun;
    last = subst (λ (l : List Held). LastKnown b.begun l b.last) (sym takes.last) knows.last;
    next = takes.next ∙ (λ i. record { number = (knows.next i).number; is_restarted = true });
  }

  -- at the beginning it knows that nothing was written
  knows_none : (p : Watched StruckWorld) (d : Dumper) → IsDumpBegun net names p d →
      Knows (none_dumped (length (parts_of names))) d
  knows_none p d begun = record {
    parts = begun.parts;
    begun = begun.fresh;
    last = length-map d.dump.last.items held ∙ begun.wires ∙ ap length begun.parts
        ∙ sym (length-replicate (length (parts_of names)) (bit false));
    next = begun.next;
  }

-- a run from its beginning
pub dumped_run : (net : Network) → IsSound net → (names : List Name) (time : ℕ) (p : Watched StruckWorld) (d : Dumper)
    (scans : Scans) (bytes : List ℕ) (ended : Result (Unit {0}) Cut) (after : Watched StruckWorld) (d' : Dumper) →
    IsDumpBegun net names p d →
    Did (Watches Performs net) (dumper_said net) (dumper_takes net) time p d scans bytes ended after d' →
    (ws : List State) → Runs net nothing scans.items ws →
    WritesLines (dump_text net names scans.items
    (moments_of net nothing scans.items (answered net p.performer.faults 1 scans.items p.performer.world) ws)) scans.end
    bytes ended
dumped_run net sound names time p d scans bytes ended after d' begun did ws means =
    watched net sound p.performer.faults (dumper_said net) (dumper_takes net)
    (dump_told net names) (dumped_then net names) [] dumped_anew (Knows net names)
    (λ b d p now v r knows. told net names b d (seen_behind p now v r) knows)
    (λ b d p now v r d' knows takes. goes net names b d d' (seen_behind p now v r) knows takes)
    (λ b d p knows. refl)
    (λ b d p d' knows takes. goes_anew net names b d d' knows takes)
    time 0 p d scans bytes ended after d' nothing (none_dumped (length (parts_of names))) ws
    (first_stands net p.performer begun.world) begun.evaluator (omega arith) means
    (knows_none net names p d begun) did
