-- How a run of the lines of a stream comes to be that of a trace with these lines, however they are told.
use Rattle.std.proofs.Common.{◌≡◌, ◌∙◌, ◌++◌, ◌≤◌, [], ℕ, List, Bool, true, false, Result, Ok, Err, length, inl, inr, ⊎_elim, refl, sym, ap, subst, append_assoc, append-nil, arith}
use Rattle.std.proofs.lemmas.List.{length-append}
use Rattle.ps_base.specs.declared.failing.Refusal.{Refusal}
use Rattle.ps_lines.specs.Lines.{Line, HasNoLineFeed}
use Rattle.ps_model.specs.Network.{Network}
use Rattle.ps_model.specs.Meaning.{Item}
use Rattle.ps_outside.specs.Outside.{last_count}
use Rattle.ps_runs.specs.Outcomes.{Outcome, refuses}
use Rattle.ps_runs.specs.Resting.{answered, any_trips}
use Rattle.ps_runs.specs.Doing.{Did}
use Rattle.ps_runs.specs.Written.{HasEnded, WritesLines}
use Rattle.ps_runs.specs.declared.items.Cut.{Cut}
use Rattle.ps_runs.specs.declared.items.Cut.TheVariants.{Refused, Unread, Unwritten}
use Rattle.ps_trace.specs.Scans.{Scans, End, scans_behind}
use Rattle.ps_trace.specs.Scans.End.{whole, refused}
use Rattle.ps_bench_watch.specs.Feeding.{IsBehind, IsHeadless, lines_left, waiting}
use Rattle.ps_bench_watch.specs.Streaming.{fed_lines, scans_in}
use Rattle.ps_bench_watch.specs.declared.feed.Feed.{Feed}
use Rattle.ps_world.specs.Whole.{Whole, IsWorldOf}
use Rattle.ps_bench_watch.specs.Answering.{AnswersLines, HasDone}
use Rattle.ps_bench_watch.specs.Living.{AreRun, IsSaid, RunsStream, stop_by}
use Rattle.ps_bench_watch.specs.declared.living.LiveStop as live

-- nothing is said of no items
none_said : (by_name : Bool) (net : Network) (world : Whole) → IsSaid by_name net [] (answered net [] 1 [] world) []
none_said false net world = refl
none_said true net world = ([], refl, refl)

module _ (by_name : Bool) (net : Network) (world : Whole) (of_net : IsWorldOf net world) where
  -- this is said of scans and restarts in this world
  abbrev Says : Scans → List ℕ → Type 0
  Says scans said = IsSaid by_name net scans.items (answered net [] 1 scans.items world) said

  -- A run of these scans in this world wrote these bytes, and says whether a scan tripped.
  pub record ComesTo (trips : Bool) (scans : Scans) (bytes : List ℕ) (ended : Result (Unit {0}) Cut) : Type 0 where
    pub text : List ℕ
    pub says : Says scans text
    pub written : WritesLines text scans.end bytes ended
    pub tripped : HasEnded ended → trips ≡ any_trips (answered net [] 1 scans.items world)

  -- a header that is refused
  pub headless_run : (bytes : List ℕ) (refusal : Refusal) (tells : Bool) (before after : List ℕ) → IsHeadless net (fed_lines bytes) refusal → after ≡ before →
      (coming : List ℕ) → RunsStream by_name net bytes coming tells before after (Err (live.TheVariants.Refused refusal))
  headless_run bytes refusal tells before after none same coming =
      let is : scans_in (fed_lines bytes) net ≡ record { items = []; end = refused none.cause } = ap scans_behind none.fails_so in (
        [],
        none.cause,
        [],
        _,
        record {
          done = fed_lines bytes;
          world = world;
          split = sym (append-nil (fed_lines bytes));
          of_net = of_net;
          ends = ap (λ (s : Scans). s.end) is;
          says = subst (λ (s : Scans). Says s []) (sym is) (none_said by_name net world);
          trips_so = refl;
        },
        none.told_so,
        λ on. same ∙ sym (append-nil before),
      )

  module _ {P T V : Type 0} (performs : P → Item → Outcome V → P → Type 0) (said : T → P → Outcome V → List ℕ) (takes : T → P → Outcome V → T → Type 0)
      (bytes : List ℕ) (feed : Feed) (lines : List Line) (behind : IsBehind net (fed_lines bytes) feed lines) (p p' : P) (t t' : T) (trips : Bool)
      (comes : (scans : Scans) (written : List ℕ) (ended : Result (Unit {0}) Cut) → Did performs said takes feed.last p t scans written ended p' t' →
      ComesTo trips scans written ended)
      (none_refused : (q : P) (item : Item) (after : P) (refusal : Refusal) → performs q item (refuses refusal) after → ⊥) where
    -- what was done of the lines
    abbrev Done : (left : List Line) (tells : Bool) (before after : List ℕ) → Result (Unit {0}) Cut → Type 0
    Done left tells before after ended = HasDone performs said takes feed behind.number p p' t t' lines left tells before after ended

    module _ (left : List Line) (tells : Bool) (before after : List ℕ) (ended : Result (Unit {0}) Cut) (done : Done left tells before after ended) where
      -- all lines that were done, from the stream's first one on
      abbrev all_done : List Line
      all_done = behind.done ++ done.done

      abbrev scans : Scans
      scans = scans_in all_done net

      -- what the run came to
      came : ComesTo trips scans done.does.bytes ended
      came = comes scans done.does.bytes ended
          (subst (λ (s : Scans). Did performs said takes feed.last p t s done.does.bytes ended p' t') (sym (behind.goes_on done.done)) done.does.did)

      -- the lines were run, if they end so, a scan tripped so, and this is said of them
      are_run : (end : End) → scans.end ≡ end → (tripped : Bool) → tripped ≡ any_trips (answered net [] 1 scans.items world) →
          (text : List ℕ) → Says scans text → AreRun by_name net bytes left end text tripped
      are_run end ends tripped trips_so text says = record {
        done = all_done;
        world = world;
        split = behind.split ∙ ap (λ (ls : List Line). behind.done ++ ls) done.split ∙ sym (append_assoc behind.done done.done left);
        of_net = of_net;
        ends = ends;
        says = says;
        trips_so = trips_so;
      }

      -- the bytes that were written are what is said
      said_is : done.does.bytes ≡ came.text → Says scans done.does.bytes
      said_is same = subst (λ (text : List ℕ). Says scans text) (sym same) came.says

    -- all lines up to those that are left were run
    whole_run : (left : List Line) (tells : Bool) (before after : List ℕ) (x : Unit {0}) (done : Done left tells before after (Ok x)) →
        AreRun by_name net bytes left whole done.does.bytes trips
    whole_run left tells before after x done =
        let to = came left tells before after (Ok x) done in
        are_run left tells before after (Ok x) done whole to.written.1 trips (to.tripped tt) done.does.bytes (said_is left tells before after (Ok x) done to.written.0)

    -- those before a refused one were run
    refused_run : (left : List Line) (tells : Bool) (before after : List ℕ) (cause : Refusal) (done : Done left tells before after (Err (Refused cause))) →
        AreRun by_name net bytes left (refused cause) done.does.bytes trips
    refused_run left tells before after cause done =
        let to = came left tells before after (Err (Refused cause)) done in
        are_run left tells before after (Err (Refused cause)) done (refused cause) to.written.1 trips (to.tripped tt) done.does.bytes
        (said_is left tells before after (Err (Refused cause)) done to.written.0)

    -- how many lines are there
    enough : last_count ≤ length lines → last_count ≤ length (fed_lines bytes)
    enough most = omega (arith, most, ap (λ (ls : List Line). length ls) behind.split, length-append behind.done lines)

    -- the end of the stream
    pub ended_run : (rest : List Line) (tells : Bool) (before after coming : List ℕ) (x : Unit {0}) →
        AnswersLines performs said takes feed p p' t t' lines rest tells before after (Ok x) →
        RunsStream by_name net bytes coming tells before after (Ok trips)
    ended_run rest tells before after coming x answers =
        let all = answers behind.number behind.shown in
        (all.0, all.1.does.bytes, whole_run all.0 tells before after x all.1, all.1.does.written, ⊎_elim (λ is. inl is) (λ most. inr (enough most)) all.2)

    -- a run that was cut short
    pub cut_run : (feed' : Feed) (coming : List ℕ) (cut : Cut) (tells : Bool) (before after : List ℕ) →
        AnswersLines performs said takes feed p p' t t' lines (lines_left feed' coming) tells before after (Err cut) →
        (cut ≡ Unread → HasNoLineFeed (waiting feed')) → RunsStream by_name net bytes coming tells before after (Err (stop_by cut))
    cut_run feed' coming Unread tells before after answers all_came =
        let done = answers behind.number behind.shown in
        inr (feed', done.does.bytes, trips, whole_run (lines_left feed' coming) tells before after tt done, all_came refl, done.does.written)
    cut_run feed' coming Unwritten tells before after answers all_came =
        let some = answers behind.number behind.shown in
        let to = came some.0 tells before after (Err Unwritten) some.1 in
        inr (
          some.0,
          _,
          to.text,
          _,
          are_run some.0 tells before after (Err Unwritten) some.1 _ refl _ refl to.text to.says,
          λ on. (some.1.does.bytes, to.written.0, some.1.does.written on, to.written.1),
        )
    cut_run feed' coming (Refused refusal) tells before after answers all_came =
        let at = answers behind.number behind.shown in
        ⊎_elim
        (λ is. (at.0, at.1, at.2.does.bytes, trips, refused_run at.0 tells before after at.1 at.2, is, at.2.does.written))
        (λ no. absurd (none_refused no.1.0 no.1.1 no.1.2 at.1 no.1.3))
        at.3
