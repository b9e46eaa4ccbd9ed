-- What a run of two channels wrote of the items of a trace, by what its world answered.
use Rattle.std.proofs.Common.{◌≡◌, ◌∙◌, ◌++◌, ℕ, suc, Bool, false, List, [], ◌∷◌, Option, None, Result, Ok, Err, length, refl, sym, ap, subst, take, drop, append_assoc}
use Rattle.std.specs.Prelude.{◌||◌, flat_map}
use Rattle.std.proofs.Math.Bool.{or_assoc, or-false}
use Rattle.std.proofs.lemmas.List.{take-append-drop}
use Rattle.std.specs.Option.{option_or}
use Rattle.ps_base.specs.declared.failing.Refusal.{Refusal}
use Rattle.ps_model.specs.declared.channel.Fault.{Fault}
use Rattle.ps_model.specs.declared.channel.Verdict.{Verdict}
use Rattle.ps_model.specs.Network.{Network, instance_count}
use Rattle.ps_model.specs.Meaning.{Item}
use Rattle.ps_model.specs.Meaning.Item.{scan, restart}
use Rattle.ps_trace.specs.Scans.{Scans}
use Rattle.ps_trace.specs.Scans.End.{whole, refused as is_refused}
use Rattle.ps_world.specs.Steps.{after}
use Rattle.ps_world.specs.Orders.{of_scan, at_compare, scan_events, run_events}
use Rattle.ps_world.specs.Verdicts.{verdict, report_given}
use Rattle.ps_world.specs.Whole.{Whole, machines_in, after_events}
use Rattle.ps_world.proofs.Turning.{after_append}
use Rattle.ps_runs.specs.Doing.{Did, all, refused, unread, refused_item, unwritten, next}
use Rattle.ps_runs.specs.Outcomes.{Outcome, performed, refuses, outcome_line}
use Rattle.ps_runs.specs.Performing.{due, trips_with, MakesScan, Performs}
use Rattle.ps_runs.specs.Tripping.{first_trip, trip_at}
use Rattle.ps_runs.specs.Resting.{answered, ran, outcomes, any_trips, RunsTo}
use Rattle.ps_runs.specs.Running.{IsBeginning}
use Rattle.ps_runs.specs.declared.items.Cut.{Cut}
use Rattle.ps_runs.specs.declared.items.Cut.TheVariants.{Refused, Unread, Unwritten}
use Rattle.ps_runs.specs.declared.striking.StruckWorld.{StruckWorld}
use Rattle.ps_runs.specs.declared.striking.Trip.{Trip}
use Rattle.ps_runs.proofs.Firsts.{or_none, or_both}
use Rattle.ps_runs.proofs.ToCome.{Stands, due_of_scan, first_stands, stands_behind}

module _ (net : Network) (faults : List Fault) where
  -- what comes of items from a number on, by the answers of a world
  abbrev pub coming : (number : ℕ) → List Item → Whole → List (Outcome Verdict)
  coming number items w = outcomes items (answered net faults number items w)

  -- whether one of their scans trips
  abbrev pub any_of : (number : ℕ) → List Item → Whole → Bool
  any_of number items w = any_trips (answered net faults number items w)

  -- the first of them that trips
  abbrev pub first_of : (number : ℕ) → List Item → Whole → Option Trip
  first_of number items w = first_trip (machines_in w.setup) faults number items w.state

  -- A run goes on after an item: what is to come of the item and later ones is its outcome and what is to come of those.
  record Goes (done : ℕ) (item : Item) (outcome : Outcome Verdict) (p after : StruckWorld) : Type 0 where
    made : ℕ
    stands : Stands faults made after
    first : (items : List Item) → coming (suc done) (item ∷ items) p.world ≡ outcome ∷ coming (suc made) items after.world
    same_end : (items : List Item) → ran faults (suc done) (item ∷ items) p.world ≡ ran faults (suc made) items after.world
    same_trip : (items : List Item) → (p.tripped || any_of (suc done) (item ∷ items) p.world) ≡ (after.tripped || any_of (suc made) items after.world)
    same_first : (items : List Item) → option_or p.trip (first_of (suc done) (item ∷ items) p.world) ≡ option_or after.trip (first_of (suc made) items after.world)

  -- a scan that the faults of its number strike
  module _ (done now : ℕ) (ins : List Bool) (outcome : Outcome Verdict) (p after : StruckWorld) (stands : Stands faults done p) (makes : MakesScan net p now ins outcome after) where
    -- the world after the scan, where these faults strike it
    abbrev behind_scan : List Fault → Whole
    behind_scan struck = after_events (scan_events (machines_in p.world.setup) struck now ins p.world.state) p.world

    same_due : of_scan (suc done) faults ≡ due p
    same_due = sym (due_of_scan faults done p stands)

    -- the verdict on the scan, where these faults strike it
    abbrev verdict_of : List Fault → Verdict
    verdict_of struck = verdict (machines_in p.world.setup) (at_compare (machines_in p.world.setup) struck now ins p.world.state)

    -- its outcome
    abbrev outcome_of : List Fault → Outcome Verdict
    outcome_of struck = performed now (verdict_of struck)
        (report_given (machines_in p.world.setup) (length net.outputs) (instance_count net) (at_compare (machines_in p.world.setup) struck now ins p.world.state))

    -- its trip, where it trips
    abbrev trip_of : List Fault → Option Trip
    trip_of struck = trip_at (machines_in p.world.setup) now (at_compare (machines_in p.world.setup) struck now ins p.world.state)

    goes_scan : Goes done (scan now ins) outcome p after
    goes_scan = record {
      made = suc done;
      stands = stands_behind faults done p after stands makes.leaves makes.counts;
      first = λ items.
          (λ i. outcome_of (same_due i) ∷ coming (suc (suc done)) items (behind_scan (same_due i)))
          ∙ (λ i. sym makes.compares i ∷ coming (suc (suc done)) items (sym makes.happens i));
      same_end = λ items.
          (λ i. record {
            setup = p.world.setup;
            state = after_append (machines_in p.world.setup) (scan_events (machines_in p.world.setup) (of_scan (suc done) faults) now ins p.world.state)
                (run_events (machines_in p.world.setup) faults (suc (suc done)) items (behind_scan (of_scan (suc done) faults)).state) p.world.state i;
          })
          ∙ (λ i. ran faults (suc (suc done)) items (behind_scan (same_due i)))
          ∙ (λ i. ran faults (suc (suc done)) items (sym makes.happens i));
      same_trip = λ items.
          (λ i. p.tripped || (trips_with (verdict_of (same_due i)) || any_of (suc (suc done)) items (behind_scan (same_due i))))
          ∙ (λ i. p.tripped || (trips_with (verdict_of (due p)) || any_of (suc (suc done)) items (sym makes.happens i)))
          ∙ sym (or_assoc p.tripped (trips_with (verdict_of (due p))) (any_of (suc (suc done)) items after.world))
          ∙ (λ i. sym makes.remembers i || any_of (suc (suc done)) items after.world);
      same_first = λ items.
          (λ i. option_or p.trip (option_or (trip_of (same_due i)) (first_of (suc (suc done)) items (behind_scan (same_due i)))))
          ∙ (λ i. option_or p.trip (option_or (trip_of (due p)) (first_of (suc (suc done)) items (sym makes.happens i))))
          ∙ sym (or_both p.trip (trip_of (due p)) (first_of (suc (suc done)) items after.world))
          ∙ (λ i. option_or (sym makes.trip i) (first_of (suc (suc done)) items after.world));
    }

  goes_on : (done : ℕ) (item : Item) (outcome : Outcome Verdict) (p after : StruckWorld) → Stands faults done p → Performs net p item outcome after → Goes done item outcome p after
  goes_on done (scan now ins) outcome p after stands makes = goes_scan done now ins outcome p after stands makes
  goes_on done restart outcome p after stands begins = record {
    made = done;
    stands = subst (λ (q : StruckWorld). Stands faults done q) (sym begins.1) (record { same = stands.same; counted = stands.counted });
    first = λ items. (λ i. sym begins.0 i ∷ coming (suc done) items (sym begins.1 i).world);
    same_end = λ items. (λ i. ran faults (suc done) items (sym begins.1 i).world);
    same_trip = λ items. (λ i. (sym begins.1 i).tripped || any_of (suc done) items (sym begins.1 i).world);
    same_first = λ items. (λ i. option_or (sym begins.1 i).trip (first_of (suc done) items (sym begins.1 i).world));
  }

  -- a world that faults strike refuses no item
  no_refusal : (item : Item) (refusal : Refusal) (p after : StruckWorld) → Performs net p item (refuses refusal) after → ⊥
  no_refusal (scan now ins) refusal p after makes = let compares = makes.compares in cc
  no_refusal restart refusal p after begins = let anew_is = begins.0 in cc

  module _ {T : Type 0} (said : Outcome Verdict → List ℕ) (takes : T → Outcome Verdict → T → Type 0) where
    -- what is said of items from a number on, by the answers of a world
    abbrev pub saying : (number : ℕ) → List Item → Whole → List ℕ
    saying number items w = flat_map said (coming number items w)

    -- these outcomes were taken, one after another
    abbrev pub TakesAll : T → List (Outcome Verdict) → T → Type 0
    TakesAll t [] t' = t' ≡ t
    TakesAll t (outcome ∷ later) t' = (mid : T) × takes t outcome mid × TakesAll mid later t'

    -- All items were done: this was written, this was taken, and this is the world after them.
    pub record Came (done : ℕ) (items : List Item) (p after : StruckWorld) (t t' : T) (bytes : List ℕ) : Type 0 where
      pub written : bytes ≡ saying (suc done) items p.world
      pub taken : TakesAll t (coming (suc done) items p.world) t'
      pub ends : after.world ≡ ran faults (suc done) items p.world
      pub tripped : after.tripped ≡ (p.tripped || any_of (suc done) items p.world)
      pub trip : after.trip ≡ option_or p.trip (first_of (suc done) items p.world)

    -- these bytes begin what is said of the items
    abbrev pub Begun : (done : ℕ) → List Item → StruckWorld → (bytes : List ℕ) → Type 0
    Begun done items p bytes = (owed : List ℕ) × (bytes ++ owed ≡ saying (suc done) items p.world)

    -- what was done of the scans of a trace, by how it ended
    abbrev pub CameTo : (done : ℕ) → Scans → (p after : StruckWorld) (t t' : T) → (bytes : List ℕ) → Result (Unit {0}) Cut → Type 0
    CameTo done scans p after t t' bytes (Ok x) = Came done scans.items p after t t' bytes × (scans.end ≡ whole)
    CameTo done scans p after t t' bytes (Err (Refused refusal)) = Came done scans.items p after t t' bytes × (scans.end ≡ is_refused refusal)
    CameTo done scans p after t t' bytes (Err Unread) = Begun done scans.items p bytes
    CameTo done scans p after t t' bytes (Err Unwritten) = Begun done scans.items p bytes

    no_item : (done : ℕ) (p : StruckWorld) (t : T) → Came done [] p p t t []
    no_item done p t = record { written = refl; taken = refl; ends = refl; tripped = sym (or-false p.tripped); trip = sym (or_none p.trip) }

    module _ (done : ℕ) (item : Item) (outcome : Outcome Verdict) (p mid : StruckWorld) (goes : Goes done item outcome p mid) where
      -- what is said of the item first
      said_first : (items : List Item) → saying (suc done) (item ∷ items) p.world ≡ said outcome ++ saying (suc goes.made) items mid.world
      said_first items = ap (λ (l : List (Outcome Verdict)). flat_map said l) (goes.first items)

      begun_behind : (items : List Item) (bytes : List ℕ) → Begun goes.made items mid bytes → Begun done (item ∷ items) p (said outcome ++ bytes)
      begun_behind items bytes begun = (begun.0, append_assoc (said outcome) bytes begun.0 ∙ ap (λ l. said outcome ++ l) begun.1 ∙ sym (said_first items))

      -- a part of what is said of the item was written
      part_begun : (items : List Item) (taken : ℕ) → Begun done (item ∷ items) p (take taken (said outcome))
      part_begun items taken =
          let line = said outcome in
          let more = saying (suc goes.made) items mid.world in (
            drop taken line ++ more,
            sym (append_assoc (take taken line) (drop taken line) more) ∙ ap (λ front. front ++ more) (take-append-drop taken line) ∙ sym (said_first items),
          )

      module _ (t t-mid : T) (took : takes t outcome t-mid) where
        came_behind : (items : List Item) (after : StruckWorld) (t' : T) (bytes : List ℕ) → Came goes.made items mid after t-mid t' bytes → Came done (item ∷ items) p after t t' (said outcome ++ bytes)
        came_behind items after t' bytes came = record {
          written = ap (λ l. said outcome ++ l) came.written ∙ sym (said_first items);
          taken = subst (λ (l : List (Outcome Verdict)). TakesAll t l t') (sym (goes.first items)) (t-mid, took, came.taken);
          ends = came.ends ∙ sym (goes.same_end items);
          tripped = came.tripped ∙ sym (goes.same_trip items);
          trip = came.trip ∙ sym (goes.same_first items);
        }

        came_to_behind : (rest : Scans) (after : StruckWorld) (t' : T) (bytes : List ℕ) (ended : Result (Unit {0}) Cut) → CameTo goes.made rest mid after t-mid t' bytes ended →
            CameTo done (record { items = item ∷ rest.items; end = rest.end }) p after t t' (said outcome ++ bytes) ended
        came_to_behind rest after t' bytes (Ok x) came = (came_behind rest.items after t' bytes came.0, came.1)
        came_to_behind rest after t' bytes (Err (Refused refusal)) came = (came_behind rest.items after t' bytes came.0, came.1)
        came_to_behind rest after t' bytes (Err Unread) begun = begun_behind rest.items bytes begun
        came_to_behind rest after t' bytes (Err Unwritten) begun = begun_behind rest.items bytes begun

    pub came_to : (done time : ℕ) (p : StruckWorld) (t : T) (scans : Scans) (bytes : List ℕ) (ended : Result (Unit {0}) Cut) (after : StruckWorld) (t' : T) →
        Stands faults done p → Did (Performs net) (λ t p outcome. said outcome) (λ t p outcome t'. takes t outcome t') time p t scans bytes ended after t' → CameTo done scans p after t t' bytes ended
    came_to done _ _ _ _ _ _ _ _ stands (all time p t scans is) =
        subst (λ (s : Scans). CameTo done s p p t t [] (Ok tt)) (sym is) (no_item done p t, refl)
    came_to done _ _ _ _ _ _ _ _ stands (refused time p t scans refusal is) =
        subst (λ (s : Scans). CameTo done s p p t t [] (Err (Refused refusal))) (sym is) (no_item done p t, refl)
    came_to done _ _ _ _ _ _ _ _ stands (unread time p t scans) = (saying (suc done) scans.items p.world, refl)
    came_to done _ _ _ _ _ _ _ _ stands (refused_item time p t scans item rest refusal p' begins is_due performs) = absurd (no_refusal item refusal p p' performs)
    came_to done _ _ _ _ _ _ _ _ stands (unwritten time p t scans item rest outcome p' t' taken begins is_due performs) =
        subst (λ (s : Scans). Begun done s.items p (take taken (said outcome))) (sym begins)
        (part_begun done item outcome p p' (goes_on done item outcome p p' stands performs) rest.items taken)
    came_to done _ _ _ _ _ _ _ _ stands (next time p t scans item rest outcome p' t' bytes ended p'' t'' begins is_due performs took did) =
        let goes = goes_on done item outcome p p' stands performs in
        subst (λ (s : Scans). CameTo done s p p'' t t'' (said outcome ++ bytes) ended) (sym begins)
        (came_to_behind done item outcome p p' goes t t' took rest p'' t'' bytes ended (came_to goes.made _ p' t' rest bytes ended p'' t'' goes.stands did))

-- ---- A whole run.

module _ {T : Type 0} (net : Network) (takes : T → Outcome Verdict → T → Type 0) (p after : StruckWorld) (t t' : T) (none_tripped : p.tripped ≡ false) (no_trip : p.trip ≡ None) where
  -- what was done of a trace, by how it ended, is what the run came to
  came_as : (scans : Scans) (bytes : List ℕ) (ended : Result (Unit {0}) Cut) →
      CameTo net p.faults (outcome_line net) takes 0 scans p after t t' bytes ended → RunsTo net scans p after bytes ended
  came_as scans bytes (Ok x) came = record {
    written = (came.0.written, came.1);
    world = λ done. came.0.ends;
    tripped = λ done. came.0.tripped ∙ ap (λ b. b || any_of net p.faults 1 scans.items p.world) none_tripped;
    trip = λ done. came.0.trip ∙ ap (λ t. option_or t (first_of net p.faults 1 scans.items p.world)) no_trip;
  }
  came_as scans bytes (Err (Refused refusal)) came = record {
    written = (came.0.written, came.1);
    world = λ done. came.0.ends;
    tripped = λ done. came.0.tripped ∙ ap (λ b. b || any_of net p.faults 1 scans.items p.world) none_tripped;
    trip = λ done. came.0.trip ∙ ap (λ t. option_or t (first_of net p.faults 1 scans.items p.world)) no_trip;
  }
  came_as scans bytes (Err Unread) begun = record { written = begun; world = λ done. absurd done; tripped = λ done. absurd done; trip = λ done. absurd done }
  came_as scans bytes (Err Unwritten) begun = record { written = begun; world = λ done. absurd done; tripped = λ done. absurd done; trip = λ done. absurd done }

-- a run that was begun came to this
pub runs_to : {T : Type 0} (net : Network) (takes : T → Outcome Verdict → T → Type 0) (time : ℕ) (p after : StruckWorld) (t t' : T) (scans : Scans) (bytes : List ℕ)
    (ended : Result (Unit {0}) Cut) → IsBeginning net p →
    Did (Performs net) (λ t p outcome. outcome_line net outcome) (λ t p outcome t'. takes t outcome t') time p t scans bytes ended after t' →
    RunsTo net scans p after bytes ended
runs_to net takes time p after t t' scans bytes ended begins did =
    came_as net takes p after t t' begins.none_tripped begins.no_trip scans bytes ended
    (came_to net p.faults (outcome_line net) takes 0 time p t scans bytes ended after t' (first_stands net p begins) did)
