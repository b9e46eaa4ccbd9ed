-- What a run of three seats wrote of the items of a trace, by what its world answered.
use Rattle.std.proofs.Common.{◌≡◌, ◌∙◌, ◌++◌, ℕ, zero, suc, Bool, List, [], ◌∷◌, Option, Some, None, Result, Ok, Err, map, refl, sym, ap, subst, take, drop, append_assoc}
use Rattle.std.proofs.lemmas.List.{take-append-drop}
use Rattle.std.specs.Option.{option_or}
use Rattle.ps_base.specs.declared.failing.Refusal.{Refusal}
use Rattle.ps_model.specs.Network.{Network}
use Rattle.ps_model.specs.Meaning.{Item}
use Rattle.ps_model.specs.Meaning.Item.{scan, restart}
use Rattle.ps_trace.specs.Scans.{Scans, End}
use Rattle.ps_trace.specs.Scans.End.{whole, refused as is_refused}
use Rattle.ps_vote.specs.declared.faults.VoteFault.{VoteFault}
use Rattle.ps_vote.specs.declared.seat.Seat.{Seat}
use Rattle.ps_vote.specs.declared.seat.Vote.{Vote}
use Rattle.ps_vote.specs.Votes.{vote}
use Rattle.ps_vote.specs.Worlds.{Machines, World_state, Event}
use Rattle.ps_vote.specs.Steps.{world_step, after}
use Rattle.ps_vote.specs.Whole.{Whole, machines_in, after_events}
use Rattle.ps_vote.specs.Orders.{Path, Course, at_vote, path_of_scan, scanned, course_from}
use Rattle.ps_runs.specs.Again.{again_among, again_at, first_again, healed_by}
use Rattle.ps_runs.specs.Doing.{Did, all, refused, unread, refused_item, unwritten, next}
use Rattle.ps_runs.specs.Outcomes.{Outcome, performed, refuses, anew, vote_lines, IsTold}
use Rattle.ps_runs.specs.Seats.{due, next_path, voted_at, vote_taken, unless_at_fault, healed_behind, again_behind, VotesScan, VotesItem, coming, course_lines, fault_refusal, run_end, AreAtBeginning, VotesTo, first_outvoted_again}
use Rattle.ps_runs.specs.declared.items.Cut.{Cut}
use Rattle.ps_runs.specs.declared.items.Cut.TheVariants.{Refused, Unread, Unwritten}
use Rattle.ps_runs.specs.declared.seats.Again.{Again}
use Rattle.ps_runs.specs.declared.seats.StruckSeats.{StruckSeats}
use Rattle.ps_runs.proofs.Firsts.{or_none, or_both}
use Rattle.ps_runs.proofs.SeatFaults.{Stands, due_of_scan, first_stands, stands_behind}

-- events after others
events_behind : (m : Machines) (es later : List Event) (x : World_state) → after m (es ++ later) x ≡ after m later (after m es x)
events_behind m [] later x = refl
events_behind m (e ∷ es) later x = events_behind m es later (world_step m e x)

-- the refusal of an outcome
abbrev refusal_in : Refusal → Outcome Vote → Refusal
refusal_in r (performed now v report) = r
refusal_in r (refuses q) = q
refusal_in r anew = r

take_nothing : (n : ℕ) → take {A = ℕ} n [] ≡ []
take_nothing zero = refl
take_nothing (suc n) = refl

-- the seat of earlier scans, and else that of this one
first_is : (before : Option Again) (healed : Option Seat) (now : ℕ) (v : Vote) → first_again before healed now v ≡ option_or before (again_at healed now v)
first_is None healed now v = refl
first_is (Some again) healed now v = refl

-- every outcome that is taken is told
abbrev pub TakesTold : {T : Type 0} → T → Outcome Vote → T → Type 0
TakesTold t outcome t' = IsTold outcome

module _ (net : Network) (heals : Bool) (faults : List VoteFault) where
  -- what is written of items from a number on, by what the run comes to
  abbrev pub saying : (number : ℕ) → List Item → Whole → List ℕ
  saying number items w = course_lines net (machines_in w.setup) (coming heals faults number items w).done (coming heals faults number items w).votes

  -- the world after them
  abbrev pub ending : (number : ℕ) → List Item → Whole → Whole
  ending number items w = after_events (coming heals faults number items w).events w

  -- the first seat that is outvoted again in what a run comes to, from where it stands
  abbrev pub again_in : Course → StruckSeats → Option Again
  again_in run p = option_or p.again (again_among heals p.healed run.done (map (vote (machines_in p.world.setup)) run.votes))

  -- the same of items from a number on
  abbrev pub again_of : (number : ℕ) → List Item → StruckSeats → Option Again
  again_of number items p = again_in (coming heals faults number items p.world) p

  -- so many scans were made in this run
  abbrev pub StandsIn : ℕ → StruckSeats → Type 0
  StandsIn done p = Stands faults done p × (p.heals ≡ heals)

  -- A run goes on after an item: what is to come of the item and later ones is its outcome and what is to come of those.
  record Goes (done : ℕ) (item : Item) (outcome : Outcome Vote) (p after : StruckSeats) : Type 0 where
    made : ℕ
    stands : StandsIn made after
    said_first : (items : List Item) → saying (suc done) (item ∷ items) p.world ≡ vote_lines net outcome ++ saying (suc made) items after.world
    same_end : (items : List Item) → ending (suc done) (item ∷ items) p.world ≡ ending (suc made) items after.world
    same_refusal : (items : List Item) → (coming heals faults (suc done) (item ∷ items) p.world).refused ≡ (coming heals faults (suc made) items after.world).refused
    same_again : (items : List Item) → again_of (suc done) (item ∷ items) p ≡ again_of (suc made) items after

  -- A run stops at an item: nothing is to come of it and later ones but a refusal.
  record Stops (done : ℕ) (item : Item) (refusal : Refusal) (p after : StruckSeats) : Type 0 where
    said_none : (items : List Item) → saying (suc done) (item ∷ items) p.world ≡ []
    world_is : (items : List Item) → after.world ≡ ending (suc done) (item ∷ items) p.world
    ends_so : (items : List Item) (end : End) → run_end (coming heals faults (suc done) (item ∷ items) p.world).refused end ≡ is_refused refusal
    again_is : (items : List Item) → after.again ≡ again_of (suc done) (item ∷ items) p

  -- a scan that the faults of its number strike
  module _ (done now : ℕ) (ins : List Bool) (outcome : Outcome Vote) (p after' : StruckSeats) (stands : StandsIn done p) (makes : VotesScan net p now ins outcome after') where
    abbrev m : Machines
    m = machines_in p.world.setup

    -- the scan's events, where the run heals or not, and these faults strike
    abbrev path : Bool → List VoteFault → Path
    path h struck = path_of_scan h m struck now ins p.world.state

    -- what comes after the scan
    abbrev later : List Item → Course
    later items = course_from heals m faults (suc (suc done)) items (after m (path p.heals (due p)).events p.world.state)

    -- what the run comes to from the scan on, if its events end so
    abbrev from_scan : Option VoteFault → List Item → Course
    from_scan at items = scanned at (scan now ins) (path p.heals (due p)).events (voted_at p now ins) (later items)

    -- the same by any way of healing and any faults
    abbrev by_path : Bool → List VoteFault → List Item → Course
    by_path h struck items = scanned (path h struck).refused (scan now ins) (path h struck).events (at_vote h m struck now ins p.world.state)
        (course_from heals m faults (suc (suc done)) items (after m (path h struck).events p.world.state))

    course_is : (at : Option VoteFault) → (next_path p now ins).refused ≡ at → (items : List Item) → coming heals faults (suc done) (scan now ins ∷ items) p.world ≡ from_scan at items
    course_is at is items = (λ i. by_path (sym stands.1 i) (sym (due_of_scan faults done p stands.0) i) items) ∙ (λ i. from_scan (is i) items)

    -- the outcome, where its events end so
    outcome_is : (at : Option VoteFault) → (next_path p now ins).refused ≡ at → outcome ≡ unless_at_fault at (vote_taken net m now (voted_at p now ins))
    outcome_is at is = makes.comes ∙ ap (λ a. unless_at_fault a (vote_taken net m now (voted_at p now ins))) is

    -- its vote
    abbrev voted : Vote
    voted = vote m (voted_at p now ins)

    -- the votes of the scans after it
    abbrev votes_later : List Item → List Vote
    votes_later items = map (vote m) (later items).votes

    healed_is : (next_path p now ins).refused ≡ None → healed_by heals voted ≡ after'.healed
    healed_is is = ap (λ h. healed_by h voted) (sym stands.1) ∙ sym (makes.healed ∙ ap (healed_behind p) (outcome_is None is))

    again_is : (next_path p now ins).refused ≡ None → option_or p.again (again_at p.healed now voted) ≡ after'.again
    again_is is = sym (first_is p.again p.healed now voted) ∙ sym (makes.again ∙ ap (again_behind p) (outcome_is None is))

    goes_scan : (at : Option VoteFault) → (next_path p now ins).refused ≡ at → IsTold outcome → Goes done (scan now ins) outcome p after'
    goes_scan (Some f) is told = absurd (subst IsTold (outcome_is (Some f) is) told)
    goes_scan None is told = record {
      made = suc done;
      stands = (stands_behind faults done p after' stands.0 makes.leaves makes.counts, makes.same_way ∙ stands.1);
      said_first = λ items. ap (λ (c : Course). course_lines net m c.done c.votes) (course_is None is items)
          ∙ (λ i. vote_lines net (sym (outcome_is None is) i) ++ saying (suc (suc done)) items (sym makes.happens i));
      same_end = λ items. ap (λ (c : Course). after_events c.events p.world) (course_is None is items)
          ∙ (λ i. record { setup = p.world.setup; state = events_behind m (path p.heals (due p)).events (later items).events p.world.state i })
          ∙ (λ i. ending (suc (suc done)) items (sym makes.happens i));
      same_refusal = λ items. ap (λ (c : Course). c.refused) (course_is None is items) ∙ (λ i. (coming heals faults (suc (suc done)) items (sym makes.happens i)).refused);
      same_again = λ items. ap (λ (c : Course). again_in c p) (course_is None is items)
          ∙ sym (or_both p.again (again_at p.healed now voted) (again_among heals (healed_by heals voted) (later items).done (votes_later items)))
          ∙ (λ i. option_or (again_is is i) (again_among heals (healed_is is i) (later items).done (votes_later items)))
          ∙ (λ i. let w = sym makes.happens i in let run = coming heals faults (suc (suc done)) items w in
          option_or after'.again (again_among heals after'.healed run.done (map (vote (machines_in w.setup)) run.votes)));
    }

    stops_scan : (refusal : Refusal) (at : Option VoteFault) → (next_path p now ins).refused ≡ at → outcome ≡ refuses refusal → Stops done (scan now ins) refusal p after'
    stops_scan refusal None is refuses_it = absurd (subst IsTold (sym (outcome_is None is) ∙ refuses_it) tt)
    stops_scan refusal (Some f) is refuses_it =
        let same : refusal ≡ fault_refusal f = ap (refusal_in refusal) (sym refuses_it ∙ outcome_is (Some f) is) in
        record {
          said_none = λ items. ap (λ (c : Course). course_lines net m c.done c.votes) (course_is (Some f) is items);
          world_is = λ items. makes.happens ∙ sym (ap (λ (c : Course). after_events c.events p.world) (course_is (Some f) is items));
          ends_so = λ items end. ap (λ (c : Course). run_end c.refused end) (course_is (Some f) is items) ∙ ap is_refused (sym same);
          again_is = λ items. makes.again ∙ ap (again_behind p) refuses_it ∙ sym (or_none p.again) ∙ sym (ap (λ (c : Course). again_in c p) (course_is (Some f) is items));
        }

  goes_on : (done : ℕ) (item : Item) (outcome : Outcome Vote) (p after' : StruckSeats) → StandsIn done p → VotesItem net p item outcome after' → IsTold outcome → Goes done item outcome p after'
  goes_on done (scan now ins) outcome p after' stands makes told = goes_scan done now ins outcome p after' stands makes (next_path p now ins).refused refl told
  goes_on done restart outcome p after' stands begins told = record {
    made = done;
    stands = subst (λ (q : StruckSeats). StandsIn done q) (sym begins.1) (record { same = stands.0.same; counted = stands.0.counted }, stands.1);
    said_first = λ items. (λ i. vote_lines net (sym begins.0 i) ++ saying (suc done) items (sym begins.1 i).world);
    same_end = λ items. (λ i. ending (suc done) items (sym begins.1 i).world);
    same_refusal = λ items. (λ i. (coming heals faults (suc done) items (sym begins.1 i).world).refused);
    same_again = λ items. (λ i. again_of (suc done) items (sym begins.1 i));
  }

  stops_at : (done : ℕ) (item : Item) (refusal : Refusal) (p after' : StruckSeats) → StandsIn done p → VotesItem net p item (refuses refusal) after' → Stops done item refusal p after'
  stops_at done (scan now ins) refusal p after' stands makes = stops_scan done now ins (refuses refusal) p after' stands makes refusal (next_path p now ins).refused refl refl
  stops_at done restart refusal p after' stands begins = let anew_is = begins.0 in cc

  -- All was done that the run does: this was written, this is the world after it, and so it ends.
  pub record Came (done : ℕ) (scans : Scans) (p after' : StruckSeats) (bytes : List ℕ) (end : End) : Type 0 where
    pub written : bytes ≡ saying (suc done) scans.items p.world
    pub ends : after'.world ≡ ending (suc done) scans.items p.world
    pub ended : run_end (coming heals faults (suc done) scans.items p.world).refused scans.end ≡ end
    pub again : after'.again ≡ again_of (suc done) scans.items p

  -- these bytes begin what is said of the items
  abbrev pub Begun : (done : ℕ) → List Item → StruckSeats → (bytes : List ℕ) → Type 0
  Begun done items p bytes = (owed : List ℕ) × (bytes ++ owed ≡ saying (suc done) items p.world)

  -- what was done of the scans of a trace, by how it ended
  abbrev pub CameTo : (done : ℕ) → Scans → (p after' : StruckSeats) → (bytes : List ℕ) → Result (Unit {0}) Cut → Type 0
  CameTo done scans p after' bytes (Ok x) = Came done scans p after' bytes whole
  CameTo done scans p after' bytes (Err (Refused refusal)) = Came done scans p after' bytes (is_refused refusal)
  CameTo done scans p after' bytes (Err Unread) = Begun done scans.items p bytes
  CameTo done scans p after' bytes (Err Unwritten) = Begun done scans.items p bytes

  no_item : (done : ℕ) (p : StruckSeats) (end : End) → Came done (record { items = []; end = end }) p p [] end
  no_item done p end = record { written = refl; ends = refl; ended = refl; again = sym (or_none p.again) }

  stopped : (done : ℕ) (item : Item) (rest : Scans) (refusal : Refusal) (p after' : StruckSeats) → Stops done item refusal p after' →
      Came done (record { items = item ∷ rest.items; end = rest.end }) p after' [] (is_refused refusal)
  stopped done item rest refusal p after' stops = record { written = sym (stops.said_none rest.items); ends = stops.world_is rest.items; ended = stops.ends_so rest.items rest.end; again = stops.again_is rest.items }

  module _ (done : ℕ) (item : Item) (outcome : Outcome Vote) (p mid : StruckSeats) (goes : Goes done item outcome p mid) where
    begun_behind : (items : List Item) (bytes : List ℕ) → Begun goes.made items mid bytes → Begun done (item ∷ items) p (vote_lines net outcome ++ bytes)
    begun_behind items bytes begun =
        (begun.0, append_assoc (vote_lines net outcome) bytes begun.0 ∙ ap (λ l. vote_lines net outcome ++ l) begun.1 ∙ sym (goes.said_first items))

    -- a part of what is said of the item was written
    part_begun : (items : List Item) (taken : ℕ) → Begun done (item ∷ items) p (take taken (vote_lines net outcome))
    part_begun items taken =
        let lines = vote_lines net outcome in
        let more = saying (suc goes.made) items mid.world in (
          drop taken lines ++ more,
          sym (append_assoc (take taken lines) (drop taken lines) more) ∙ ap (λ front. front ++ more) (take-append-drop taken lines) ∙ sym (goes.said_first items),
        )

    came_behind : (rest : Scans) (after' : StruckSeats) (bytes : List ℕ) (end : End) → Came goes.made rest mid after' bytes end →
        Came done (record { items = item ∷ rest.items; end = rest.end }) p after' (vote_lines net outcome ++ bytes) end
    came_behind rest after' bytes end came = record {
      written = ap (λ l. vote_lines net outcome ++ l) came.written ∙ sym (goes.said_first rest.items);
      ends = came.ends ∙ sym (goes.same_end rest.items);
      ended = ap (λ (f : Option VoteFault). run_end f rest.end) (goes.same_refusal rest.items) ∙ came.ended;
      again = came.again ∙ sym (goes.same_again rest.items);
    }

    came_to_behind : (rest : Scans) (after' : StruckSeats) (bytes : List ℕ) (ended : Result (Unit {0}) Cut) → CameTo goes.made rest mid after' bytes ended →
        CameTo done (record { items = item ∷ rest.items; end = rest.end }) p after' (vote_lines net outcome ++ bytes) ended
    came_to_behind rest after' bytes (Ok x) came = came_behind rest after' bytes whole came
    came_to_behind rest after' bytes (Err (Refused refusal)) came = came_behind rest after' bytes (is_refused refusal) came
    came_to_behind rest after' bytes (Err Unread) begun = begun_behind rest.items bytes begun
    came_to_behind rest after' bytes (Err Unwritten) begun = begun_behind rest.items bytes begun

  -- the write of an item's lines stopped
  cut_at : (done : ℕ) (item : Item) (outcome : Outcome Vote) (p mid : StruckSeats) (items : List Item) (taken : ℕ) → StandsIn done p → VotesItem net p item outcome mid →
      Begun done (item ∷ items) p (take taken (vote_lines net outcome))
  cut_at done item (performed now v report) p mid items taken stands does =
      part_begun done item (performed now v report) p mid (goes_on done item (performed now v report) p mid stands does tt) items taken
  cut_at done item (refuses refusal) p mid items taken stands does =
      (saying (suc done) (item ∷ items) p.world, ap (λ (l : List ℕ). l ++ saying (suc done) (item ∷ items) p.world) (take_nothing taken))
  cut_at done item anew p mid items taken stands does = part_begun done item anew p mid (goes_on done item anew p mid stands does tt) items taken

  pub came_to : {T : Type 0} (done time : ℕ) (p : StruckSeats) (t : T) (scans : Scans) (bytes : List ℕ) (ended : Result (Unit {0}) Cut) (after' : StruckSeats) (t' : T) →
      StandsIn done p → Did (VotesItem net) (λ t p outcome. vote_lines net outcome) (λ t p outcome t'. TakesTold t outcome t') time p t scans bytes ended after' t' → CameTo done scans p after' bytes ended
  came_to done _ _ _ _ _ _ _ _ stands (all time p t scans is) = subst (λ (s : Scans). CameTo done s p p [] (Ok tt)) (sym is) (no_item done p whole)
  came_to done _ _ _ _ _ _ _ _ stands (refused time p t scans refusal is) =
      subst (λ (s : Scans). CameTo done s p p [] (Err (Refused refusal))) (sym is) (no_item done p (is_refused refusal))
  came_to done _ _ _ _ _ _ _ _ stands (unread time p t scans) = (saying (suc done) scans.items p.world, refl)
  came_to done _ _ _ _ _ _ _ _ stands (refused_item time p t scans item rest refusal p' begins is_due performs) =
      subst (λ (s : Scans). CameTo done s p p' [] (Err (Refused refusal))) (sym begins) (stopped done item rest refusal p p' (stops_at done item refusal p p' stands performs))
  came_to done _ _ _ _ _ _ _ _ stands (unwritten time p t scans item rest outcome p' t' taken begins is_due performs) =
      subst (λ (s : Scans). Begun done s.items p (take taken (vote_lines net outcome))) (sym begins) (cut_at done item outcome p p' rest.items taken stands performs)
  came_to done _ _ _ _ _ _ _ _ stands (next time p t scans item rest outcome p' t' bytes ended p'' t'' begins is_due performs took did) =
      let goes = goes_on done item outcome p p' stands performs took in
      subst (λ (s : Scans). CameTo done s p p'' (vote_lines net outcome ++ bytes) ended) (sym begins)
      (came_to_behind done item outcome p p' goes rest p'' bytes ended (came_to goes.made _ p' t' rest bytes ended p'' t'' goes.stands did))

-- ---- A whole run.

-- from its beginning, where no seat was healed
again_first : (net : Network) (p : StruckSeats) → AreAtBeginning net p → (run : Course) → again_in net p.heals p.faults run p ≡ first_outvoted_again p.heals (machines_in p.world.setup) run
again_first net p begins run = λ i. option_or (begins.none_again i) (again_among p.heals (begins.none_healed i) run.done (map (vote (machines_in p.world.setup)) run.votes))

-- what was done of a trace, by how it ended, is what the run came to
came_as : (net : Network) (scans : Scans) (p after' : StruckSeats) (bytes : List ℕ) (ended : Result (Unit {0}) Cut) → AreAtBeginning net p →
    CameTo net p.heals p.faults 0 scans p after' bytes ended → VotesTo net scans p after' bytes ended
came_as net scans p after' bytes (Ok x) begins came = record {
  written = (came.written, came.ended);
  world = λ done. came.ends;
  again = λ done. came.again ∙ again_first net p begins (coming p.heals p.faults 1 scans.items p.world);
}
came_as net scans p after' bytes (Err (Refused refusal)) begins came = record {
  written = (came.written, came.ended);
  world = λ done. came.ends;
  again = λ done. came.again ∙ again_first net p begins (coming p.heals p.faults 1 scans.items p.world);
}
came_as net scans p after' bytes (Err Unread) begins begun = record { written = begun; world = λ done. absurd done; again = λ done. absurd done }
came_as net scans p after' bytes (Err Unwritten) begins begun = record { written = begun; world = λ done. absurd done; again = λ done. absurd done }

-- a run that was begun came to this
pub votes_to : {T : Type 0} (net : Network) (time : ℕ) (p after' : StruckSeats) (t t' : T) (scans : Scans) (bytes : List ℕ) (ended : Result (Unit {0}) Cut) →
    AreAtBeginning net p → Did (VotesItem net) (λ t p outcome. vote_lines net outcome) (λ t p outcome t'. TakesTold t outcome t') time p t scans bytes ended after' t' →
    VotesTo net scans p after' bytes ended
votes_to net time p after' t t' scans bytes ended begins did =
    came_as net scans p after' bytes ended begins
    (came_to net p.heals p.faults 0 time p t scans bytes ended after' t' (first_stands net p begins, refl) did)
