-- Runs of `vote` and `heal` answer what the scans mean.
use Rattle.std.proofs.Common.{inl, inr, ◌⊎◌, ◌≡◌, ◌≢◌, ℕ, suc, ◌<◌, ◌≤◌, ◌^◌, Bool, true, false, List, [], ◌∷◌, length, get_or, Option, Some, None, refl, sym, ap, ◌∙◌, subst, arith}
use Rattle.ps_model.specs.Network.{Network, input_count, instance_count}
use Rattle.ps_model.specs.Scanning.{State, Solves}
use Rattle.ps_model.specs.Meaning.{Item, scan, restart, Past, nothing, last, old_state, passed, Runs, report}
use Rattle.ps_model.specs.PastAfter.{past_after}
use Rattle.ps_machine.specs.Keeping.{Keeps}
use Rattle.ps_machine.specs.Items.{AreTimely}
use Rattle.ps_machine.specs.Outcomes.{GivesSized}
use Rattle.ps_trace.specs.FaultOrder.{StrikeOne}
use Rattle.ps_vote.specs.declared.faults.VoteFault.{VoteFault}
use Rattle.ps_vote.specs.declared.seat.Seat.{Seat}
use Rattle.ps_vote.specs.declared.seat.Seat.TheVariants.{A}
use Rattle.ps_vote.specs.declared.seat.Vote.{Vote}
use Rattle.ps_vote.specs.declared.seat.Vote.TheVariants.{All, Two, Split}
use Rattle.ps_vote.specs.Faults.{line_of_fault}
use Rattle.ps_vote.specs.Worlds.{Machines, World_state, Event, Begin, Turn, Spoil, TakeVote, Restart, Heal, machine, source, rebuilt, world_0}
use Rattle.ps_vote.specs.Votes.{vote, report_given, outvoted_by}
use Rattle.ps_vote.specs.Steps.{world_step, after, May}
use Rattle.ps_vote.specs.Lists.{SpoilsOnly, OthersAreClean, IsMended}
use Rattle.ps_vote.specs.Orders.{of_scan, path_to_vote, at_vote, behind_vote, closing, path_of_scan, Course, restarted, scanned, course_from}
use Rattle.ps_vote.specs.Answers.{IsRight, VoteRunsAreRight, HealRunsAreRight}
use Rattle.ps_vote.proofs.Seated.{none_marked}
use Rattle.ps_vote.proofs.Standing.{Sound, beginning_sound, vote_sound, restart_sound, heal_sound, may_be_out, voted, after_sound}
use Rattle.ps_vote.proofs.Mended.{others_stay, only_mended}
use Rattle.ps_vote.proofs.Paths.{goes_behind, refused_behind, refused_there}
use Rattle.ps_vote.proofs.Reaching.{StrikeSeat, of_scan_strike, ScanComes, scan_comes, rest_behind, last_behind}

-- ---- Which seats are dirty.

pub others_after : (m : Machines) (seat : Seat) (es : List Event) (x : World_state) → SpoilsOnly seat es → OthersAreClean seat x → OthersAreClean seat (after m es x)
others_after m seat [] x only clean = clean
others_after m seat (Begin now ins ∷ es) x only clean = others_after m seat es (world_step m (Begin now ins) x) only (others_stay m seat (Begin now ins) x tt clean)
others_after m seat (Turn q ∷ es) x only clean = others_after m seat es (world_step m (Turn q) x) only (others_stay m seat (Turn q) x tt clean)
others_after m seat (Spoil q region at bytes ∷ es) x only clean =
    others_after m seat es (world_step m (Spoil q region at bytes) x) only.1 (others_stay m seat (Spoil q region at bytes) x (only.0, tt) clean)
others_after m seat (TakeVote ∷ es) x only clean = others_after m seat es (world_step m TakeVote x) only (others_stay m seat TakeVote x tt clean)
others_after m seat (Restart ∷ es) x only clean = others_after m seat es (world_step m Restart x) only (others_stay m seat Restart x tt clean)
others_after m seat (Heal q ∷ es) x only clean = others_after m seat es (world_step m (Heal q) x) only (others_stay m seat (Heal q) x tt clean)

-- faults that strike one alone strike this seat
strike_as_first : (f : VoteFault) (fs : List VoteFault) → ((k : ℕ) → k < length fs → (get_or fs k f).seat ≡ f.seat) → StrikeSeat f.seat fs
strike_as_first f [] same = tt
strike_as_first f (g ∷ fs) same = (same 0 (omega arith), strike_as_first f fs (λ k low. same (suc k) (omega arith)))

pub one_struck : (faults : List VoteFault) → StrikeOne line_of_fault faults → (seat : Seat) × StrikeSeat seat faults
one_struck [] one = (A, tt)
one_struck (f ∷ fs) one = (f.seat, (refl, strike_as_first f fs (λ k low. sym (one 0 (suc k) f (omega arith) (omega arith)))))

-- ---- A run that does not heal ends at no fault.

pub path_goes : (m : Machines) (faults : List VoteFault) (now : ℕ) (ins : List Bool) (x : World_state) → (path_to_vote false m faults now ins x).refused ≡ None →
    (path_of_scan false m faults now ins x).refused ≡ None
path_goes m faults now ins x none =
    refused_behind m x (path_to_vote false m faults now ins x) (λ y. record { events = closing false m y; refused = None }) none

module _ (net : Network) (m : Machines) (Stands : Seat → State → ℕ → List ℕ → Type 0) (keeps : (s : Seat) → Keeps net (machine s m) (Stands s))
    (heals : (s : Seat) (w : State) (t : ℕ) (cells : List ℕ) → t < 2 ^ 32 → Stands (source s) w t cells → Stands s w t (rebuilt s m t cells))
    (sized : (s : Seat) → GivesSized (machine s m) (length net.outputs) (instance_count net)) where
  abbrev StandsFor : World_state → Past → Type 0
  StandsFor x past = Sound net m Stands keeps heals sized x past

  -- a vote answers the report of the meaning, and is not Split
  pub record VotesRight (x : World_state) (w : State) : Type 0 where
    pub not_split : vote m x ≢ Split
    pub given : report_given m (length net.outputs) (instance_count net) x ≡ report net w

  votes_right : (x : World_state) (past : Past) → StandsFor x past → May m (input_count net) TakeVote x → VotesRight x (old_state net past)
  votes_right x past h may =
      let out = may_be_out net m Stands keeps heals sized x past h in
      let r = voted net m Stands keeps heals sized out.seat x past h may out.others in
      record {
        not_split = λ split. elim r.voted [
          | inl all ↦ let both : All ≡ Split = sym all ∙ split in absurd (cc)
          | inr two ↦ let both : Two out.seat ≡ Split = sym two ∙ split in absurd (cc)
        ];
        given = r.is_given;
      }

  -- after it the seats stand for the meaning still
  closing_sound : (healing : Bool) (x : World_state) (past : Past) → StandsFor x past → May m (input_count net) TakeVote x → StandsFor (after m (closing healing m x) x) past
  closing_sound healing x past h may = by healing (vote m x) refl
    where
      y : World_state
      y = world_step m TakeVote x

      sound_y : StandsFor y past
      sound_y = vote_sound net m Stands keeps heals sized x past h may

      by : (heal : Bool) (v : Vote) → vote m x ≡ v → StandsFor (after m (behind_vote heal v) y) past
      by heal All is = sound_y
      by heal Split is = sound_y
      by false (Two seat) is = sound_y
      by true (Two seat) is = heal_sound net m Stands keeps heals sized seat y past sound_y (ap outvoted_by is)

  -- ---- One scan.

  -- The world after a scan that was closed: its vote was right, the seats stand for the meaning, and the next item may come.
  pub record Closes (heal : Bool) (due : List VoteFault) (now : ℕ) (ins : List Bool) (x : World_state) (w : State) : Type 0 where
    pub right : VotesRight (at_vote heal m due now ins x) w
    pub stands : StandsFor (after m (path_of_scan heal m due now ins x).events x) (last now w)
    pub rest : (after m (path_of_scan heal m due now ins x).events x).begun ≡ false
    pub last_is : (after m (path_of_scan heal m due now ins x).events x).last ≡ now

  closes : (heal : Bool) (due : List VoteFault) (now : ℕ) (ins : List Bool) (x : World_state) (past : Past) (w : State) → StandsFor x past → May m (input_count net) (Begin now ins) x →
      ScanComes heal m (input_count net) due now ins (path_to_vote heal m due now ins x) x → IsMended m (path_to_vote heal m due now ins x).events x →
      (path_to_vote heal m due now ins x).refused ≡ None → Solves net (old_state net past) ins (passed past now) w → Closes heal due now ins x w
  closes heal due now ins x past w h may comes mended none solves =
      let p = path_to_vote heal m due now ins x in
      let z = after m p.events x in
      let c = comes.closes none in
      let sound : StandsFor z (last now w) =
      subst (λ items. StandsFor z (past_after past items (w ∷ []))) c.scan_alone
      (after_sound net m Stands keeps heals sized p.events x past (w ∷ []) h (comes.lawful may) mended (subst (λ items. Runs net past items (w ∷ [])) (sym c.scan_alone) (solves, refl))) in
      let there : after m (path_of_scan heal m due now ins x).events x ≡ after m (closing heal m z) z =
      goes_behind m x p (λ y. record { events = closing heal m y; refused = None }) none in
      record {
        right = votes_right z (last now w) sound (c.begun, c.over);
        stands = subst (λ (y : World_state). StandsFor y (last now w)) (sym there) (closing_sound heal z (last now w) sound (c.begun, c.over));
        rest = ap (λ (y : World_state). y.begun) there ∙ rest_behind m heal z;
        last_is = ap (λ (y : World_state). y.last) there ∙ last_behind m heal z ∙ c.last_is;
      }

  -- ---- A run.

  -- the run heals, or the faults strike this seat and no other is dirty
  abbrev MayStrike : (heal : Bool) → List VoteFault → World_state → Type 0
  MayStrike heal faults x = (heal ≡ true) ⊎ ((heal ≡ false) × ((seat : Seat) × StrikeSeat seat faults × OthersAreClean seat x))

  restarts_clean : (heal : Bool) (faults : List VoteFault) (x : World_state) → MayStrike heal faults x → MayStrike heal faults (world_step m Restart x)
  restarts_clean heal faults x (inl h) = inl h
  restarts_clean heal faults x (inr h) = inr (h.0, (h.1.0, h.1.1, λ o other. none_marked o))

  -- the events of a scan that does not heal strike the seat that its faults strike
  closing_only : (seat : Seat) (x : World_state) → SpoilsOnly seat (closing false m x)
  closing_only seat x = by (vote m x)
    where
      by : (v : Vote) → SpoilsOnly seat (behind_vote false v)
      by All = tt
      by (Two o) = tt
      by Split = tt

  strikes_on : (heal : Bool) (faults : List VoteFault) (number now : ℕ) (ins : List Bool) (x : World_state) → MayStrike heal faults x →
      ScanComes heal m (input_count net) (of_scan number faults) now ins (path_to_vote heal m (of_scan number faults) now ins x) x →
      (path_to_vote heal m (of_scan number faults) now ins x).refused ≡ None → MayStrike heal faults (after m (path_of_scan heal m (of_scan number faults) now ins x).events x)
  strikes_on heal faults number now ins x (inl h) comes none = inl h
  strikes_on heal faults number now ins x (inr h) comes none =
      let due = of_scan number faults in
      let seat = h.1.0 in
      let p = path_to_vote heal m due now ins x in
      let z = after m p.events x in
      let clean : OthersAreClean seat z = others_after m seat p.events x (comes.only seat (of_scan_strike seat number faults h.1.1)) h.1.2 in
      let there : after m (path_of_scan heal m due now ins x).events x ≡ after m (closing heal m z) z =
      goes_behind m x p (λ y. record { events = closing heal m y; refused = None }) none in
      let on : OthersAreClean seat (after m (closing heal m z) z) =
      subst (λ b. OthersAreClean seat (after m (closing b m z) z)) (sym h.0) (others_after m seat (closing false m z) z (closing_only seat z) clean) in
      inr (h.0, (seat, h.1.1, subst (OthersAreClean seat) (sym there) on))

  is_mended : (heal : Bool) (faults : List VoteFault) (number now : ℕ) (ins : List Bool) (x : World_state) → MayStrike heal faults x →
      ScanComes heal m (input_count net) (of_scan number faults) now ins (path_to_vote heal m (of_scan number faults) now ins x) x →
      IsMended m (path_to_vote heal m (of_scan number faults) now ins x).events x
  is_mended heal faults number now ins x (inl h) comes = comes.mended h
  is_mended heal faults number now ins x (inr h) comes =
      only_mended m h.1.0 (path_to_vote heal m (of_scan number faults) now ins x).events x h.1.2 (comes.only h.1.0 (of_scan_strike h.1.0 number faults h.1.1))

  -- ---- Its parts, one by one.

  restarted_right : (run : Course) (items : List Item) (ws : List State) → IsRight net m run items ws → IsRight net m (restarted run) (restart ∷ items) ws
  restarted_right run items ws h = record {
    answers_right = h.answers_right;
    whole = λ none. let e = h.whole none in (ap (λ l. restart ∷ l) e.0, e.1);
  }

  scanned_right : (r : Option VoteFault) (now : ℕ) (ins : List Bool) (es : List Event) (at : World_state) (run : Course) (items : List Item) (w : State) (ws : List State) →
      (r ≡ None → VotesRight at w × IsRight net m run items ws) → IsRight net m (scanned r (scan now ins) es at run) (scan now ins ∷ items) (w ∷ ws)
  scanned_right None now ins es at run items w ws h =
      let e = h refl in
      record {
        answers_right = (e.0.not_split, e.0.given, e.1.answers_right);
        whole = λ none. let q = e.1.whole none in (ap (λ l. scan now ins ∷ l) q.0, ap suc q.1);
      }
  scanned_right (Some f) now ins es at run items w ws h = record { answers_right = tt; whole = λ none. absurd (cc) }

  refused_of : (heal : Bool) (due : List VoteFault) (now : ℕ) (ins : List Bool) (x : World_state) → (path_of_scan heal m due now ins x).refused ≡ None →
      (path_to_vote heal m due now ins x).refused ≡ None
  refused_of heal due now ins x none = by (path_to_vote heal m due now ins x).refused refl
    where
      by : (r : Option VoteFault) → (path_to_vote heal m due now ins x).refused ≡ r → (path_to_vote heal m due now ins x).refused ≡ None
      by None is = is
      by (Some f) is =
          let there = refused_there m x (path_to_vote heal m due now ins x) (λ y. record { events = closing heal m y; refused = None }) f is in
          let both : Some f ≡ None = sym there ∙ none in
          absurd (cc)

  right_from : (heal : Bool) (faults : List VoteFault) (number latest : ℕ) (items : List Item) (x : World_state) (past : Past) (ws : List State) → x.begun ≡ false → x.last ≤ latest →
      AreTimely (input_count net) latest items → StandsFor x past → MayStrike heal faults x → Runs net past items ws → IsRight net m (course_from heal m faults number items x) items ws
  right_from heal faults number latest [] x past ws rest early timely stands strike runs = record { answers_right = tt; whole = λ none. (refl, ap length (sym runs)) }
  right_from heal faults number latest (restart ∷ items) x past ws rest early timely stands strike runs =
      restarted_right (course_from heal m faults number items (world_step m Restart x)) items ws
      (right_from heal faults number latest items (world_step m Restart x) nothing ws refl early timely (restart_sound net m Stands keeps heals sized x stands.small)
      (restarts_clean heal faults x strike) runs)
  right_from heal faults number latest (scan now ins ∷ items) x past [] rest early timely stands strike runs = absurd runs
  right_from heal faults number latest (scan now ins ∷ items) x past (w ∷ ws) rest early timely stands strike runs =
      let due = of_scan number faults in
      let p = path_of_scan heal m due now ins x in
      let later = course_from heal m faults (suc number) items (after m p.events x) in
      let early' : x.last ≤ now = omega (arith, timely.0) in
      let comes = scan_comes heal m (input_count net) due now ins x early' in
      scanned_right p.refused now ins p.events (at_vote heal m due now ins x) later items w ws (λ none.
      let open_none = refused_of heal due now ins x none in
      let c = closes heal due now ins x past w stands (rest, early', timely.1, timely.2) comes (is_mended heal faults number now ins x strike comes) open_none runs.0 in (
        c.right,
        right_from heal faults (suc number) now items (after m p.events x) (last now w) ws c.rest (subst (λ t. t ≤ now) (sym c.last_is) (omega arith)) timely.3 c.stands
            (strikes_on heal faults number now ins x strike comes open_none) runs.1,
      ))

  -- a run that does not heal ends at no fault
  goes_from : (faults : List VoteFault) (number latest : ℕ) (items : List Item) (x : World_state) → x.begun ≡ false → x.last ≤ latest → AreTimely (input_count net) latest items →
      (course_from false m faults number items x).refused ≡ None
  goes_from faults number latest [] x rest early timely = refl
  goes_from faults number latest (restart ∷ items) x rest early timely = goes_from faults number latest items (world_step m Restart x) refl early timely
  goes_from faults number latest (scan now ins ∷ items) x rest early timely =
      let due = of_scan number faults in
      let q = path_to_vote false m due now ins x in
      let p = path_of_scan false m due now ins x in
      let z = after m q.events x in
      let later = course_from false m faults (suc number) items (after m p.events x) in
      let comes = scan_comes false m (input_count net) due now ins x (omega (arith, timely.0)) in
      let none = comes.goes refl in
      let c = comes.closes none in
      let there : after m p.events x ≡ after m (closing false m z) z = goes_behind m x q (λ y. record { events = closing false m y; refused = None }) none in
      let rest_there : (after m p.events x).begun ≡ false = ap (λ (y : World_state). y.begun) there ∙ rest_behind m false z in
      let last_there : (after m p.events x).last ≡ now = ap (λ (y : World_state). y.last) there ∙ last_behind m false z ∙ c.last_is in
      ap (λ (r : Option VoteFault). (scanned r (scan now ins) p.events (at_vote false m due now ins x) later).refused) (path_goes m due now ins x none)
      ∙ goes_from faults (suc number) now items (after m p.events x) rest_there (subst (λ t. t ≤ now) (sym last_there) (omega arith)) timely.3

  pub heal_runs_are_right : HealRunsAreRight net m
  heal_runs_are_right items faults ws timely means =
      right_from true faults 1 0 items (world_0 m) nothing ws refl (omega arith) timely (beginning_sound net m Stands keeps heals sized) (inl refl) means

  pub vote_runs_are_right : VoteRunsAreRight net m
  vote_runs_are_right items faults ws timely one means =
      let struck = one_struck faults one in (
        right_from false faults 1 0 items (world_0 m) nothing ws refl (omega arith) timely (beginning_sound net m Stands keeps heals sized)
            (inr (refl, (struck.0, struck.1, λ o other. none_marked o))) means,
        goes_from faults 1 0 items (world_0 m) refl (omega arith) timely,
      )
