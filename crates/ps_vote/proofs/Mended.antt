-- Every vote releases the report of the meaning: over mended lists, and so over lists that spoil one seat.
use Rattle.std.proofs.Common.{inl, inr, ◌≡◌, ℕ, ◌<◌, ◌^◌, true, false, cond, List, [], ◌∷◌, ◌++◌, length, sym, ap, ◌∙◌, subst}
use Rattle.ps_model.specs.Network.{Network, input_count, instance_count}
use Rattle.ps_model.specs.Scanning.{State}
use Rattle.ps_model.specs.Meaning.{Past, nothing, Meaning, Runs}
use Rattle.ps_model.specs.PastAfter.{past_after}
use Rattle.ps_machine.specs.Keeping.{Keeps}
use Rattle.ps_machine.specs.Outcomes.{GivesSized}
use Rattle.ps_vote.specs.declared.seat.Seat.{Seat}
use Rattle.ps_vote.specs.declared.seat.Vote.TheVariants.{All, Two, Split}
use Rattle.ps_vote.specs.Worlds.{Machines, World_state, Event, Begin, Turn, Spoil, TakeVote, Restart, Heal, is_same, machine, channel, source, rebuilt, mark, world_0}
use Rattle.ps_vote.specs.Votes.{vote}
use Rattle.ps_vote.specs.Steps.{world_step, after, is_in_region, May, Lawful}
use Rattle.ps_vote.specs.Lists.{SpoilsOnly, HasNoSpoil, OthersAreClean, IsMended, items_of}
use Rattle.ps_vote.specs.Laws.{VoteComes, ReleasesMeaning, SpoiledSeatIsOutvoted, MendedSeats}
use Rattle.ps_vote.proofs.Seated.{same_or_other, same_either_way, none_marked, mark_in}
use Rattle.ps_vote.proofs.Standing.{Sound, beginning_sound, may_be_out, voted, voted_all, healed_clean, goes_on, after_sound}

lawful_front : (m : Machines) (n : ℕ) (es : List Event) (e : Event) (x : World_state) → Lawful m n (es ++ e ∷ []) x → Lawful m n es x
lawful_front m n [] e x law = tt
lawful_front m n (d ∷ es) e x law = (law.0, lawful_front m n es e (world_step m d x) law.1)

lawful_last : (m : Machines) (n : ℕ) (es : List Event) (e : Event) (x : World_state) → Lawful m n (es ++ e ∷ []) x → May m n e (after m es x)
lawful_last m n [] e x law = law.0
lawful_last m n (d ∷ es) e x law = lawful_last m n es e (world_step m d x) law.1

-- ---- Which seats are dirty.

-- a seat that no Spoil in the list names stays clean
pub others_stay : (m : Machines) (seat : Seat) (e : Event) (x : World_state) → SpoilsOnly seat (e ∷ []) → OthersAreClean seat x → OthersAreClean seat (world_step m e x)
others_stay m seat (Begin now ins) x only clean o other = clean o other
others_stay m seat (Turn q) x only clean o other = clean o other
others_stay m seat (Spoil q region at bytes) x only clean o other =
    let dirty = cond (is_in_region region at bytes (channel q x)) true (mark q x.dirty) in
    mark_in o q dirty x.dirty ∙ ap (λ b. cond b dirty (mark o x.dirty)) (ap (is_same o) only.0 ∙ same_either_way o seat ∙ other) ∙ clean o other
others_stay m seat TakeVote x only clean o other = clean o other
others_stay m seat Restart x only clean o other = none_marked o
others_stay m seat (Heal q) x only clean o other =
    mark_in o q false x.dirty
    ∙ elim (same_or_other o q) [
      | inl own ↦ ap (λ b. cond b false (mark o x.dirty)) own.0
      | inr apart ↦ ap (λ b. cond b false (mark o x.dirty)) apart ∙ clean o other
    ]

-- a list whose Spoils name one seat is mended
pub only_mended : (m : Machines) (seat : Seat) (es : List Event) (x : World_state) → OthersAreClean seat x → SpoilsOnly seat es → IsMended m es x
only_mended m seat [] x clean only = tt
only_mended m seat (Begin now ins ∷ es) x clean only = (tt, only_mended m seat es (world_step m (Begin now ins) x) (others_stay m seat (Begin now ins) x tt clean) only)
only_mended m seat (Turn q ∷ es) x clean only = (tt, only_mended m seat es (world_step m (Turn q) x) (others_stay m seat (Turn q) x tt clean) only)
only_mended m seat (Spoil q region at bytes ∷ es) x clean only = (
  (λ inside. subst (λ z. OthersAreClean z x) (sym only.0) clean),
  only_mended m seat es (world_step m (Spoil q region at bytes) x) (others_stay m seat (Spoil q region at bytes) x (only.0, tt) clean) only.1,
)
only_mended m seat (TakeVote ∷ es) x clean only = (tt, only_mended m seat es (world_step m TakeVote x) (others_stay m seat TakeVote x tt clean) only)
only_mended m seat (Restart ∷ es) x clean only = (tt, only_mended m seat es (world_step m Restart x) (others_stay m seat Restart x tt clean) only)
only_mended m seat (Heal q ∷ es) x clean only = (tt, only_mended m seat es (world_step m (Heal q) x) (others_stay m seat (Heal q) x tt clean) only)

-- no seat is dirty
abbrev AreClean : World_state → Type 0
AreClean x = (s : Seat) → mark s x.dirty ≡ false

-- without a Spoil no seat becomes dirty
stay_clean : (m : Machines) (es : List Event) (x : World_state) → HasNoSpoil es → AreClean x → AreClean (after m es x)
stay_clean m [] x none clean = clean
stay_clean m (Begin now ins ∷ es) x none clean = stay_clean m es (world_step m (Begin now ins) x) none clean
stay_clean m (Turn q ∷ es) x none clean = stay_clean m es (world_step m (Turn q) x) none clean
stay_clean m (Spoil q region at bytes ∷ es) x none clean = absurd none
stay_clean m (TakeVote ∷ es) x none clean = stay_clean m es (world_step m TakeVote x) none clean
stay_clean m (Restart ∷ es) x none clean = stay_clean m es (world_step m Restart x) none none_marked
stay_clean m (Heal q ∷ es) x none clean = stay_clean m es (world_step m (Heal q) x) none (λ s.
    mark_in s q false x.dirty
    ∙ elim (same_or_other s q) [
      | inl own ↦ ap (λ b. cond b false (mark s x.dirty)) own.0
      | inr apart ↦ ap (λ b. cond b false (mark s x.dirty)) apart ∙ clean s
    ])

module _ (net : Network) (m : Machines) (Stands : Seat → State → ℕ → List ℕ → Type 0) (keeps : (s : Seat) → Keeps net (machine s m) (Stands s))
    (heals : (s : Seat) (w : State) (t : ℕ) (cells : List ℕ) → t < 2 ^ 32 → Stands (source s) w t cells → Stands s w t (rebuilt s m t cells))
    (sized : (s : Seat) → GivesSized (machine s m) (length net.outputs) (instance_count net)) where
  abbrev StandsFor : World_state → Past → Type 0
  StandsFor x past = Sound net m Stands keeps heals sized x past

  releases : (es : List Event) (ws : List State) → VoteComes net m es → IsMended m es (world_0 m) → Meaning net (items_of es) ws → ReleasesMeaning net m es ws
  releases es ws law mended means =
      let x = after m es (world_0 m) in
      let front = lawful_front m (input_count net) es TakeVote (world_0 m) law in
      let may = lawful_last m (input_count net) es TakeVote (world_0 m) law in
      let h = after_sound net m Stands keeps heals sized es (world_0 m) nothing ws (beginning_sound net m Stands keeps heals sized) front mended means in
      let out = may_be_out net m Stands keeps heals sized x (past_after nothing (items_of es) ws) h in
      let r = voted net m Stands keeps heals sized out.seat x (past_after nothing (items_of es) ws) h may out.others in
      record {
        not_split = λ split. elim r.voted [
          | inl all ↦ let both : All ≡ Split = sym all ∙ split in absurd (cc)
          | inr two ↦ let both : Two out.seat ≡ Split = sym two ∙ split in absurd (cc)
        ];
        given = r.is_given;
      }

  pub spoiled_seat_is_outvoted : SpoiledSeatIsOutvoted net m
  spoiled_seat_is_outvoted es ws seat law only means = releases es ws law (only_mended m seat es (world_0 m) (λ o other. none_marked o) only) means

  -- after a heal and events without a Spoil no seat is dirty
  clean_after : (es fs : List Event) (seat : Seat) (x : World_state) (past : Past) (ws : List State) → StandsFor x past → Lawful m (input_count net) (es ++ Heal seat ∷ fs) x →
      IsMended m (es ++ Heal seat ∷ fs) x → HasNoSpoil fs → Runs net past (items_of (es ++ Heal seat ∷ fs)) ws → AreClean (after m (es ++ Heal seat ∷ fs) x)
  clean_after [] fs seat x past ws h law mended none runs = stay_clean m fs (world_step m (Heal seat) x) none (healed_clean net m Stands keeps heals sized seat x past h law.0)
  clean_after (e ∷ es) fs seat x past ws h law mended none runs =
      let g = goes_on net m Stands keeps heals sized e (es ++ Heal seat ∷ fs) x past ws h law.0 mended.0 runs in
      clean_after es fs seat (world_step m e x) g.then_past g.then_ws g.sound law.1 mended.1 none g.runs

  all_again : (es fs : List Event) (ws : List State) (seat : Seat) → VoteComes net m (es ++ Heal seat ∷ fs) → IsMended m (es ++ Heal seat ∷ fs) (world_0 m) → HasNoSpoil fs →
      Meaning net (items_of (es ++ Heal seat ∷ fs)) ws → vote m (after m (es ++ Heal seat ∷ fs) (world_0 m)) ≡ All
  all_again es fs ws seat law mended none means =
      let whole = es ++ Heal seat ∷ fs in
      let front = lawful_front m (input_count net) whole TakeVote (world_0 m) law in
      let may = lawful_last m (input_count net) whole TakeVote (world_0 m) law in
      let start = beginning_sound net m Stands keeps heals sized in
      let h = after_sound net m Stands keeps heals sized whole (world_0 m) nothing ws start front mended means in
      voted_all net m Stands keeps heals sized (after m whole (world_0 m)) (past_after nothing (items_of whole) ws) h may (clean_after es fs seat (world_0 m) nothing ws start front mended none means)

  pub mended_seats : MendedSeats net m
  mended_seats = record { releases = releases; all_again = all_again }
