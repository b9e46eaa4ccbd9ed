-- What the paths of a scan come to: their events are lawful, strike what the faults strike, and lead to the vote unless they end at a fault.
use Rattle.std.proofs.Common.{inl, inr, ◌≡◌, ℕ, zero, suc, ◌+◌, ◌≤◌, Bool, true, false, cond, List, [], ◌∷◌, ◌++◌, Option, Some, None, refl, sym, ap, ◌∙◌, subst, arith}
use Rattle.std.specs.Prelude.{◌&&◌, ◌||◌, ◌==◌}
use Rattle.std.specs.List.{filter}
use Rattle.std.proofs.lemmas.Bool.{cases_Bool, false≢true}
use Rattle.ps_model.specs.declared.channel.Region.{Region}
use Rattle.ps_model.specs.Meaning.{Item, scan}
use Rattle.ps_machine.specs.Channels.{after_turn, after_strike, ended}
use Rattle.ps_machine.proofs.Left.{spent, same_turns, turns_are_left}
use Rattle.ps_vote.specs.declared.faults.VoteFault.{VoteFault}
use Rattle.ps_vote.specs.declared.seat.Seat.{Seat}
use Rattle.ps_vote.specs.declared.seat.Seat.TheVariants.{A, B, C}
use Rattle.ps_vote.specs.declared.seat.Vote.{Vote}
use Rattle.ps_vote.specs.declared.seat.Vote.TheVariants.{All, Two, Split}
use Rattle.ps_vote.specs.Worlds.{Machines, World_state, Event, Begin, Turn, Spoil, TakeVote, Restart, Heal, machine, channel, is_another_dirty}
use Rattle.ps_vote.specs.Votes.{vote}
use Rattle.ps_vote.specs.Steps.{world_step, after, all_ended, May, Lawful}
use Rattle.ps_vote.specs.Lists.{SpoilsOnly, OthersAreClean, IsMended, items_of}
use Rattle.ps_vote.specs.Orders.{of_scan, of_turn, spoil_of, Path, no_more, first, unless_refused, spoils, unless_ended, in_turn, next_from, next_turn, turns, most_turns, path_to_vote, behind_vote, closing}
use Rattle.ps_vote.proofs.Paths.{after_append}
use Rattle.ps_vote.proofs.Seated.{same_or_other, turn_at, spoil_at}

-- ---- Lists of events.

lawful_append : (m : Machines) (n : ℕ) (es fs : List Event) (x : World_state) → Lawful m n es x → Lawful m n fs (after m es x) → Lawful m n (es ++ fs) x
lawful_append m n [] fs x h k = k
lawful_append m n (e ∷ es) fs x h k = (h.0, lawful_append m n es fs (world_step m e x) h.1 k)

mended_append : (m : Machines) (es fs : List Event) (x : World_state) → IsMended m es x → IsMended m fs (after m es x) → IsMended m (es ++ fs) x
mended_append m [] fs x h k = k
mended_append m (e ∷ es) fs x h k = (h.0, mended_append m es fs (world_step m e x) h.1 k)

only_append : (seat : Seat) (es fs : List Event) → SpoilsOnly seat es → SpoilsOnly seat fs → SpoilsOnly seat (es ++ fs)
only_append seat [] fs h k = k
only_append seat (Spoil o region at bytes ∷ es) fs h k = (h.0, only_append seat es fs h.1 k)
only_append seat (Begin now ins ∷ es) fs h k = only_append seat es fs h k
only_append seat (Turn o ∷ es) fs h k = only_append seat es fs h k
only_append seat (TakeVote ∷ es) fs h k = only_append seat es fs h k
only_append seat (Restart ∷ es) fs h k = only_append seat es fs h k
only_append seat (Heal o ∷ es) fs h k = only_append seat es fs h k

pub items_append : (es fs : List Event) → items_of (es ++ fs) ≡ items_of es ++ items_of fs
items_append [] fs = refl
items_append (Begin now ins ∷ es) fs = ap (λ l. scan now ins ∷ l) (items_append es fs)
items_append (Restart ∷ es) fs = ap (λ l. Item.restart ∷ l) (items_append es fs)
items_append (Turn o ∷ es) fs = items_append es fs
items_append (Spoil o region at bytes ∷ es) fs = items_append es fs
items_append (TakeVote ∷ es) fs = items_append es fs
items_append (Heal o ∷ es) fs = items_append es fs

-- ---- Faults.

-- the faults strike this seat
abbrev pub StrikeSeat : Seat → List VoteFault → Type 0
StrikeSeat seat [] = Unit {0}
StrikeSeat seat (f ∷ faults) = (f.seat ≡ seat) × StrikeSeat seat faults

passed_strike : (seat : Seat) (p : VoteFault → Bool) (fs : List VoteFault) → StrikeSeat seat fs → StrikeSeat seat (filter p fs)
passed_strike seat p [] h = tt
passed_strike seat p (f ∷ fs) h =
    let rest = passed_strike seat p fs h.1 in
    elim (cases_Bool (p f)) [
      | inl passes ↦ subst (λ b. StrikeSeat seat (cond b (f ∷ filter p fs) (filter p fs))) (sym passes) (h.0, rest)
      | inr fails ↦ subst (λ b. StrikeSeat seat (cond b (f ∷ filter p fs) (filter p fs))) (sym fails) rest
    ]

pub of_scan_strike : (seat : Seat) (number : ℕ) (faults : List VoteFault) → StrikeSeat seat faults → StrikeSeat seat (of_scan number faults)
of_scan_strike seat number faults h = passed_strike seat (λ f. f.scan == number) faults h

either_false : (a b : Bool) → (a || b) ≡ false → (a ≡ false) × (b ≡ false)
either_false false false h = (refl, refl)
either_false false true h = absurd (cc)
either_false true b h = absurd (cc)

-- where no other seat is dirty the others are clean
others_clean : (seat : Seat) (x : World_state) → is_another_dirty seat x.dirty ≡ false → OthersAreClean seat x
others_clean A x none A other = absurd (cc)
others_clean A x none B other = (either_false x.dirty.b x.dirty.c none).0
others_clean A x none C other = (either_false x.dirty.b x.dirty.c none).1
others_clean B x none A other = (either_false x.dirty.a x.dirty.c none).0
others_clean B x none B other = absurd (cc)
others_clean B x none C other = (either_false x.dirty.a x.dirty.c none).1
others_clean C x none A other = (either_false x.dirty.a x.dirty.b none).0
others_clean C x none B other = (either_false x.dirty.a x.dirty.b none).1
others_clean C x none C other = absurd (cc)

-- ---- What Spoils leave as it was.

pub record IsAlike (x y : World_state) : Type 0 where
  pub same_turns : (s : Seat) → (channel s y).turns ≡ (channel s x).turns
  pub same_last : y.last ≡ x.last
  pub same_begun : y.begun ≡ x.begun

spoil_alike : (m : Machines) (o : Seat) (region : Region) (at : ℕ) (bytes : List ℕ) (x : World_state) → IsAlike x (world_step m (Spoil o region at bytes) x)
spoil_alike m o region at bytes x = record { same_turns = by; same_last = refl; same_begun = refl }
  where
    by : (s : Seat) → (channel s (world_step m (Spoil o region at bytes) x)).turns ≡ (channel s x).turns
    by s =
        ap (λ c. c.turns) (spoil_at m x s o region at bytes)
        ∙ elim (same_or_other s o) [
          | inl own ↦
              ap (λ b. (cond b (after_strike region at bytes (channel o x)) (channel s x)).turns) own.0
              ∙ same_turns region at bytes (channel o x) ∙ ap (λ q. (channel q x).turns) own.1
          | inr other ↦ ap (λ b. (cond b (after_strike region at bytes (channel o x)) (channel s x)).turns) other
        ]

still_alike : (x y z : World_state) → IsAlike x y → IsAlike y z → IsAlike x z
still_alike x y z h k = record {
  same_turns = λ s. k.same_turns s ∙ h.same_turns s;
  same_last = k.same_last ∙ h.same_last;
  same_begun = k.same_begun ∙ h.same_begun;
}

pub spoils_alike : (heals : Bool) (m : Machines) (fs : List VoteFault) (x : World_state) → IsAlike x (after m (spoils heals m fs x).events x)
spoils_alike heals m [] x = record { same_turns = λ s. refl; same_last = refl; same_begun = refl }
spoils_alike heals m (f ∷ fs) x =
    let y = world_step m (spoil_of f) x in
    let stop : Path = record { events = []; refused = Some f } in
    let go = first (spoil_of f) (spoils heals m fs y) in
    elim (cases_Bool (heals && is_another_dirty f.seat x.dirty)) [
      | inl refuses ↦
          subst (λ b. IsAlike x (after m (cond b stop go).events x)) (sym refuses) (record { same_turns = λ s. refl; same_last = refl; same_begun = refl })
      | inr done ↦
          subst (λ b. IsAlike x (after m (cond b stop go).events x)) (sym done)
          (still_alike x y (after m (spoils heals m fs y).events y) (spoil_alike m f.seat f.region f.at f.bytes x) (spoils_alike heals m fs y))
    ]

-- ---- What a path within a scan comes to.

-- Its events are lawful and no scan or restart; they strike the seat that the faults strike; where the run heals they are mended, and where it
-- does not they end at no fault.
pub record Reaches (heals : Bool) (m : Machines) (n : ℕ) (faults : List VoteFault) (p : Path) (x : World_state) : Type 0 where
  pub lawful : Lawful m n p.events x
  pub no_items : items_of p.events ≡ []
  pub only : (seat : Seat) → StrikeSeat seat faults → SpoilsOnly seat p.events
  pub mended : heals ≡ true → IsMended m p.events x
  pub goes : heals ≡ false → p.refused ≡ None
  pub last_stays : (after m p.events x).last ≡ x.last
  pub begun_stays : (after m p.events x).begun ≡ x.begun

-- and where it ends at no fault, all three seats have ended
pub record ComesToVote (heals : Bool) (m : Machines) (n : ℕ) (faults : List VoteFault) (p : Path) (x : World_state) : Type 0 where
  pub reaches : Reaches heals m n faults p x
  pub over : p.refused ≡ None → all_ended m (after m p.events x) ≡ true

module _ (heals : Bool) (m : Machines) (n : ℕ) (faults : List VoteFault) where
  nothing_reached : (x : World_state) (r : Option VoteFault) → (heals ≡ false → r ≡ None) → Reaches heals m n faults (record { events = []; refused = r }) x
  nothing_reached x r none = record { lawful = tt; no_items = refl; only = λ seat h. tt; mended = λ h. tt; goes = none; last_stays = refl; begun_stays = refl }

  behind : (r : Option VoteFault) (es : List Event) (q : Path) (x : World_state) → Reaches heals m n faults (record { events = es; refused = r }) x →
      Reaches heals m n faults q (after m es x) → Reaches heals m n faults (unless_refused r es q) x
  behind None es q x h k =
      let there = after_append m es q.events x in
      record {
        lawful = lawful_append m n es q.events x h.lawful k.lawful;
        no_items = items_append es q.events ∙ (λ i. h.no_items i ++ k.no_items i);
        only = λ seat strike. only_append seat es q.events (h.only seat strike) (k.only seat strike);
        mended = λ heal. mended_append m es q.events x (h.mended heal) (k.mended heal);
        goes = k.goes;
        last_stays = ap (λ (y : World_state). y.last) there ∙ k.last_stays ∙ h.last_stays;
        begun_stays = ap (λ (y : World_state). y.begun) there ∙ k.begun_stays ∙ h.begun_stays;
      }
  behind (Some f) es q x h k = h

  votes_behind : (r : Option VoteFault) (es : List Event) (q : Path) (x : World_state) → Reaches heals m n faults (record { events = es; refused = r }) x →
      ComesToVote heals m n faults q (after m es x) → ComesToVote heals m n faults (unless_refused r es q) x
  votes_behind None es q x h k = record {
    reaches = behind None es q x h k.reaches;
    over = λ none. subst (λ (y : World_state). all_ended m y ≡ true) (sym (after_append m es q.events x)) (k.over none);
  }
  votes_behind (Some f) es q x h k = record { reaches = h; over = λ none. absurd (cc) }

  spoil_reached : (f : VoteFault) (p : Path) (x : World_state) → ((seat : Seat) → StrikeSeat seat faults → f.seat ≡ seat) → (heals ≡ true → OthersAreClean f.seat x) →
      Reaches heals m n faults p (world_step m (spoil_of f) x) → Reaches heals m n faults (first (spoil_of f) p) x
  spoil_reached f p x one clean h = record {
    lawful = (tt, h.lawful);
    no_items = h.no_items;
    only = λ seat strike. (one seat strike, h.only seat strike);
    mended = λ heal. ((λ inside. clean heal), h.mended heal);
    goes = h.goes;
    last_stays = h.last_stays;
    begun_stays = h.begun_stays;
  }

  turn_reached : (o : Seat) (p : Path) (x : World_state) → x.begun ≡ true → ended (machine o m) (channel o x) ≡ false → Reaches heals m n faults p (world_step m (Turn o) x) →
      Reaches heals m n faults (first (Turn o) p) x
  turn_reached o p x begun goes h = record {
    lawful = ((begun, goes), h.lawful);
    no_items = h.no_items;
    only = h.only;
    mended = λ heal. (tt, h.mended heal);
    goes = h.goes;
    last_stays = h.last_stays;
    begun_stays = h.begun_stays;
  }

  -- of faults among these
  spoils_reach : (fs : List VoteFault) (x : World_state) → ((seat : Seat) → StrikeSeat seat faults → StrikeSeat seat fs) → Reaches heals m n faults (spoils heals m fs x) x
  spoils_reach [] x among = nothing_reached x None (λ h. refl)
  spoils_reach (f ∷ fs) x among =
      let y = world_step m (spoil_of f) x in
      let stop : Path = record { events = []; refused = Some f } in
      let go = first (spoil_of f) (spoils heals m fs y) in
      elim (cases_Bool (heals && is_another_dirty f.seat x.dirty)) [
        | inl refuses ↦
            subst (λ b. Reaches heals m n faults (cond b stop go) x) (sym refuses)
            (nothing_reached x (Some f) (λ none. absurd (false≢true (sym (ap (λ b. b && is_another_dirty f.seat x.dirty) none) ∙ refuses))))
        | inr done ↦
            subst (λ b. Reaches heals m n faults (cond b stop go) x) (sym done)
            (spoil_reached f (spoils heals m fs y) x (λ seat strike. (among seat strike).0)
            (λ heal. others_clean f.seat x (sym (ap (λ b. b && is_another_dirty f.seat x.dirty) heal) ∙ done))
            (spoils_reach fs y (λ seat strike. (among seat strike).1)))
      ]

  pub turn_spoils_reach : (turn : ℕ) (x : World_state) → Reaches heals m n faults (spoils heals m (of_turn turn faults) x) x
  turn_spoils_reach turn x = spoils_reach (of_turn turn faults) x (λ seat strike. passed_strike seat (λ f. f.turn == turn) faults strike)

-- ---- Whose turn is next.

module _ (m : Machines) (x : World_state) where
  pick : (s other : Seat) → (ended (machine s m) (channel s x) ≡ true → ended (machine other m) (channel other x) ≡ false) →
      ended (machine (unless_ended m x s other) m) (channel (unless_ended m x s other) x) ≡ false
  pick s other h = by_test (ended (machine s m) (channel s x)) refl
    where
      by_test : (b : Bool) → ended (machine s m) (channel s x) ≡ b → ended (machine (cond b other s) m) (channel (cond b other s) x) ≡ false
      by_test true is = h is
      by_test false is = is

  third_goes : (a b c : Bool) → (a && b && c) ≡ false → a ≡ true → b ≡ true → c ≡ false
  third_goes true true true h ea eb = absurd (cc)
  third_goes true true false h ea eb = refl
  third_goes true false c h ea eb = absurd (cc)
  third_goes false b c h ea eb = absurd (cc)

  first_goes : (a b c : Bool) → (a && b && c) ≡ false → b ≡ true → c ≡ true → a ≡ false
  first_goes false b c h eb ec = refl
  first_goes true true true h eb ec = absurd (cc)
  first_goes true true false h eb ec = absurd (cc)
  first_goes true false c h eb ec = absurd (cc)

  second_goes : (a b c : Bool) → (a && b && c) ≡ false → c ≡ true → a ≡ true → b ≡ false
  second_goes a false c h ec ea = refl
  second_goes true true true h ec ea = absurd (cc)
  second_goes true true false h ec ea = absurd (cc)
  second_goes false true c h ec ea = absurd (cc)

  from_goes : (s : Seat) → all_ended m x ≡ false → ended (machine (next_from m s x) m) (channel (next_from m s x) x) ≡ false
  from_goes A more = pick A (unless_ended m x B C) (λ a. pick B C (λ b. third_goes (ended m.a x.a) (ended m.b x.b) (ended m.c x.c) more a b))
  from_goes B more = pick B (unless_ended m x C A) (λ b. pick C A (λ c. first_goes (ended m.a x.a) (ended m.b x.b) (ended m.c x.c) more b c))
  from_goes C more = pick C (unless_ended m x A B) (λ c. pick A B (λ a. second_goes (ended m.a x.a) (ended m.b x.b) (ended m.c x.c) more c a))

-- where not all seats have ended, the one whose turn is next has not
pub next_goes : (m : Machines) (last : Option Seat) (x : World_state) → all_ended m x ≡ false → ended (machine (next_turn m last x) m) (channel (next_turn m last x) x) ≡ false
next_goes m last x more = from_goes m x (in_turn last) more

-- ---- The turns of a scan.

-- no seat has made more turns than its budget has
pub record AreWithin (m : Machines) (x : World_state) : Type 0 where
  pub few : (s : Seat) → (channel s x).turns ≤ (machine s m).budget

-- the turns that all seats have made
abbrev pub made : World_state → ℕ
made x = x.a.turns + x.b.turns + x.c.turns

pub all_spent : (m : Machines) (x : World_state) → AreWithin m x → most_turns m ≤ made x → all_ended m x ≡ true
all_spent m x within all =
    let few_a : x.a.turns ≤ m.a.budget = within.few A in
    let few_b : x.b.turns ≤ m.b.budget = within.few B in
    let few_c : x.c.turns ≤ m.c.budget = within.few C in
    (λ i. spent m.a x.a (omega arith) i && spent m.b x.b (omega arith) i && spent m.c x.c (omega arith) i)

alike_within : (m : Machines) (x y : World_state) → IsAlike x y → AreWithin m x → AreWithin m y
alike_within m x y alike within = record { few = λ s. subst (λ n. n ≤ (machine s m).budget) (sym (alike.same_turns s)) (within.few s) }

alike_made : (x y : World_state) → IsAlike x y → made y ≡ made x
alike_made x y alike = (λ i. alike.same_turns A i + alike.same_turns B i + alike.same_turns C i)

turn_within : (m : Machines) (o : Seat) (x : World_state) → AreWithin m x → ended (machine o m) (channel o x) ≡ false → AreWithin m (world_step m (Turn o) x)
turn_within m o x within goes = record {
  few = λ s.
      subst (λ c. c.turns ≤ (machine s m).budget) (sym (turn_at m x s o))
      (elim (same_or_other s o) [
        | inl own ↦
            let low = turns_are_left (machine o m) (channel o x) goes in
            let fits : (after_turn (machine o m) (channel o x)).turns ≤ (machine o m).budget = omega arith in
            subst (λ b. (cond b (after_turn (machine o m) (channel o x)) (channel s x)).turns ≤ (machine s m).budget) (sym own.0)
            (subst (λ q. (after_turn (machine o m) (channel o x)).turns ≤ (machine q m).budget) own.1 fits)
        | inr other ↦ subst (λ b. (cond b (after_turn (machine o m) (channel o x)) (channel s x)).turns ≤ (machine s m).budget) (sym other) (within.few s)
      ]);
}

turn_made : (m : Machines) (o : Seat) (x : World_state) → made (world_step m (Turn o) x) ≡ made x + 1
turn_made m A x = omega arith
turn_made m B x = omega arith
turn_made m C x = omega arith

module _ (heals : Bool) (m : Machines) (n : ℕ) (faults : List VoteFault) where
  -- the turns of a scan come to its vote, where as many are left as the budgets have
  pub turns_come : (left done : ℕ) (last : Option Seat) (x : World_state) → x.begun ≡ true → AreWithin m x → most_turns m ≤ left + made x →
      ComesToVote heals m n faults (turns heals m faults left done last x) x
  turns_come zero done last x begun within all =
      let p = spoils heals m (of_turn (done + 1) faults) x in
      let y = after m p.events x in
      let alike = spoils_alike heals m (of_turn (done + 1) faults) x in
      let same = alike_made x y alike in
      record { reaches = turn_spoils_reach heals m n faults (done + 1) x; over = λ none. all_spent m y (alike_within m x y alike within) (omega arith) }
  turns_come (suc left) done last x begun within all =
      let p = spoils heals m (of_turn (done + 1) faults) x in
      let y = after m p.events x in
      let alike = spoils_alike heals m (of_turn (done + 1) faults) x in
      let same = alike_made x y alike in
      let still = alike_within m x y alike within in
      let begun_there : y.begun ≡ true = alike.same_begun ∙ begun in
      let o = next_turn m last y in
      let later = turns heals m faults left (done + 1) (Some o) (world_step m (Turn o) y) in
      votes_behind heals m n faults p.refused p.events (cond (all_ended m y) no_more (first (Turn o) later)) x (turn_spoils_reach heals m n faults (done + 1) x)
      (elim (cases_Bool (all_ended m y)) [
        | inl over ↦
            subst (λ b. ComesToVote heals m n faults (cond b no_more (first (Turn o) later)) y) (sym over)
            (record { reaches = nothing_reached heals m n faults y None (λ h. refl); over = λ none. over })
        | inr more ↦
            let goes = next_goes m last y more in
            let one = turn_made m o y in
            let k = turns_come left (done + 1) (Some o) (world_step m (Turn o) y) begun_there (turn_within m o y still goes) (omega arith) in
            subst (λ b. ComesToVote heals m n faults (cond b no_more (first (Turn o) later)) y) (sym more)
            (record { reaches = turn_reached heals m n faults o later y begun_there goes k.reaches; over = k.over })
      ])

  -- ---- A scan up to its vote.

  -- where it ends at no fault it is this scan alone, and a vote may come
  pub record IsToClose (now : ℕ) (ins : List Bool) (es : List Event) (x : World_state) : Type 0 where
    pub scan_alone : items_of es ≡ scan now ins ∷ []
    pub last_is : (after m es x).last ≡ now
    pub begun : (after m es x).begun ≡ true
    pub over : all_ended m (after m es x) ≡ true

  -- Its events are lawful where the scan may begin; they strike the seat that the faults strike; where the run heals they are mended, and where
  -- it does not they end at no fault.
  pub record ScanComes (now : ℕ) (ins : List Bool) (p : Path) (x : World_state) : Type 0 where
    pub lawful : May m n (Begin now ins) x → Lawful m n p.events x
    pub only : (seat : Seat) → StrikeSeat seat faults → SpoilsOnly seat p.events
    pub mended : heals ≡ true → IsMended m p.events x
    pub goes : heals ≡ false → p.refused ≡ None
    pub early : (after m p.events x).last ≤ now
    pub closes : p.refused ≡ None → IsToClose now ins p.events x

  begins : (r : Option VoteFault) (es : List Event) (q : Path) (now : ℕ) (ins : List Bool) (x : World_state) → x.last ≤ now →
      Reaches heals m n faults (record { events = es; refused = r }) x → ComesToVote heals m n faults q (world_step m (Begin now ins) (after m es x)) →
      ScanComes now ins (unless_refused r es (first (Begin now ins) q)) x
  begins None es q now ins x early h k =
      let there = after_append m es (Begin now ins ∷ q.events) x in
      let last_is : (after m (es ++ Begin now ins ∷ q.events) x).last ≡ now = ap (λ (y : World_state). y.last) there ∙ k.reaches.last_stays in
      record {
        lawful = λ may. lawful_append m n es (Begin now ins ∷ q.events) x h.lawful
            ((h.begun_stays ∙ may.0, subst (λ t. t ≤ now) (sym h.last_stays) may.1, may.2, may.3), k.reaches.lawful);
        only = λ seat strike. only_append seat es (Begin now ins ∷ q.events) (h.only seat strike) (k.reaches.only seat strike);
        mended = λ heal. mended_append m es (Begin now ins ∷ q.events) x (h.mended heal) (tt, k.reaches.mended heal);
        goes = k.reaches.goes;
        early = omega (arith, last_is);
        closes = λ none. record {
          scan_alone = items_append es (Begin now ins ∷ q.events) ∙ (λ i. h.no_items i ++ scan now ins ∷ k.reaches.no_items i);
          last_is = last_is;
          begun = ap (λ (y : World_state). y.begun) there ∙ k.reaches.begun_stays;
          over = ap (all_ended m) there ∙ k.over none;
        };
      }
  begins (Some f) es q now ins x early h k = record {
    lawful = λ may. h.lawful;
    only = h.only;
    mended = h.mended;
    goes = h.goes;
    early = subst (λ t. t ≤ now) (sym h.last_stays) early;
    closes = λ none. absurd (cc);
  }

  no_turns : (x : World_state) → ((s : Seat) → (channel s x).turns ≡ 0) → AreWithin m x
  no_turns x none = record { few = λ s. subst (λ k. k ≤ (machine s m).budget) (sym (none s)) (omega arith) }

  begun_none : (now : ℕ) (ins : List Bool) (x : World_state) (s : Seat) → (channel s (world_step m (Begin now ins) x)).turns ≡ 0
  begun_none now ins x A = refl
  begun_none now ins x B = refl
  begun_none now ins x C = refl

  pub scan_comes : (now : ℕ) (ins : List Bool) (x : World_state) → x.last ≤ now → ScanComes now ins (path_to_vote heals m faults now ins x) x
  scan_comes now ins x early =
      let p = spoils heals m (of_turn 0 faults) x in
      let y = world_step m (Begin now ins) (after m p.events x) in
      begins p.refused p.events (turns heals m faults (most_turns m) 0 None y) now ins x early (turn_spoils_reach heals m n faults 0 x)
      (turns_come (most_turns m) 0 None y refl (no_turns y (begun_none now ins (after m p.events x))) (omega arith))

-- ---- After the vote.

module _ (m : Machines) where
  pub rest_behind : (healing : Bool) (x : World_state) → (after m (closing healing m x) x).begun ≡ false
  rest_behind healing x = by healing (vote m x)
    where
      by : (heal : Bool) (v : Vote) → (after m (behind_vote heal v) (world_step m TakeVote x)).begun ≡ false
      by heal All = refl
      by heal Split = refl
      by false (Two seat) = refl
      by true (Two seat) = refl

  pub last_behind : (healing : Bool) (x : World_state) → (after m (closing healing m x) x).last ≡ x.last
  last_behind healing x = by healing (vote m x)
    where
      by : (heal : Bool) (v : Vote) → (after m (behind_vote heal v) (world_step m TakeVote x)).last ≡ x.last
      by heal All = refl
      by heal Split = refl
      by false (Two seat) = refl
      by true (Two seat) = refl
