-- Every seat that is not dirty stands for the meaning, event by event.
use Rattle.std.proofs.Common.{inl, inr, ◌≡◌, ℕ, ◌<◌, ◌^◌, Bool, true, false, cond, List, [], ◌∷◌, length, Some, refl, sym, ap, ◌∙◌, subst, arith}
use Rattle.std.specs.Prelude.{◌&&◌}
use Rattle.std.proofs.lemmas.Bool.{cases_Bool, false≢true}
use Rattle.std.proofs.lemmas.Option.{same_Some}
use Rattle.ps_model.specs.declared.channel.Progress.TheVariants.{Done}
use Rattle.ps_model.specs.declared.channel.Region.{Region}
use Rattle.ps_model.specs.Network.{Network, input_count, instance_count}
use Rattle.ps_model.specs.Scanning.{State, Solves}
use Rattle.ps_model.specs.Meaning.{Past, nothing, last, last_time, old_state, passed, Runs, report}
use Rattle.ps_model.specs.PastAfter.{past_after}
use Rattle.ps_machine.specs.Keeping.{Keeps}
use Rattle.ps_machine.specs.Channels.{after_turn, after_strike, new_channel, remade, ended}
use Rattle.ps_machine.specs.Phases.{AtRest, Midway, Phase}
use Rattle.ps_machine.proofs.Phases.{begins_midway, turn_goes_on, scan_over, closes_at_rest, restarts_at_rest, remade_at_rest}
use Rattle.ps_machine.specs.Outcomes.{outcome_by, GivesSized}
use Rattle.ps_vote.specs.declared.seat.Seat.{Seat}
use Rattle.ps_vote.specs.declared.seat.Seat.TheVariants.{A, B, C}
use Rattle.ps_vote.specs.declared.seat.Vote.{Vote}
use Rattle.ps_vote.specs.declared.seat.Vote.TheVariants.{All, Two, Split}
use Rattle.ps_vote.specs.Worlds.{Machines, World_state, Event, Begin, Turn, Spoil, TakeVote, Restart, Heal, is_same, machine, channel, source, rebuilt, mark, world_0}
use Rattle.ps_vote.specs.Votes.{report_of, report_in, vote, report_given, outvoted_by}
use Rattle.ps_vote.specs.Steps.{world_step, after, is_in_region, healing, all_ended, May, Lawful}
use Rattle.ps_vote.specs.Lists.{OthersAreClean, IsMendedStep, IsMended, items_of}
use Rattle.ps_vote.proofs.Seated.{same_or_other, same_either_way, source_is_another, none_marked, mark_in, turn_at, spoil_at, heal_at, out_of_region}
use Rattle.ps_vote.proofs.Voted.{Shares, vote_shares, vote_all}

and_three : (a b c : Bool) → (a && b && c) ≡ true → (a ≡ true) × (b ≡ true) × (c ≡ true)
and_three true true true h = (refl, refl, refl)
and_three true true false h = absurd (cc)
and_three true false c h = absurd (cc)
and_three false b c h = absurd (cc)

pub each_ended : (m : Machines) (s : Seat) (x : World_state) → all_ended m x ≡ true → ended (machine s m) (channel s x) ≡ true
each_ended m A x h = (and_three (ended m.a x.a) (ended m.b x.b) (ended m.c x.c) h).0
each_ended m B x h = (and_three (ended m.a x.a) (ended m.b x.b) (ended m.c x.c) h).1
each_ended m C x h = (and_three (ended m.a x.a) (ended m.b x.b) (ended m.c x.c) h).2

begin_at : (m : Machines) (s : Seat) (now : ℕ) (ins : List Bool) (x : World_state) →
    channel s (world_step m (Begin now ins) x) ≡ record { code = (channel s x).code; cells = (machine s m).begin now ins (channel s x).cells; turns = 0 }
begin_at m A now ins x = refl
begin_at m B now ins x = refl
begin_at m C now ins x = refl

vote_at : (m : Machines) (s : Seat) (x : World_state) → channel s (world_step m TakeVote x) ≡ channel s x
vote_at m A x = refl
vote_at m B x = refl
vote_at m C x = refl

restart_at : (m : Machines) (s : Seat) (x : World_state) → channel s (world_step m Restart x) ≡ new_channel (machine s m)
restart_at m A x = refl
restart_at m B x = refl
restart_at m C x = refl

new_in_world : (m : Machines) (s : Seat) → channel s (world_0 m) ≡ new_channel (machine s m)
new_in_world m A = refl
new_in_world m B = refl
new_in_world m C = refl

-- the seat that a vote outvotes
voted_out : (v : Vote) (s : Seat) → outvoted_by v ≡ Some s → v ≡ Two s
voted_out All s h = absurd (cc)
voted_out (Two o) s h = ap Two (same_Some o s h)
voted_out Split s h = absurd (cc)

same_out : (s o : Seat) → Two s ≡ Two o → s ≡ o
same_out s o h = cc

module _ (net : Network) (m : Machines) (Stands : Seat → State → ℕ → List ℕ → Type 0) (keeps : (s : Seat) → Keeps net (machine s m) (Stands s))
    (heals : (s : Seat) (w : State) (t : ℕ) (cells : List ℕ) → t < 2 ^ 32 → Stands (source s) w t cells → Stands s w t (rebuilt s m t cells))
    (sized : (s : Seat) → GivesSized (machine s m) (length net.outputs) (instance_count net)) where
  -- a seat is at rest or midway in its scan, for the state of the scan that was begun last
  abbrev pub StandsAt : Seat → World_state → Past → Type 0
  StandsAt s x past = Phase net (machine s m) (Stands s) x.last x.begun (channel s x) past

  -- Every seat that is not dirty stands for the meaning, and at most one is dirty. An outvoted seat is dirty, and the last scan is
  -- the one that the vote closed.
  pub record Sound (x : World_state) (past : Past) : Type 0 where
    pub clean : (s : Seat) → mark s x.dirty ≡ false → StandsAt s x past
    pub one : (s : Seat) → mark s x.dirty ≡ true → OthersAreClean s x
    pub small : x.last < 2 ^ 32
    pub timely : x.begun ≡ true → last_time past ≡ x.last
    pub out : (s : Seat) → x.outvoted ≡ Some s → (mark s x.dirty ≡ true) × (x.begun ≡ false) × (last_time past ≡ x.last)

  begin_sound : (x : World_state) (past : Past) (now : ℕ) (ins : List Bool) (new : State) → Sound x past → May m (input_count net) (Begin now ins) x →
      Solves net (old_state net past) ins (passed past now) new → Sound (world_step m (Begin now ins) x) (last now new)
  begin_sound x past now ins new h may solves = record {
    clean = λ s clean.
        let rest = subst (λ b. Phase net (machine s m) (Stands s) x.last b (channel s x) past) may.0 (h.clean s clean) in
        subst (λ c. Midway net (machine s m) (Stands s) now c (last now new)) (sym (begin_at m s now ins x))
        (begins_midway net (machine s m) (Stands s) (keeps s) x.last (channel s x) past new ins now rest may.1 may.2 may.3 solves);
    one = h.one;
    small = may.2;
    timely = λ begun. refl;
    out = λ s none. absurd (cc);
  }

  turn_sound : (o : Seat) (x : World_state) (past : Past) → Sound x past → May m (input_count net) (Turn o) x → Sound (world_step m (Turn o) x) past
  turn_sound o x past h may = record {
    clean = λ s clean. elim (same_or_other s o) [
      | inl own ↦
          let goes = subst (λ c. ended (machine c m) (channel c x) ≡ false) own.1 may.1 in
          let mid = subst (λ b. Phase net (machine s m) (Stands s) x.last b (channel s x) past) may.0 (h.clean s clean) in
          let e : channel s (world_step m (Turn o) x) ≡ after_turn (machine s m) (channel s x) =
          turn_at m x s o ∙ ap (λ b. cond b (after_turn (machine o m) (channel o x)) (channel s x)) own.0 ∙ ap (λ c. after_turn (machine c m) (channel c x)) own.1 in
          subst (λ b. Phase net (machine s m) (Stands s) x.last b (channel s (world_step m (Turn o) x)) past) (sym may.0)
          (subst (λ c. Midway net (machine s m) (Stands s) x.last c past) (sym e) (turn_goes_on net (machine s m) (Stands s) x.last (channel s x) past mid goes))
      | inr other ↦
          let e : channel s (world_step m (Turn o) x) ≡ channel s x =
          turn_at m x s o ∙ ap (λ b. cond b (after_turn (machine o m) (channel o x)) (channel s x)) other in
          subst (λ c. Phase net (machine s m) (Stands s) x.last x.begun c past) (sym e) (h.clean s clean)
    ];
    one = h.one;
    small = h.small;
    timely = h.timely;
    out = h.out;
  }

  -- a world whose marks and seats are those of another, and all else
  alike_sound : (x y : World_state) (past : Past) → ((s : Seat) → channel s y ≡ channel s x) → ((s : Seat) → mark s y.dirty ≡ mark s x.dirty) → y.last ≡ x.last → y.begun ≡ x.begun →
      y.outvoted ≡ x.outvoted → Sound x past → Sound y past
  alike_sound x y past seats marks same_last same_begun same_voted h = record {
    clean = λ s clean.
        subst (λ t. Phase net (machine s m) (Stands s) t y.begun (channel s y) past) (sym same_last)
        (subst (λ b. Phase net (machine s m) (Stands s) x.last b (channel s y) past) (sym same_begun)
        (subst (λ c. Phase net (machine s m) (Stands s) x.last x.begun c past) (sym (seats s)) (h.clean s (sym (marks s) ∙ clean))));
    one = λ s dirty o other. marks o ∙ h.one s (sym (marks s) ∙ dirty) o other;
    small = subst (λ t. t < 2 ^ 32) (sym same_last) h.small;
    timely = λ begun. h.timely (sym same_begun ∙ begun) ∙ sym same_last;
    out = λ s out.
        let e = h.out s (sym same_voted ∙ out) in
        (marks s ∙ e.0, same_begun ∙ e.1, e.2 ∙ sym same_last);
  }

  -- bytes out of region change nothing
  missed_sound : (o : Seat) (region : Region) (at : ℕ) (bytes : List ℕ) (x : World_state) (past : Past) → Sound x past → is_in_region region at bytes (channel o x) ≡ false →
      Sound (world_step m (Spoil o region at bytes) x) past
  missed_sound o region at bytes x past h outside = alike_sound x (world_step m (Spoil o region at bytes) x) past seats marks refl refl refl h
    where
      seats : (s : Seat) → channel s (world_step m (Spoil o region at bytes) x) ≡ channel s x
      seats s = elim (same_or_other s o) [
        | inl own ↦
            spoil_at m x s o region at bytes ∙ ap (λ b. cond b (after_strike region at bytes (channel o x)) (channel s x)) own.0
            ∙ out_of_region region at bytes (channel o x) outside ∙ ap (λ q. channel q x) own.1
        | inr other ↦ spoil_at m x s o region at bytes ∙ ap (λ b. cond b (after_strike region at bytes (channel o x)) (channel s x)) other
      ]

      marks : (s : Seat) → mark s (world_step m (Spoil o region at bytes) x).dirty ≡ mark s x.dirty
      marks s =
          mark_in s o (cond (is_in_region region at bytes (channel o x)) true (mark o x.dirty)) x.dirty
          ∙ ap (λ b. cond (is_same s o) (cond b true (mark o x.dirty)) (mark s x.dirty)) outside
          ∙ elim (same_or_other s o) [
            | inl own ↦ ap (λ b. cond b (mark o x.dirty) (mark s x.dirty)) own.0 ∙ ap (λ q. mark q x.dirty) own.1
            | inr other ↦ ap (λ b. cond b (mark o x.dirty) (mark s x.dirty)) other
          ]

  struck_sound : (o : Seat) (region : Region) (at : ℕ) (bytes : List ℕ) (x : World_state) (past : Past) → Sound x past → is_in_region region at bytes (channel o x) ≡ true → OthersAreClean o x →
      Sound (world_step m (Spoil o region at bytes) x) past
  struck_sound o region at bytes x past h inside others = record {
    clean = λ s clean. elim (same_or_other s o) [
      | inl own ↦ absurd (false≢true (sym clean ∙ own_mark s own.0))
      | inr other ↦
          subst (λ c. Phase net (machine s m) (Stands s) x.last x.begun c past)
          (sym (spoil_at m x s o region at bytes ∙ ap (λ b. cond b (after_strike region at bytes (channel o x)) (channel s x)) other))
          (h.clean s (others s (same_either_way o s ∙ other)))
    ];
    one = λ s dirty q other. elim (same_or_other s o) [
      | inl own ↦ let apart : is_same o q ≡ false = ap (λ z. is_same z q) own.1 ∙ other in other_mark q (same_either_way q o ∙ apart) ∙ others q apart
      | inr apart ↦ absurd (false≢true (sym (other_mark s apart ∙ others s (same_either_way o s ∙ apart)) ∙ dirty))
    ];
    small = h.small;
    timely = h.timely;
    out = λ s out.
        let e = h.out s out in
        (elim (same_or_other s o) [ inl own ↦ own_mark s own.0 | inr apart ↦ other_mark s apart ∙ e.0 ], e.1, e.2);
  }
    where
      mark_at : (s : Seat) → mark s (world_step m (Spoil o region at bytes) x).dirty ≡ cond (is_same s o) true (mark s x.dirty)
      mark_at s =
          mark_in s o (cond (is_in_region region at bytes (channel o x)) true (mark o x.dirty)) x.dirty
          ∙ ap (λ b. cond (is_same s o) (cond b true (mark o x.dirty)) (mark s x.dirty)) inside

      own_mark : (s : Seat) → is_same s o ≡ true → mark s (world_step m (Spoil o region at bytes) x).dirty ≡ true
      own_mark s own = mark_at s ∙ ap (λ b. cond b true (mark s x.dirty)) own

      other_mark : (s : Seat) → is_same s o ≡ false → mark s (world_step m (Spoil o region at bytes) x).dirty ≡ mark s x.dirty
      other_mark s other = mark_at s ∙ ap (λ b. cond b true (mark s x.dirty)) other

  spoil_sound : (o : Seat) (region : Region) (at : ℕ) (bytes : List ℕ) (x : World_state) (past : Past) → Sound x past → IsMendedStep (Spoil o region at bytes) x →
      Sound (world_step m (Spoil o region at bytes) x) past
  spoil_sound o region at bytes x past h mended =
      elim (cases_Bool (is_in_region region at bytes (channel o x))) [
        | inl inside ↦ struck_sound o region at bytes x past h inside (mended inside)
        | inr outside ↦ missed_sound o region at bytes x past h outside
      ]

  -- ---- The vote.

  -- a seat that is not dirty has the report of the meaning
  clean_report : (s : Seat) (x : World_state) (past : Past) → Sound x past → May m (input_count net) TakeVote x → mark s x.dirty ≡ false →
      report_in (machine s m) (channel s x).cells ≡ Some (report net (old_state net past))
  clean_report s x past h may clean =
      let mid = subst (λ b. Phase net (machine s m) (Stands s) x.last b (channel s x) past) may.0 (h.clean s clean) in
      let over = scan_over net (machine s m) (Stands s) x.last (channel s x) past mid (each_ended m s x may.1) in
      ap (λ p. report_of (outcome_by p ((machine s m).report (channel s x).cells))) over.done ∙ ap (λ r. report_of (outcome_by Done r)) over.reports

  -- there is a seat whose others are clean
  pub record MayBeOut (x : World_state) : Type 0 where
    pub seat : Seat
    pub others : OthersAreClean seat x

  pub may_be_out : (x : World_state) (past : Past) → Sound x past → MayBeOut x
  may_be_out x past h =
      elim (cases_Bool (mark A x.dirty)) [
        | inl dirty ↦ record { seat = A; others = h.one A dirty }
        | inr a ↦ elim (cases_Bool (mark B x.dirty)) [
          | inl dirty ↦ record { seat = B; others = h.one B dirty }
          | inr b ↦ record { seat = C; others = by a b }
        ]
      ]
    where
      by : mark A x.dirty ≡ false → mark B x.dirty ≡ false → OthersAreClean C x
      by a b A other = a
      by a b B other = b
      by a b C other = absurd (cc)

  -- a vote releases the report of the meaning, with no seat out but that one
  pub voted : (seat : Seat) (x : World_state) (past : Past) → Sound x past → May m (input_count net) TakeVote x → OthersAreClean seat x →
      Shares seat (vote m x) (report_given m (length net.outputs) (instance_count net) x) (report net (old_state net past))
  voted seat x past h may others =
      vote_shares m (length net.outputs) (instance_count net) sized seat x (report net (old_state net past)) (λ o other. clean_report o x past h may (others o other))

  -- with no seat dirty it is All
  pub voted_all : (x : World_state) (past : Past) → Sound x past → May m (input_count net) TakeVote x → ((s : Seat) → mark s x.dirty ≡ false) → vote m x ≡ All
  voted_all x past h may clean =
      vote_all m (length net.outputs) (instance_count net) sized x (report net (old_state net past)) (λ o. clean_report o x past h may (clean o))

  -- so a seat that is outvoted is dirty
  out_is_dirty : (s : Seat) (x : World_state) (past : Past) → Sound x past → May m (input_count net) TakeVote x → vote m x ≡ Two s → mark s x.dirty ≡ true
  out_is_dirty s x past h may two =
      let d = may_be_out x past h in
      let r = voted d.seat x past h may d.others in
      elim r.voted [
        | inl all ↦ let both : All ≡ Two s = sym all ∙ two in absurd (cc)
        | inr out ↦
            let same : d.seat ≡ s = same_out d.seat s (sym out ∙ two) in
            elim (cases_Bool (mark s x.dirty)) [
              | inl dirty ↦ dirty
              | inr clean ↦
                  let clean' : mark d.seat x.dirty ≡ false = ap (λ q. mark q x.dirty) same ∙ clean in
                  let all = voted_all x past h may (λ q. by d.seat d.others clean' q) in
                  let both : All ≡ Two s = sym all ∙ two in
                  absurd (cc)
            ]
      ]
    where
      by : (d : Seat) → OthersAreClean d x → mark d x.dirty ≡ false → (q : Seat) → mark q x.dirty ≡ false
      by d others clean q = elim (same_or_other d q) [ inl own ↦ ap (λ z. mark z x.dirty) own.1 ∙ clean | inr other ↦ others q other ]

  pub vote_sound : (x : World_state) (past : Past) → Sound x past → May m (input_count net) TakeVote x → Sound (world_step m TakeVote x) past
  vote_sound x past h may = record {
    clean = λ s clean.
        let mid = subst (λ b. Phase net (machine s m) (Stands s) x.last b (channel s x) past) may.0 (h.clean s clean) in
        subst (λ c. AtRest net (machine s m) (Stands s) x.last c past) (sym (vote_at m s x))
        (closes_at_rest net (machine s m) (Stands s) x.last (channel s x) past mid (each_ended m s x may.1));
    one = h.one;
    small = h.small;
    timely = λ begun. absurd (cc);
    out = λ s out. (out_is_dirty s x past h may (voted_out (vote m x) s out), refl, h.timely may.0);
  }

  pub restart_sound : (x : World_state) → x.last < 2 ^ 32 → Sound (world_step m Restart x) nothing
  restart_sound x small = record {
    clean = λ s clean.
        subst (λ c. AtRest net (machine s m) (Stands s) x.last c nothing) (sym (restart_at m s x)) (restarts_at_rest net (machine s m) (Stands s) (keeps s) x.last (channel s x));
    one = λ s dirty. absurd (false≢true (sym (none_marked s) ∙ dirty));
    small = small;
    timely = λ begun. absurd (cc);
    out = λ s out. absurd (cc);
  }

  pub beginning_sound : Sound (world_0 m) nothing
  beginning_sound = record {
    clean = λ s clean.
        subst (λ c. AtRest net (machine s m) (Stands s) 0 c nothing) (sym (new_in_world m s)) (restarts_at_rest net (machine s m) (Stands s) (keeps s) 0 (new_channel (machine s m)));
    one = λ s dirty. absurd (false≢true (sym (none_marked s) ∙ dirty));
    small = omega arith;
    timely = λ begun. absurd (cc);
    out = λ s out. absurd (cc);
  }

  -- ---- A heal: with it no seat is dirty.

  pub healed_clean : (o : Seat) (x : World_state) (past : Past) → Sound x past → May m (input_count net) (Heal o) x → (s : Seat) → mark s (world_step m (Heal o) x).dirty ≡ false
  healed_clean o x past h may s =
      mark_in s o false x.dirty
      ∙ elim (same_or_other s o) [
        | inl own ↦ ap (λ b. cond b false (mark s x.dirty)) own.0
        | inr other ↦ ap (λ b. cond b false (mark s x.dirty)) other ∙ h.one o (h.out o may).0 s (same_either_way o s ∙ other)
      ]

  pub heal_sound : (o : Seat) (x : World_state) (past : Past) → Sound x past → May m (input_count net) (Heal o) x → Sound (world_step m (Heal o) x) past
  heal_sound o x past h may = record {
    clean = λ s clean. elim (same_or_other s o) [
      | inl own ↦
          let e = h.out o may in
          let from = subst (λ b. Phase net (machine (source o) m) (Stands (source o)) x.last b (channel (source o) x) past) e.1 (h.clean (source o) (h.one o e.0 (source o) (source_is_another o))) in
          let there : Stands (source o) (old_state net past) x.last (channel (source o) x).cells = subst (λ t. Stands (source o) (old_state net past) t (channel (source o) x).cells) e.2 from.stands in
          let made : Stands o (old_state net past) (last_time past) (healing m o x) =
          subst (λ t. Stands o (old_state net past) t (healing m o x)) (sym e.2) (heals o (old_state net past) x.last (channel (source o) x).cells h.small there) in
          let rest : AtRest net (machine o m) (Stands o) x.last (remade (machine o m) (healing m o x) (channel o x)) past =
          remade_at_rest net (machine o m) (Stands o) x.last (channel o x) past (healing m o x) made from.early in
          let at : channel o (world_step m (Heal o) x) ≡ remade (machine o m) (healing m o x) (channel o x) =
          heal_at m x o o ∙ ap (λ b. cond b (remade (machine o m) (healing m o x) (channel o x)) (channel o x)) (ap (λ z. is_same z o) own.1 ∙ own.0) in
          subst (λ q. Phase net (machine q m) (Stands q) x.last x.begun (channel q (world_step m (Heal o) x)) past) own.1
          (subst (λ b. Phase net (machine o m) (Stands o) x.last b (channel o (world_step m (Heal o) x)) past) (sym e.1)
          (subst (λ c. AtRest net (machine o m) (Stands o) x.last c past) (sym at) rest))
      | inr other ↦
          subst (λ c. Phase net (machine s m) (Stands s) x.last x.begun c past)
          (sym (heal_at m x s o ∙ ap (λ b. cond b (remade (machine o m) (healing m o x) (channel o x)) (channel s x)) other))
          (h.clean s (h.one o (h.out o may).0 s (same_either_way o s ∙ other)))
    ];
    one = λ s dirty. absurd (false≢true (sym (healed_clean o x past h may s) ∙ dirty));
    small = h.small;
    timely = h.timely;
    out = λ s out. absurd (cc);
  }

  -- ---- Lists of events.

  -- how a list goes on after its first event
  pub record GoesOn (e : Event) (es : List Event) (x : World_state) (past : Past) (ws : List State) : Type 0 where
    pub then_past : Past
    pub then_ws : List State
    pub sound : Sound (world_step m e x) then_past
    pub runs : Runs net then_past (items_of es) then_ws
    pub same : past_after past (items_of (e ∷ es)) ws ≡ past_after then_past (items_of es) then_ws

  pub goes_on : (e : Event) (es : List Event) (x : World_state) (past : Past) (ws : List State) → Sound x past → May m (input_count net) e x → IsMendedStep e x →
      Runs net past (items_of (e ∷ es)) ws → GoesOn e es x past ws
  goes_on (Begin now ins) es x past [] h may mended runs = absurd runs
  goes_on (Begin now ins) es x past (w ∷ ws) h may mended runs =
      record { then_past = last now w; then_ws = ws; sound = begin_sound x past now ins w h may runs.0; runs = runs.1; same = refl }
  goes_on (Turn o) es x past ws h may mended runs = record { then_past = past; then_ws = ws; sound = turn_sound o x past h may; runs = runs; same = refl }
  goes_on (Spoil o region at bytes) es x past ws h may mended runs =
      record { then_past = past; then_ws = ws; sound = spoil_sound o region at bytes x past h mended; runs = runs; same = refl }
  goes_on TakeVote es x past ws h may mended runs = record { then_past = past; then_ws = ws; sound = vote_sound x past h may; runs = runs; same = refl }
  goes_on Restart es x past ws h may mended runs = record { then_past = nothing; then_ws = ws; sound = restart_sound x h.small; runs = runs; same = refl }
  goes_on (Heal o) es x past ws h may mended runs = record { then_past = past; then_ws = ws; sound = heal_sound o x past h may; runs = runs; same = refl }

  pub after_sound : (es : List Event) (x : World_state) (past : Past) (ws : List State) → Sound x past → Lawful m (input_count net) es x → IsMended m es x →
      Runs net past (items_of es) ws → Sound (after m es x) (past_after past (items_of es) ws)
  after_sound [] x past ws h law mended runs = h
  after_sound (e ∷ es) x past ws h law mended runs =
      let g = goes_on e es x past ws h law.0 mended.0 runs in
      subst (Sound (after m es (world_step m e x))) (sym g.same) (after_sound es (world_step m e x) g.then_past g.then_ws g.sound law.1 mended.1 g.runs)
