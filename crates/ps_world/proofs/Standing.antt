-- A channel that no Spoil names stands for the meaning, event by event.
use Rattle.std.proofs.Common.{◌⊎◌, inl, inr, ◌≡◌, ℕ, Bool, true, false, cond, List, [], ◌∷◌, refl, sym, ap, ◌∙◌, subst}
use Rattle.std.specs.Prelude.{◌&&◌, ◌||◌}
use Rattle.ps_model.specs.declared.channel.Channel.{Channel}
use Rattle.ps_model.specs.declared.channel.Channel.TheVariants.{A, B}
use Rattle.ps_model.specs.declared.channel.Region.{Region}
use Rattle.ps_model.specs.Network.{Network, input_count}
use Rattle.ps_model.specs.Scanning.{State, Solves}
use Rattle.ps_model.specs.Meaning.{Past, nothing, last, old_state, passed, Runs}
use Rattle.ps_model.specs.PastAfter.{past_after}
use Rattle.ps_machine.specs.Keeping.{Keeps}
use Rattle.ps_machine.specs.Channels.{alone, makes_turn, struck, ended, new_channel}
use Rattle.ps_machine.specs.Phases.{AtRest, Midway, Phase}
use Rattle.ps_machine.proofs.Phases.{begins_midway, turn_goes_on, Over, scan_over, restarts_at_rest}
use Rattle.ps_world.specs.Worlds.{Machines, World_state, Event, Begin, Turn, Spoil, Compare, Restart, machine, channel, world_0}
use Rattle.ps_world.specs.Steps.{world_step, after, both_ended, May, Lawful}
use Rattle.ps_world.specs.Lists.{is_same, IsSpared, items_of}
use Rattle.ps_world.proofs.Apart.{event_apart}

same_or_other : (ch o : Channel) → ((is_same ch o ≡ true) × (o ≡ ch)) ⊎ (is_same ch o ≡ false)
same_or_other A A = inl (refl, refl)
same_or_other A B = inr refl
same_or_other B A = inr refl
same_or_other B B = inl (refl, refl)

and_each : (a b : Bool) → (a && b) ≡ true → (a ≡ true) × (b ≡ true)
and_each true true h = (refl, refl)
and_each true false h = absurd (cc)
and_each false b h = absurd (cc)

each_ended : (m : Machines) (ch : Channel) (x : World_state) → both_ended m x ≡ true → ended (machine ch m) (channel ch x) ≡ true
each_ended m A x h = (and_each (ended m.a x.a) (ended m.b x.b) h).0
each_ended m B x h = (and_each (ended m.a x.a) (ended m.b x.b) h).1

-- a Compare of a world that is not tripped comes in a scan that both channels have ended
compares_ended : (tripped begun both : Bool) → (tripped || (begun && both)) ≡ true → tripped ≡ false → (begun ≡ true) × (both ≡ true)
compares_ended true begun both h up = absurd (cc)
compares_ended false true true h up = (refl, refl)
compares_ended false true false h up = absurd (cc)
compares_ended false false both h up = absurd (cc)

new_in_world : (m : Machines) (ch : Channel) → channel ch (world_0 m) ≡ new_channel (machine ch m)
new_in_world m A = refl
new_in_world m B = refl

module _ (net : Network) (m : Machines) (ch : Channel) (Stands : State → ℕ → List ℕ → Type 0) (keeps : Keeps net (machine ch m) Stands) where
  -- the channel is at rest or midway in its scan, for the state of the scan that was begun last, and no scan is begun in a tripped world
  pub record Holds (x : World_state) (past : Past) : Type 0 where
    pub phase : Phase net (machine ch m) Stands x.last x.begun (channel ch x) past
    pub down : x.tripped ≡ true → x.begun ≡ false

  begin_holds : (x : World_state) (past : Past) (now : ℕ) (ins : List Bool) (new : State) → Holds x past → May m (input_count net) (Begin now ins) x →
      Solves net (old_state net past) ins (passed past now) new → Holds (world_step m (Begin now ins) x) (last now new)
  begin_holds x past now ins new h may solves =
      let rest = subst (λ b. Phase net (machine ch m) Stands x.last b (channel ch x) past) may.0 h.phase in
      let mid = begins_midway net (machine ch m) Stands keeps x.last (channel ch x) past new ins now rest may.2 may.3 may.4 solves in
      record {
        phase = subst (λ s. Midway net (machine ch m) Stands now s (last now new)) (sym (event_apart m (Begin now ins) x ch)) mid;
        down = λ t. let up = may.1 in absurd (cc);
      }

  turn_holds : (o : Channel) (x : World_state) (past : Past) → Holds x past → May m (input_count net) (Turn o) x → Holds (world_step m (Turn o) x) past
  turn_holds o x past h may = record {
    phase = elim (same_or_other ch o) [
      | inl own ↦
          let goes = subst (λ c. ended (machine c m) (channel c x) ≡ false) own.1 may.1 in
          let mid = subst (λ b. Phase net (machine ch m) Stands x.last b (channel ch x) past) may.0 h.phase in
          let e = event_apart m (Turn o) x ch ∙ ap (λ b. alone (machine ch m) (cond b (makes_turn ∷ []) []) (channel ch x)) own.0 in
          subst (λ b. Phase net (machine ch m) Stands x.last b (channel ch (world_step m (Turn o) x)) past) (sym may.0)
          (subst (λ s. Midway net (machine ch m) Stands x.last s past) (sym e) (turn_goes_on net (machine ch m) Stands x.last (channel ch x) past mid goes))
      | inr other ↦
          let e = event_apart m (Turn o) x ch ∙ ap (λ b. alone (machine ch m) (cond b (makes_turn ∷ []) []) (channel ch x)) other in
          subst (λ s. Phase net (machine ch m) Stands x.last x.begun s past) (sym e) h.phase
    ];
    down = h.down;
  }

  spoil_holds : (o : Channel) (region : Region) (at : ℕ) (bytes : List ℕ) (x : World_state) (past : Past) → Holds x past → is_same ch o ≡ false →
      Holds (world_step m (Spoil o region at bytes) x) past
  spoil_holds o region at bytes x past h other =
      let e = event_apart m (Spoil o region at bytes) x ch ∙ ap (λ b. alone (machine ch m) (cond b (struck region at bytes ∷ []) []) (channel ch x)) other in
      record { phase = subst (λ s. Phase net (machine ch m) Stands x.last x.begun s past) (sym e) h.phase; down = h.down }

  -- where a Compare may come in a world that is not tripped, the scan is over, and the channel has the report of the meaning
  pub is_over : (x : World_state) (past : Past) → Holds x past → May m (input_count net) Compare x → x.tripped ≡ false → Over net (machine ch m) Stands x.last (channel ch x) past
  is_over x past h may up =
      let at_end = compares_ended x.tripped x.begun (both_ended m x) may up in
      let mid = subst (λ b. Phase net (machine ch m) Stands x.last b (channel ch x) past) at_end.0 h.phase in
      scan_over net (machine ch m) Stands x.last (channel ch x) past mid (each_ended m ch x at_end.1)

  comes_to_rest : (x : World_state) (past : Past) (tripped : Bool) → x.tripped ≡ tripped → Holds x past → May m (input_count net) Compare x → AtRest net (machine ch m) Stands x.last (channel ch x) past
  comes_to_rest x past true e h may = subst (λ b. Phase net (machine ch m) Stands x.last b (channel ch x) past) (h.down e) h.phase
  comes_to_rest x past false e h may = (is_over x past h may e).rest

  compare_holds : (x : World_state) (past : Past) → Holds x past → May m (input_count net) Compare x → Holds (world_step m Compare x) past
  compare_holds x past h may = record {
    phase = subst (λ s. AtRest net (machine ch m) Stands x.last s past) (sym (event_apart m Compare x ch)) (comes_to_rest x past x.tripped refl h may);
    down = λ t. refl;
  }

  pub restart_holds : (x : World_state) → Holds (world_step m Restart x) nothing
  restart_holds x = record {
    phase = subst (λ s. AtRest net (machine ch m) Stands x.last s nothing) (sym (event_apart m Restart x ch)) (restarts_at_rest net (machine ch m) Stands keeps x.last (channel ch x));
    down = λ t. refl;
  }

  pub beginning_holds : Holds (world_0 m) nothing
  beginning_holds = record {
    phase = subst (λ s. AtRest net (machine ch m) Stands 0 s nothing) (sym (new_in_world m ch)) (restarts_at_rest net (machine ch m) Stands keeps 0 (new_channel (machine ch m)));
    down = λ t. refl;
  }

  -- one event that spares the channel
  pub step_holds : (e : Event) (x : World_state) (past : Past) (ws : List State) → Holds x past → May m (input_count net) e x → IsSpared ch (e ∷ []) →
      Runs net past (items_of (e ∷ [])) ws → Holds (world_step m e x) (past_after past (items_of (e ∷ [])) ws)
  step_holds (Begin now ins) x past [] h may spared runs = absurd runs
  step_holds (Begin now ins) x past (w ∷ ws) h may spared runs = begin_holds x past now ins w h may runs.0
  step_holds (Turn o) x past ws h may spared runs = turn_holds o x past h may
  step_holds (Spoil o region at bytes) x past ws h may spared runs = spoil_holds o region at bytes x past h spared.0
  step_holds Compare x past ws h may spared runs = compare_holds x past h may
  step_holds Restart x past ws h may spared runs = restart_holds x

  -- every lawful list of events that spares the channel
  pub after_holds : (es : List Event) (x : World_state) (past : Past) (ws : List State) → Holds x past → Lawful m (input_count net) es x → IsSpared ch es →
      Runs net past (items_of es) ws → Holds (after m es x) (past_after past (items_of es) ws)
  after_holds [] x past ws h law spared runs = h
  after_holds (Begin now ins ∷ es) x past [] h law spared runs = absurd runs
  after_holds (Begin now ins ∷ es) x past (w ∷ ws) h law spared runs =
      after_holds es (world_step m (Begin now ins) x) (last now w) ws (begin_holds x past now ins w h law.0 runs.0) law.1 spared runs.1
  after_holds (Turn o ∷ es) x past ws h law spared runs = after_holds es (world_step m (Turn o) x) past ws (turn_holds o x past h law.0) law.1 spared runs
  after_holds (Spoil o region at bytes ∷ es) x past ws h law spared runs =
      after_holds es (world_step m (Spoil o region at bytes) x) past ws (spoil_holds o region at bytes x past h spared.0) law.1 spared.1 runs
  after_holds (Compare ∷ es) x past ws h law spared runs = after_holds es (world_step m Compare x) past ws (compare_holds x past h law.0) law.1 spared runs
  after_holds (Restart ∷ es) x past ws h law spared runs = after_holds es (world_step m Restart x) nothing ws (restart_holds x) law.1 spared runs
