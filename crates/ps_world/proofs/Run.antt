-- A run releases the reports of the meaning.
use Rattle.std.proofs.Common.{inl, inr, ◌⊎◌, ◌≡◌, ℕ, suc, ◌+◌, ◌<◌, ◌≤◌, ◌^◌, Bool, true, false, cond, List, [], ◌∷◌, ◌++◌, length, None, refl, sym, ap, ◌∙◌, subst, arith}
use Rattle.std.specs.Prelude.{◌&&◌, ◌||◌}
use Rattle.std.proofs.lemmas.Bool.{cases_Bool}
use Rattle.ps_model.specs.declared.channel.Channel.{Channel}
use Rattle.ps_model.specs.declared.channel.Channel.TheVariants.{A, B}
use Rattle.ps_model.specs.declared.channel.Fault.{Fault}
use Rattle.ps_model.specs.declared.channel.Verdict.TheVariants.{Released, Down}
use Rattle.ps_model.specs.Network.{Network, input_count, instance_count}
use Rattle.ps_model.specs.Scanning.{State, Solves}
use Rattle.ps_model.specs.Meaning.{Item, scan, restart, Past, nothing, last, old_state, passed, Runs, report}
use Rattle.ps_model.specs.PastAfter.{past_after}
use Rattle.ps_machine.specs.Keeping.{Keeps}
use Rattle.ps_machine.specs.Items.{AreTimely}
use Rattle.ps_machine.specs.Outcomes.{outcome, GivesSized}
use Rattle.ps_world.specs.Worlds.{Machines, World_state, Event, Begin, Compare, Restart, machine, world_0}
use Rattle.ps_world.specs.Verdicts.{judged, verdict, is_trip}
use Rattle.ps_world.specs.Steps.{world_step, after, both_ended, May, Lawful}
use Rattle.ps_world.specs.Lists.{IsSpared, items_of}
use Rattle.ps_world.specs.Orders.{of_scan, spoils_before, turn_events, events_before_compare, at_compare, scan_events}
use Rattle.ps_world.specs.Answers.{answers, SpareChannel, ReleaseRight, ReleaseAll, RunsAreRight, QuietRunsRelease}
use Rattle.ps_world.proofs.Turning.{after_append, struck_alike}
use Rattle.ps_world.proofs.Ordered.{of_scan_spare, struck_lawful, struck_spared, struck_items, turns_come}
use Rattle.ps_world.proofs.Standing.{Holds, beginning_holds, step_holds, restart_holds, after_holds}
use Rattle.ps_world.proofs.Right.{meant_outcome, released_report, releases}

-- ---- One scan, in a world that is not tripped.

-- The events up to the Compare are lawful, are this scan alone, spare what the faults spare, and a Compare may come after them.
pub record ComesToCompare (m : Machines) (n : ℕ) (faults : List Fault) (now : ℕ) (ins : List Bool) (es : List Event) (x : World_state) : Type 0 where
  pub lawful : Lawful m n es x
  pub scan_alone : items_of es ≡ scan now ins ∷ []
  pub spared : (ch : Channel) → SpareChannel ch faults → IsSpared ch es
  pub last_is : (after m es x).last ≡ now
  pub up : (after m es x).tripped ≡ false
  pub may : May m n Compare (after m es x)

pub comes_to_compare : (m : Machines) (n : ℕ) (faults : List Fault) (now : ℕ) (ins : List Bool) (x : World_state) → x.begun ≡ false → x.tripped ≡ false → x.last ≤ now → now < 2 ^ 32 → length ins ≡ n →
    ComesToCompare m n faults now ins (events_before_compare m faults now ins x) x
comes_to_compare m n faults now ins x rest up later small sized =
    let spoils = spoils_before 0 faults in
    let y = after m spoils x in
    let z = world_step m (Begin now ins) y in
    let alike = struck_alike m 0 faults x in
    let turns = turn_events m faults (m.a.budget + m.b.budget) 0 None z in
    let h = turns_come m n faults (m.a.budget + m.b.budget) 0 None z refl (omega arith) (omega arith) (omega arith) in
    let es = spoils ++ Begin now ins ∷ turns in
    let there : after m es x ≡ after m turns z = after_append m spoils (Begin now ins ∷ turns) x in
    let still_up : y.tripped ≡ false = alike.tripped ∙ up in
    let up_there : (after m es x).tripped ≡ false = ap (λ (w : World_state). w.tripped) there ∙ h.tripped ∙ still_up in
    let begun_there : (after m es x).begun ≡ true = ap (λ (w : World_state). w.begun) there ∙ h.begun in
    let over_there : both_ended m (after m es x) ≡ true = ap (both_ended m) there ∙ h.over in
    subst (λ b. ComesToCompare m n faults now ins (cond b [] es) x) (sym up)
    (record {
      lawful = struck_lawful m n 0 faults (Begin now ins ∷ turns) x
          ((alike.begun ∙ rest, still_up, subst (λ t. t ≤ now) (sym alike.last) later, small, sized), h.lawful);
      scan_alone = struck_items 0 faults (Begin now ins ∷ turns) ∙ ap (λ l. scan now ins ∷ l) h.no_items;
      spared = λ ch spare. struck_spared ch 0 faults (Begin now ins ∷ turns) spare (h.spared ch spare);
      last_is = ap (λ (w : World_state). w.last) there ∙ h.last;
      up = up_there;
      may = (λ i. up_there i || (begun_there i && over_there i));
    })

-- in a tripped world a scan is its Compare alone, and the world stays down
down_scan : (m : Machines) (faults : List Fault) (now : ℕ) (ins : List Bool) (x : World_state) → x.tripped ≡ true → at_compare m faults now ins x ≡ x
down_scan m faults now ins x tripped =
    ap (λ b. after m (cond b [] (spoils_before 0 faults ++ (Begin now ins ∷ turn_events m faults (m.a.budget + m.b.budget) 0 None (world_step m (Begin now ins) (after m (spoils_before 0 faults) x))))) x) tripped

down_verdict : (m : Machines) (x : World_state) → x.tripped ≡ true → verdict m x ≡ Down
down_verdict m x tripped = ap (λ t. cond t Down (judged (outcome m.a x.a.cells) (outcome m.b x.b.cells))) tripped

pub after_scan : (m : Machines) (faults : List Fault) (now : ℕ) (ins : List Bool) (x : World_state) → after m (scan_events m faults now ins x) x ≡ world_step m Compare (at_compare m faults now ins x)
after_scan m faults now ins x = after_append m (events_before_compare m faults now ins x) (Compare ∷ []) x

-- a channel that the faults spare stands for the meaning at the Compare
pub at_compare_holds : (net : Network) (m : Machines) (ch : Channel) (Stands : State → ℕ → List ℕ → Type 0) (keeps : Keeps net (machine ch m) Stands) (faults : List Fault) (now : ℕ) (ins : List Bool)
    (x : World_state) (past : Past) (w : State) → SpareChannel ch faults → ComesToCompare m (input_count net) faults now ins (events_before_compare m faults now ins x) x →
    Holds net m ch Stands keeps x past → Solves net (old_state net past) ins (passed past now) w → Holds net m ch Stands keeps (at_compare m faults now ins x) (last now w)
at_compare_holds net m ch Stands keeps faults now ins x past w spare comes holds solves =
    let es = events_before_compare m faults now ins x in
    subst (λ items. Holds net m ch Stands keeps (after m es x) (past_after past items (w ∷ []))) comes.scan_alone
    (after_holds net m ch Stands keeps es x past (w ∷ []) holds comes.lawful (comes.spared ch spare)
    (subst (λ items. Runs net past items (w ∷ [])) (sym comes.scan_alone) (solves, refl)))

module _ (net : Network) (m : Machines) (StandsA StandsB : State → ℕ → List ℕ → Type 0) (ka : Keeps net m.a StandsA) (kb : Keeps net m.b StandsB)
    (sized_a : GivesSized m.a (length net.outputs) (instance_count net)) (sized_b : GivesSized m.b (length net.outputs) (instance_count net)) where
  abbrev outputs : ℕ
  outputs = length net.outputs

  abbrev instances : ℕ
  instances = instance_count net

  -- ---- With faults.

  module _ (ch : Channel) (Stands : State → ℕ → List ℕ → Type 0) (keeps : Keeps net (machine ch m) Stands) where
    -- the world is tripped, or the spared channel stands for the meaning
    abbrev StandsOrDown : World_state → Past → Type 0
    StandsOrDown x past = (x.tripped ≡ true) ⊎ ((x.tripped ≡ false) × Holds net m ch Stands keeps x past)

    by_tripped : (x : World_state) (past : Past) → Holds net m ch Stands keeps x past → StandsOrDown x past
    by_tripped x past h = elim (cases_Bool x.tripped) [ inl down ↦ inl down | inr up ↦ inr (up, h) ]

  right_from : (ch : Channel) (Stands : State → ℕ → List ℕ → Type 0) (keeps : Keeps net (machine ch m) Stands) (faults : List Fault) → SpareChannel ch faults →
      (number latest : ℕ) (items : List Item) (x : World_state) (past : Past) (ws : List State) → x.begun ≡ false → x.last ≤ latest → AreTimely (input_count net) latest items →
      StandsOrDown ch Stands keeps x past → Runs net past items ws → ReleaseRight net (answers m outputs instances faults number items x) ws
  right_from ch Stands keeps faults spare number latest [] x past ws rest early timely stands runs = tt
  right_from ch Stands keeps faults spare number latest (restart ∷ items) x past ws rest early timely stands runs =
      right_from ch Stands keeps faults spare number latest items (world_step m Restart x) nothing ws refl early timely (inr (refl, restart_holds net m ch Stands keeps x)) runs
  right_from ch Stands keeps faults spare number latest (scan now ins ∷ items) x past [] rest early timely stands runs = absurd runs
  right_from ch Stands keeps faults spare number latest (scan now ins ∷ items) x past (w ∷ ws) rest early timely (inl down) runs =
      let due = of_scan number faults in
      let z = at_compare m due now ins x in
      let same : z ≡ x = down_scan m due now ins x down in
      let still : z.tripped ≡ true = ap (λ (y : World_state). y.tripped) same ∙ down in
      let is_down = down_verdict m z still in
      let y = world_step m Compare z in
      let earlier : y.last ≤ now = subst (λ t. t ≤ now) (sym (ap (λ (v : World_state). v.last) same)) (omega (arith, timely.0)) in
      let more = right_from ch Stands keeps faults spare (suc number) now items y (last now w) ws refl earlier timely.3 (inl (ap is_trip is_down)) runs.1 in (
        (λ released. absurd (let both : Down ≡ Released = sym is_down ∙ released in cc)),
        subst (λ v. ReleaseRight net (answers m outputs instances faults (suc number) items v) ws) (sym (after_scan m due now ins x)) more,
      )
  right_from ch Stands keeps faults spare number latest (scan now ins ∷ items) x past (w ∷ ws) rest early timely (inr stands) runs =
      let due = of_scan number faults in
      let z = at_compare m due now ins x in
      let comes = comes_to_compare m (input_count net) due now ins x rest stands.0 (omega (arith, timely.0)) timely.1 timely.2 in
      let holds = at_compare_holds net m ch Stands keeps due now ins x past w (of_scan_spare ch number faults spare) comes stands.1 runs.0 in
      let meant = meant_outcome net m ch Stands keeps z (last now w) holds comes.may comes.up in
      let y = world_step m Compare z in
      let after_compare = step_holds net m ch Stands keeps Compare z (last now w) [] holds comes.may tt refl in
      let earlier : y.last ≤ now = subst (λ t. t ≤ now) (sym comes.last_is) (omega arith) in
      let more = right_from ch Stands keeps faults spare (suc number) now items y (last now w) ws refl earlier timely.3 (by_tripped ch Stands keeps y (last now w) after_compare) runs.1 in (
        (λ released. released_report net m StandsA StandsB ka kb sized_a sized_b z (report net w) ch meant released),
        subst (λ v. ReleaseRight net (answers m outputs instances faults (suc number) items v) ws) (sym (after_scan m due now ins x)) more,
      )

  pub runs_are_right : RunsAreRight net m
  runs_are_right items faults ws A timely spare means =
      right_from A StandsA ka faults spare 1 0 items (world_0 m) nothing ws refl (omega arith) timely (inr (refl, beginning_holds net m A StandsA ka)) means
  runs_are_right items faults ws B timely spare means =
      right_from B StandsB kb faults spare 1 0 items (world_0 m) nothing ws refl (omega arith) timely (inr (refl, beginning_holds net m B StandsB kb)) means

  -- ---- Without faults.

  all_from : (number latest : ℕ) (items : List Item) (x : World_state) (past : Past) (ws : List State) → x.begun ≡ false → x.tripped ≡ false → x.last ≤ latest →
      AreTimely (input_count net) latest items → Holds net m A StandsA ka x past → Holds net m B StandsB kb x past → Runs net past items ws →
      ReleaseAll net (answers m outputs instances [] number items x) ws
  all_from number latest [] x past ws rest up early timely ha hb runs = tt
  all_from number latest (restart ∷ items) x past ws rest up early timely ha hb runs =
      all_from number latest items (world_step m Restart x) nothing ws refl refl early timely (restart_holds net m A StandsA ka x) (restart_holds net m B StandsB kb x) runs
  all_from number latest (scan now ins ∷ items) x past [] rest up early timely ha hb runs = absurd runs
  all_from number latest (scan now ins ∷ items) x past (w ∷ ws) rest up early timely ha hb runs =
      let z = at_compare m [] now ins x in
      let comes = comes_to_compare m (input_count net) [] now ins x rest up (omega (arith, timely.0)) timely.1 timely.2 in
      let za = at_compare_holds net m A StandsA ka [] now ins x past w tt comes ha runs.0 in
      let zb = at_compare_holds net m B StandsB kb [] now ins x past w tt comes hb runs.0 in
      let released = releases net m StandsA StandsB ka kb sized_a sized_b z (last now w) za zb comes.may comes.up in
      let y = world_step m Compare z in
      let earlier : y.last ≤ now = subst (λ t. t ≤ now) (sym comes.last_is) (omega arith) in
      let more = all_from (suc number) now items y (last now w) ws refl (ap is_trip released) earlier timely.3
      (step_holds net m A StandsA ka Compare z (last now w) [] za comes.may tt refl) (step_holds net m B StandsB kb Compare z (last now w) [] zb comes.may tt refl) runs.1 in (
        released,
        released_report net m StandsA StandsB ka kb sized_a sized_b z (report net w) A (meant_outcome net m A StandsA ka z (last now w) za comes.may comes.up) released,
        subst (λ v. ReleaseAll net (answers m outputs instances [] (suc number) items v) ws) (sym (after_scan m [] now ins x)) more,
      )

  pub quiet_runs_release : QuietRunsRelease net m
  quiet_runs_release items ws timely means =
      all_from 1 0 items (world_0 m) nothing ws refl refl (omega arith) timely (beginning_holds net m A StandsA ka) (beginning_holds net m B StandsB kb) means

-- the time of the last scan is at most that of a scan that was made
pub last_within : (m : Machines) (faults : List Fault) (now : ℕ) (ins : List Bool) (x : World_state) → x.last ≤ now → (after m (scan_events m faults now ins x) x).last ≤ now
last_within m faults now ins x early =
    subst (λ (y : World_state). y.last ≤ now) (sym (after_scan m faults now ins x))
    (elim (cases_Bool x.tripped) [
      | inl down ↦ subst (λ t. t ≤ now) (sym (ap (λ (y : World_state). y.last) (down_scan m faults now ins x down))) early
      | inr up ↦
          let spoils = spoils_before 0 faults in
          let z = world_step m (Begin now ins) (after m spoils x) in
          let turns = turn_events m faults (m.a.budget + m.b.budget) 0 None z in
          let h = turns_come m (length ins) faults (m.a.budget + m.b.budget) 0 None z refl (omega arith) (omega arith) (omega arith) in
          let es = spoils ++ Begin now ins ∷ turns in
          let there : after m es x ≡ after m turns z = after_append m spoils (Begin now ins ∷ turns) x in
          let is_now : (after m es x).last ≡ now = ap (λ (y : World_state). y.last) there ∙ h.last in
          subst (λ b. (after m (cond b [] es) x).last ≤ now) (sym up) (subst (λ t. t ≤ now) (sym is_now) (omega arith))
    ])
