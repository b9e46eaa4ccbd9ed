-- A world that no Spoil struck releases every scan.
use Rattle.std.proofs.Common.{◌≡◌, ◌∙◌, ℕ, ◌<◌, ◌≤◌, ◌^◌, Bool, false, List, [], length, refl, sym, ap, subst}
use Rattle.ps_model.specs.declared.channel.Channel.{Channel}
use Rattle.ps_model.specs.declared.channel.Channel.TheVariants.{A, B}
use Rattle.ps_model.specs.Network.{Network, input_count}
use Rattle.ps_model.specs.Scanning.{State, Solves}
use Rattle.ps_model.specs.Meaning.{Past, nothing, last, old_state, passed, report}
use Rattle.ps_machine.specs.Keeping.{Keeps}
use Rattle.ps_machine.specs.Phases.{AtRest, Phase}
use Rattle.ps_stackvm.specs.Stands.{StandsA}
use Rattle.ps_eqvm.specs.Stands.{StandsB}
use Rattle.ps_world.specs.Worlds.{Machines, World_state, Compare, Restart, machine, channel, world_0}
use Rattle.ps_world.specs.Verdicts.{report_given, is_trip}
use Rattle.ps_world.specs.Steps.{world_step}
use Rattle.ps_world.specs.Whole.{Setup, Whole, machines_in, happened, IsSetupOf, IsWorldOf}
use Rattle.ps_world.specs.Orders.{at_compare}
use Rattle.ps_world.specs.Ready.{IsReady, ReleasesScan, QuietWorldsRelease}
use Rattle.ps_world.proofs.Standing.{Holds, beginning_holds, step_holds, restart_holds}
use Rattle.ps_world.proofs.Right.{meant_outcome, released_report, releases}
use Rattle.ps_world.proofs.Run.{comes_to_compare, at_compare_holds, after_scan}
use Rattle.ps_world.proofs.Built.{sized_for_a, sized_for_b}

module _ (net : Network) (keeps : (s : Setup) → IsSetupOf net s → Keeps net (machines_in s).a (StandsA net) × Keeps net (machines_in s).b (StandsB net)) where
  -- a channel's phase by a state in which no scan is begun
  holds_of_rest : (m : Machines) (ch : Channel) (Stands : State → ℕ → List ℕ → Type 0) (k : Keeps net (machine ch m) Stands) (x : World_state) (past : Past) → x.begun ≡ false →
      AtRest net (machine ch m) Stands x.last (channel ch x) past → Holds net m ch Stands k x past
  holds_of_rest m ch Stands k x past rest at_rest = record {
    phase = subst (λ b. Phase net (machine ch m) Stands x.last b (channel ch x) past) (sym rest) at_rest;
    down = λ t. rest;
  }

  rest_of_holds : (m : Machines) (ch : Channel) (Stands : State → ℕ → List ℕ → Type 0) (k : Keeps net (machine ch m) Stands) (x : World_state) (past : Past) → x.begun ≡ false →
      Holds net m ch Stands k x past → AtRest net (machine ch m) Stands x.last (channel ch x) past
  rest_of_holds m ch Stands k x past rest h = subst (λ b. Phase net (machine ch m) Stands x.last b (channel ch x) past) rest h.phase

  beginning_ready : (w : Whole) → IsWorldOf net w → IsReady net w nothing
  beginning_ready w h =
      let k = keeps w.setup h.setup in
      let m = machines_in w.setup in
      subst (λ (x : World_state). IsReady net (record { setup = w.setup; state = x }) nothing) (sym h.beginning) (record {
        setup = h.setup;
        rest = refl;
        up = refl;
        a = rest_of_holds m A (StandsA net) k.0 (world_0 m) nothing refl (beginning_holds net m A (StandsA net) k.0);
        b = rest_of_holds m B (StandsB net) k.1 (world_0 m) nothing refl (beginning_holds net m B (StandsB net) k.1);
      })

  restart_ready : (w : Whole) → IsSetupOf net w.setup → IsReady net (happened Restart w) nothing
  restart_ready w h =
      let k = keeps w.setup h in
      let m = machines_in w.setup in
      let x = world_step m Restart w.state in
      record {
        setup = h;
        rest = refl;
        up = refl;
        a = rest_of_holds m A (StandsA net) k.0 x nothing refl (restart_holds net m A (StandsA net) k.0 w.state);
        b = rest_of_holds m B (StandsB net) k.1 x nothing refl (restart_holds net m B (StandsB net) k.1 w.state);
      }

  scan_releases : (w : Whole) (past : Past) (now : ℕ) (ins : List Bool) (new : State) → IsReady net w past → w.state.last ≤ now → now < 2 ^ 32 → length ins ≡ input_count net →
      Solves net (old_state net past) ins (passed past now) new → ReleasesScan net w now ins new
  scan_releases w past now ins new h later small sized solves =
      let k = keeps w.setup h.setup in
      let m = machines_in w.setup in
      let x = w.state in
      let sa = sized_for_a net w.setup h.setup in
      let sb = sized_for_b net w.setup h.setup in
      let ha = holds_of_rest m A (StandsA net) k.0 x past h.rest h.a in
      let hb = holds_of_rest m B (StandsB net) k.1 x past h.rest h.b in
      let z = at_compare m [] now ins x in
      let comes = comes_to_compare m (input_count net) [] now ins x h.rest h.up later small sized in
      let za = at_compare_holds net m A (StandsA net) k.0 [] now ins x past new tt comes ha solves in
      let zb = at_compare_holds net m B (StandsB net) k.1 [] now ins x past new tt comes hb solves in
      let released = releases net m (StandsA net) (StandsB net) k.0 k.1 sa sb z (last now new) za zb comes.may comes.up in
      let y = world_step m Compare z in
      let ya = step_holds net m A (StandsA net) k.0 Compare z (last now new) [] za comes.may tt refl in
      let yb = step_holds net m B (StandsB net) k.1 Compare z (last now new) [] zb comes.may tt refl in
      let sizes = h.setup.sizes in
      record {
        released = released;
        given = (λ i. report_given m (sizes.outputs i) (sizes.instances i) z)
            ∙ released_report net m (StandsA net) (StandsB net) k.0 k.1 sa sb z (report net new) A (meant_outcome net m A (StandsA net) k.0 z (last now new) za comes.may comes.up) released;
        ready = subst (λ (v : World_state). IsReady net (record { setup = w.setup; state = v }) (last now new)) (sym (after_scan m [] now ins x)) (record {
          setup = h.setup;
          rest = refl;
          up = ap is_trip released;
          a = rest_of_holds m A (StandsA net) k.0 y (last now new) refl ya;
          b = rest_of_holds m B (StandsB net) k.1 y (last now new) refl yb;
        });
      }

  pub quiet_worlds_release : QuietWorldsRelease net
  quiet_worlds_release = record { beginning = beginning_ready; restart = restart_ready; scan = scan_releases }
