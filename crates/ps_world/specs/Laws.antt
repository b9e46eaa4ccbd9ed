-- The laws of a world of two machines, over lists of events in any order of turns, with restarts and with Spoils of any
-- bytes at any place.
use Rattle.std.specs.Prelude.{◌≡◌, ◌↔◌, ◌≤◌, ℕ, ◌+◌, Bool, true, false, List, [], ◌∷◌, ◌++◌, length}
use Rattle.ps_model.specs.declared.channel.Channel.{Channel}
use Rattle.ps_model.specs.declared.channel.Cause.{Cause}
use Rattle.ps_model.specs.declared.channel.Verdict.TheVariants.{Released, Tripped, Down}
use Rattle.ps_model.specs.declared.report.Report.{Report}
use Rattle.ps_model.specs.Fields.{blank_report}
use Rattle.ps_model.specs.Network.{Network, input_count, instance_count}
use Rattle.ps_model.specs.Scanning.{State}
use Rattle.ps_model.specs.Meaning.{nothing, old_state, Meaning, report}
use Rattle.ps_model.specs.PastAfter.{past_after}
use Rattle.ps_machine.specs.Channels.{alone}
use Rattle.ps_world.specs.Worlds.{Machines, World_state, Event, Begin, Compare, machine, channel, world_0}
use Rattle.ps_machine.specs.Outcomes.{gives, outcome}
use Rattle.ps_world.specs.Verdicts.{verdict, report_given}
use Rattle.ps_world.specs.Steps.{after, Lawful}
use Rattle.ps_world.specs.Lists.{OneSided, HasNoSpoil, own_events, items_of, HasNoRestart, IsWithinScan, turn_count}

-- Channels are apart: the code, cells and turn count of a channel follow from its own events alone, however these are
-- mixed with the other's.
abbrev pub ChannelsAreApart : Type 0
ChannelsAreApart = (m : Machines) (es : List Event) (x : World_state) (ch : Channel) →
    channel ch (after m es x) ≡ alone (machine ch m) (own_events ch es) (channel ch x)

-- the report of the scan that was begun last among these events, where the scans of the application mean these states
abbrev pub report_meant : Network → List Event → List State → Report
report_meant net es ws = report net (old_state net (past_after nothing (items_of es) ws))

module _ (net : Network) (m : Machines) where
  -- a Compare comes next, after a lawful list
  abbrev pub Compares : List Event → Type 0
  Compares es = Lawful m (input_count net) (es ++ Compare ∷ []) (world_0 m)

  -- Released is right: after a one-sided list a Compare that releases gives the report of the meaning.
  abbrev pub ReleasedIsRight : Type 0
  ReleasedIsRight = (es : List Event) (ws : List State) → Compares es → OneSided es → Meaning net (items_of es) ws →
      verdict m (after m es (world_0 m)) ≡ Released →
      report_given m (length net.outputs) (instance_count net) (after m es (world_0 m)) ≡ report_meant net es ws

  -- Without a Spoil no Compare is Tripped: each releases the report of the meaning.
  abbrev pub NeverTrips : Type 0
  NeverTrips = (es : List Event) (ws : List State) → Compares es → HasNoSpoil es → Meaning net (items_of es) ws →
      (verdict m (after m es (world_0 m)) ≡ Released)
      × (report_given m (length net.outputs) (instance_count net) (after m es (world_0 m)) ≡ report_meant net es ws)

-- a channel gives no report, or the two reports differ
pub record Disagree (m : Machines) (x : World_state) : Type 0 where
  pub none_equal : (r : Report) → outcome m.a x.a.cells ≡ gives r → outcome m.b x.b.cells ≡ gives r → ⊥

-- Trips exactly: in a world that is not tripped a Compare is Tripped exactly where a channel has no report or the two
-- reports differ.
abbrev pub TripsExactly : Machines → Type 0
TripsExactly m = (x : World_state) → x.tripped ≡ false → ((cause : Cause) × (verdict m x ≡ Tripped cause)) ↔ Disagree m x

-- Stays down: once a world is tripped every Compare up to the next Restart is Down, with every output FALSE.
abbrev pub StaysDown : Machines → Type 0
StaysDown m = (es : List Event) (x : World_state) (inputs outputs instances : ℕ) → x.tripped ≡ true → Lawful m inputs es x → HasNoRestart es →
    (verdict m (after m es x) ≡ Down) × (report_given m outputs instances (after m es x) ≡ blank_report outputs instances)

-- Bounded turns: between a Begin and its Compare there are at most the two budgets of Turns, whatever was spoiled.
abbrev pub TurnsAreBounded : Machines → Type 0
TurnsAreBounded m = (x : World_state) (now inputs : ℕ) (ins : List Bool) (es : List Event) →
    Lawful m inputs (Begin now ins ∷ es) x → IsWithinScan es → turn_count es ≤ m.a.budget + m.b.budget
