-- The laws of a world of three machines, over lists of events in any order of turns, with restarts and heals, and with
-- Spoils of any bytes at any place.
use Rattle.std.specs.Prelude.{◌≡◌, ◌≢◌, ◌↔◌, false, List, [], ◌∷◌, ◌++◌, length, Some}
use Rattle.ps_model.specs.declared.report.Report.{Report}
use Rattle.ps_model.specs.Network.{Network, input_count, instance_count}
use Rattle.ps_model.specs.Scanning.{State}
use Rattle.ps_model.specs.Meaning.{nothing, old_state, Meaning, report}
use Rattle.ps_model.specs.PastAfter.{past_after}
use Rattle.ps_vote.specs.declared.seat.Seat.{Seat}
use Rattle.ps_vote.specs.declared.seat.Vote.TheVariants.{All, Two, Split}
use Rattle.ps_vote.specs.Worlds.{Machines, World_state, Event, TakeVote, Heal, is_same, machine, channel, world_0}
use Rattle.ps_vote.specs.Votes.{report_in, vote, report_given}
use Rattle.ps_vote.specs.Steps.{after, Lawful}
use Rattle.ps_vote.specs.Lists.{SpoilsOnly, HasNoSpoil, IsMended, items_of}

-- the report of the scan that was begun last among these events, where the scans of the application mean these states
abbrev pub report_meant : Network → List Event → List State → Report
report_meant net es ws = report net (old_state net (past_after nothing (items_of es) ws))

module _ (net : Network) (m : Machines) where
  -- a vote comes next, after a lawful list
  abbrev pub VoteComes : List Event → Type 0
  VoteComes es = Lawful m (input_count net) (es ++ TakeVote ∷ []) (world_0 m)

  -- The vote that comes next is not Split, and it gives the report of the meaning.
  pub record ReleasesMeaning (es : List Event) (ws : List State) : Type 0 where
    pub not_split : vote m (after m es (world_0 m)) ≢ Split
    pub given : report_given m (length net.outputs) (instance_count net) (after m es (world_0 m)) ≡ report_meant net es ws

  -- One spoiled seat is outvoted: after every lawful list whose Spoils name one seat a vote releases the report of the
  -- meaning.
  abbrev pub SpoiledSeatIsOutvoted : Type 0
  SpoiledSeatIsOutvoted = (es : List Event) (ws : List State) (seat : Seat) → VoteComes es → SpoilsOnly seat es → Meaning net (items_of es) ws →
      ReleasesMeaning es ws

  -- Mended seats: the same after every lawful, mended list; and a vote is All where a Heal stands before it and no
  -- Spoil between the two.
  pub record MendedSeats : Type 0 where
    pub releases : (es : List Event) (ws : List State) → VoteComes es → IsMended m es (world_0 m) → Meaning net (items_of es) ws → ReleasesMeaning es ws
    pub all_again : (es fs : List Event) (ws : List State) (seat : Seat) → VoteComes (es ++ Heal seat ∷ fs) → IsMended m (es ++ Heal seat ∷ fs) (world_0 m) → HasNoSpoil fs →
        Meaning net (items_of (es ++ Heal seat ∷ fs)) ws → vote m (after m (es ++ Heal seat ∷ fs) (world_0 m)) ≡ All

-- Three seats have equal reports.
pub record ThreeAreEqual (m : Machines) (x : World_state) : Type 0 where
  pub report : Report
  pub each : (seat : Seat) → report_in (machine seat m) (channel seat x).cells ≡ Some report

-- The other two seats have equal reports, and this one has none or another.
pub record TwoAreEqual (m : Machines) (x : World_state) (seat : Seat) : Type 0 where
  pub report : Report
  pub others : (o : Seat) → is_same seat o ≡ false → report_in (machine o m) (channel o x).cells ≡ Some report
  pub differs : report_in (machine seat m) (channel seat x).cells ≢ Some report

-- Votes exactly: All comes exactly where three reports are equal, and Two of a seat exactly where the other two are
-- equal and it has none or another.
pub record VotesExactly (m : Machines) : Type 0 where
  pub all : (x : World_state) → (vote m x ≡ All) ↔ ThreeAreEqual m x
  pub two : (x : World_state) (seat : Seat) → (vote m x ≡ Two seat) ↔ TwoAreEqual m x seat
