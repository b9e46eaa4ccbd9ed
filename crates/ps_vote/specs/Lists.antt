-- What a list of events says: which seats it spoils, whether it is mended, and which scans and restarts it has.
use Rattle.std.specs.Prelude.{◌≡◌, true, false, List, [], ◌∷◌}
use Rattle.ps_model.specs.Meaning.{Item, scan, restart}
use Rattle.ps_vote.specs.declared.seat.Seat.{Seat}
use Rattle.ps_vote.specs.Worlds.{Machines, World_state, Event, Begin, Turn, Spoil, TakeVote, Restart, Heal, is_same}
use Rattle.ps_vote.specs.Worlds.{channel, mark}
use Rattle.ps_vote.specs.Steps.{is_in_region, world_step}

-- all Spoils of the list name one seat
abbrev pub SpoilsOnly : Seat → List Event → Type 0
SpoilsOnly seat [] = Unit {0}
SpoilsOnly seat (Spoil o region at bytes ∷ es) = (o ≡ seat) × SpoilsOnly seat es
SpoilsOnly seat (Begin now ins ∷ es) = SpoilsOnly seat es
SpoilsOnly seat (Turn o ∷ es) = SpoilsOnly seat es
SpoilsOnly seat (TakeVote ∷ es) = SpoilsOnly seat es
SpoilsOnly seat (Restart ∷ es) = SpoilsOnly seat es
SpoilsOnly seat (Heal o ∷ es) = SpoilsOnly seat es

-- the list has no Spoil
abbrev pub HasNoSpoil : List Event → Type 0
HasNoSpoil [] = Unit {0}
HasNoSpoil (Spoil o region at bytes ∷ es) = ⊥
HasNoSpoil (Begin now ins ∷ es) = HasNoSpoil es
HasNoSpoil (Turn o ∷ es) = HasNoSpoil es
HasNoSpoil (TakeVote ∷ es) = HasNoSpoil es
HasNoSpoil (Restart ∷ es) = HasNoSpoil es
HasNoSpoil (Heal o ∷ es) = HasNoSpoil es

-- no seat but this one is dirty
abbrev pub OthersAreClean : Seat → World_state → Type 0
OthersAreClean seat x = (o : Seat) → is_same seat o ≡ false → mark o x.dirty ≡ false

-- A Spoil in region names a seat at a moment at which no other is dirty.
abbrev pub IsMendedStep : Event → World_state → Type 0
IsMendedStep (Spoil seat region at bytes) x = is_in_region region at bytes (channel seat x) ≡ true → OthersAreClean seat x
IsMendedStep (Begin now ins) x = Unit {0}
IsMendedStep (Turn o) x = Unit {0}
IsMendedStep TakeVote x = Unit {0}
IsMendedStep Restart x = Unit {0}
IsMendedStep (Heal o) x = Unit {0}

-- The list is mended, from this world on: each seat that a Spoil in region struck is healed before another is struck.
abbrev pub IsMended : Machines → List Event → World_state → Type 0
IsMended m [] x = Unit {0}
IsMended m (e ∷ es) x = IsMendedStep e x × IsMended m es (world_step m e x)

-- the scans and restarts of the list
abbrev pub items_of : List Event → List Item
items_of [] = []
items_of (Begin now ins ∷ es) = scan now ins ∷ items_of es
items_of (Restart ∷ es) = restart ∷ items_of es
items_of (Turn o ∷ es) = items_of es
items_of (Spoil o region at bytes ∷ es) = items_of es
items_of (TakeVote ∷ es) = items_of es
items_of (Heal o ∷ es) = items_of es
