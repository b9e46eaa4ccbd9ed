-- What a list of events says: which channels it spoils, what concerns one channel alone, and which scans and restarts
-- it has.
use Rattle.std.specs.Prelude.{◌≡◌, ℕ, ◌+◌, Bool, true, false, if◌then◌else◌, List, [], ◌∷◌, ◌++◌}
use Rattle.ps_model.specs.declared.channel.Channel.{Channel}
use Rattle.ps_model.specs.declared.channel.Channel.TheVariants.{A, B}
use Rattle.ps_model.specs.Meaning.{Item, scan, restart}
use Rattle.ps_machine.specs.Channels.{Own, begins, makes_turn, struck, closes, restarts}
use Rattle.ps_world.specs.Worlds.{Event, Begin, Turn, Spoil, Compare, Restart}

-- whether two channels are the same
abbrev pub is_same : Channel → Channel → Bool
is_same A A = true
is_same A B = false
is_same B A = false
is_same B B = true

-- no Spoil of the list names the channel
abbrev pub IsSpared : Channel → List Event → Type 0
IsSpared ch [] = Unit {0}
IsSpared ch (Spoil o region at bytes ∷ es) = (is_same ch o ≡ false) × IsSpared ch es
IsSpared ch (Begin now ins ∷ es) = IsSpared ch es
IsSpared ch (Turn o ∷ es) = IsSpared ch es
IsSpared ch (Compare ∷ es) = IsSpared ch es
IsSpared ch (Restart ∷ es) = IsSpared ch es

-- all Spoils of the list name one channel: there is one that none names
pub record OneSided (es : List Event) : Type 0 where
  pub spared : Channel
  pub is_spared : IsSpared spared es

-- the list has no Spoil
pub record HasNoSpoil (es : List Event) : Type 0 where
  pub a : IsSpared A es
  pub b : IsSpared B es

-- what an event is for one channel, if it concerns it
abbrev pub concerning : Channel → Event → List Own
concerning ch (Begin now ins) = begins now ins ∷ []
concerning ch (Turn o) = if is_same ch o then makes_turn ∷ [] else []
concerning ch (Spoil o region at bytes) = if is_same ch o then struck region at bytes ∷ [] else []
concerning ch Compare = closes ∷ []
concerning ch Restart = restarts ∷ []

-- the events that concern one channel, in their order
abbrev pub own_events : Channel → List Event → List Own
own_events ch [] = []
own_events ch (e ∷ es) = concerning ch e ++ own_events ch es

-- the scans and restarts of the list
abbrev pub items_of : List Event → List Item
items_of [] = []
items_of (Begin now ins ∷ es) = scan now ins ∷ items_of es
items_of (Restart ∷ es) = restart ∷ items_of es
items_of (Turn ch ∷ es) = items_of es
items_of (Spoil ch region at bytes ∷ es) = items_of es
items_of (Compare ∷ es) = items_of es

-- the list has no Restart
abbrev pub HasNoRestart : List Event → Type 0
HasNoRestart [] = Unit {0}
HasNoRestart (Restart ∷ es) = ⊥
HasNoRestart (Begin now ins ∷ es) = HasNoRestart es
HasNoRestart (Turn ch ∷ es) = HasNoRestart es
HasNoRestart (Spoil ch region at bytes ∷ es) = HasNoRestart es
HasNoRestart (Compare ∷ es) = HasNoRestart es

-- the events of one scan between its Begin and its Compare: Turns and Spoils alone
abbrev pub IsWithinScan : List Event → Type 0
IsWithinScan [] = Unit {0}
IsWithinScan (Turn ch ∷ es) = IsWithinScan es
IsWithinScan (Spoil ch region at bytes ∷ es) = IsWithinScan es
IsWithinScan (Begin now ins ∷ es) = ⊥
IsWithinScan (Compare ∷ es) = ⊥
IsWithinScan (Restart ∷ es) = ⊥

-- how many Turns there are
abbrev pub turn_count : List Event → ℕ
turn_count [] = 0
turn_count (Turn ch ∷ es) = turn_count es + 1
turn_count (Begin now ins ∷ es) = turn_count es
turn_count (Spoil ch region at bytes ∷ es) = turn_count es
turn_count (Compare ∷ es) = turn_count es
turn_count (Restart ∷ es) = turn_count es
