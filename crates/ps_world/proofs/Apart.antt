-- A channel follows from its own events alone.
use Rattle.std.proofs.Common.{◌≡◌, [], ◌∷◌, refl, sym, ap, ◌∙◌}
use Rattle.ps_model.specs.declared.channel.Channel.{Channel}
use Rattle.ps_model.specs.declared.channel.Channel.TheVariants.{A, B}
use Rattle.ps_machine.specs.Channels.{alone}
use Rattle.ps_machine.proofs.Phases.{alone_append}
use Rattle.ps_world.specs.Worlds.{Machines, World_state, Event, Begin, Turn, Spoil, Compare, Restart, machine, channel}
use Rattle.ps_world.specs.Steps.{world_step}
use Rattle.ps_world.specs.Lists.{concerning, own_events}
use Rattle.ps_world.specs.Laws.{ChannelsAreApart}

-- what one event makes of a channel
pub event_apart : (m : Machines) (e : Event) (x : World_state) (ch : Channel) → channel ch (world_step m e x) ≡ alone (machine ch m) (concerning ch e) (channel ch x)
event_apart m (Begin now ins) x A = refl
event_apart m (Begin now ins) x B = refl
event_apart m (Turn A) x A = refl
event_apart m (Turn B) x A = refl
event_apart m (Turn A) x B = refl
event_apart m (Turn B) x B = refl
event_apart m (Spoil A region at bytes) x A = refl
event_apart m (Spoil B region at bytes) x A = refl
event_apart m (Spoil A region at bytes) x B = refl
event_apart m (Spoil B region at bytes) x B = refl
event_apart m Compare x A = refl
event_apart m Compare x B = refl
event_apart m Restart x A = refl
event_apart m Restart x B = refl

pub channels_are_apart : ChannelsAreApart
channels_are_apart m [] x ch = refl
channels_are_apart m (e ∷ es) x ch =
    channels_are_apart m es (world_step m e x) ch
    ∙ ap (alone (machine ch m) (own_events ch es)) (event_apart m e x ch)
    ∙ sym (alone_append (machine ch m) (concerning ch e) (own_events ch es) (channel ch x))
