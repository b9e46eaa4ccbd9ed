-- The scan of which something is told, and the names of an application.
use Rattle.std.specs.Prelude.{ℕ, ◌+◌, ◌-◌, ◌&&◌, List, [], ◌++◌, Option, codes, length, nat_le, nat_lt, if◌then◌else◌}
use Rattle.std.specs.Prelude.{slice_get}
use Rattle.std.specs.List.{flat_map, range_with_len}
use Rattle.std.specs.Option.{unwrap_or}
use Rattle.ps_model.specs.Blocks.{block, output_count}
use Rattle.ps_model.specs.Network.{Network, declared_count, first_pin, instance_count, instance_name, kind_at, signal_name}
use Rattle.ps_model.specs.Pins.{pin_names}
use Rattle.ps_model.specs.declared.kind.Kind.{Kind}
use Rattle.ps_cover.specs.Tallying.{called_kind}
use Rattle.ps_cover.specs.Lines.{called_name}
use Rattle.ps_why.specs.declared.call.CallScene.{CallScene}
use Rattle.ps_why.specs.declared.moment.Moment.{Moment as MomentOf}

-- A scan: the application, the time in ms, that of the scan before, if there is one, since when each instance was in its
-- state before the scan, and is in the one after it, and these states of each.
pub record Moment : Type 0 where
  pub net : Network
  pub now : ℕ
  pub before : Option ℕ
  pub since_before : List ℕ
  pub since : List ℕ
  pub calls : List CallScene

-- as the code has it
abbrev pub moment_of : MomentOf → Moment
moment_of m = record {
  net = m.app.now;
  now = m.now;
  before = m.before;
  since_before = m.since_before.now;
  since = m.since.now;
  calls = m.calls.now;
}

-- the name of a pin of a kind; one that there is not has none
abbrev pub pin_text : Kind → (j : ℕ) → List ℕ
pin_text kind j = unwrap_or (slice_get (pin_names kind) j) []

-- output j of an instance, as `Guard.S_GuardMonitoring`
abbrev pub output_text : Network → (i j : ℕ) → List ℕ
output_text net i j =
    instance_name net i ++ codes "." ++ pin_text (kind_at net i) (length (block (kind_at net i)).inputs + j)

-- a signal that is an output of an instance; nothing of another one
abbrev pub output_at : Network → (s i : ℕ) → List ℕ
output_at net s i =
    if nat_le (first_pin net i) s && nat_lt (s - first_pin net i) (output_count (kind_at net i))
    then output_text net i (s - first_pin net i) else []

-- the name of a signal: of an input, an output or a local its own, and else that of an instance and its output
abbrev pub signal_text : Network → (s : ℕ) → List ℕ
signal_text net s =
    if nat_lt s (declared_count net) then signal_name net s
    else flat_map (output_at net s) (range_with_len 0 (instance_count net))

-- an input pin of the call of a step, as `Guard.S_GuardSwitch1`
abbrev pub call_pin_text : Network → (k j : ℕ) → List ℕ
call_pin_text net k j =
    called_name net (slice_get net.steps k) ++ codes "." ++ pin_text (called_kind net (slice_get net.steps k)) j
