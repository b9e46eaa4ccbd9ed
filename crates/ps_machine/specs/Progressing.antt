-- Progress of a scan.
use Rattle.std.specs.Prelude.{ℕ, ◌-◌, Bool, true, false, ◌==◌, nat_lt, if◌then◌else◌}
use Rattle.ps_model.specs.declared.channel.Progress.{Progress}
use Rattle.ps_model.specs.declared.channel.Progress.TheVariants.{Running, Done, Trapped}

-- what a progress byte says, by its plain value
abbrev pub progress_said : ℕ → Progress
progress_said byte =
    if byte == 0 then Running
    else (if byte == 1 then Done
    else (if nat_lt byte 9 then Trapped (byte - 1)
    else Trapped 0))

-- whether a scan goes on
abbrev pub is_running : Progress → Bool
is_running Running = true
is_running Done = false
is_running (Trapped n) = false
