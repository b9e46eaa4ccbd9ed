-- What a set of traces has shown, each begun anew.
use Rattle.std.specs.Prelude.{ℕ, Bool, false, true, List, ◌&&◌, count_by}
use Rattle.std.specs.List.{list_any}
use Rattle.ps_model.specs.Network.{Network}
use Rattle.ps_cover.specs.Applying.{ScanStep}
use Rattle.ps_cover.specs.Points.{Point, shows}

-- some scan of some trace shows the point with value b
abbrev pub is_shown : Network → List (List ScanStep) → (b : Bool) → Point → Bool
is_shown net traces b p = list_any (list_any (shows net b p)) traces

-- the point was shown with both values
abbrev pub is_covered : Network → List (List ScanStep) → Point → Bool
is_covered net traces p = is_shown net traces false p && is_shown net traces true p

-- how many of these points were shown with both values
abbrev pub covered_count : Network → List (List ScanStep) → List Point → ℕ
covered_count net traces points = count_by (is_covered net traces) points
