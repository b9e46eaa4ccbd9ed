-- What is told is so of the traces.
use Rattle.std.specs.Prelude.{◌≡◌, List, map}
use Rattle.ps_base.specs.declared.failing.Place.{Place}
use Rattle.ps_cover.specs.Applying.{ScanStep}
use Rattle.ps_model.specs.Network.{Network}
use Rattle.ps_cover.specs.Covering.{point_of}
use Rattle.ps_cover.specs.Listing.{points_of}
use Rattle.ps_cover.specs.Tallied.{IsUnseen, KnowsTraces}
use Rattle.ps_cover.specs.declared.cover.Cover.{Cover}
use Rattle.ps_cover.specs.declared.excluding.Row.{Row}
use Rattle.ps_cover.specs.Seen.{known_by, known_in}
use Rattle.ps_cover.specs.Text.{coverage_text}
use Rattle.ps_cover.specs.declared.format.Format.{Format}

-- After the scans of some traces, each begun anew, the text is that of what these traces show.
abbrev pub TextIsOfTraces : Type 0
TextIsOfTraces = (net : Network) (rows : List Row) (places : List Place) (traces : List (List ScanStep)) (old new : Cover)
    (format : Format) → map point_of old.points.items ≡ points_of net → IsUnseen old → KnowsTraces net traces old new →
    coverage_text (known_in net rows places new) format ≡ coverage_text (known_by net rows places traces) format
