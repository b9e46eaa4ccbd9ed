-- Apparatus: what is told of what traces have shown, by what is kept of it.
use Rattle.std.specs.Prelude.{◌≡◌, List, map}
use Rattle.ps_base.specs.declared.failing.Place.{Place}
use Rattle.ps_bench_frame.specs.declared.answering.Answer.{Answer}
use Rattle.ps_cover.specs.Covering.{point_of}
use Rattle.ps_cover.specs.Excluding.{AreRows}
use Rattle.ps_cover.specs.Listing.{points_of}
use Rattle.ps_cover.specs.declared.cover.Cover.{Cover}
use Rattle.ps_cover.specs.declared.excluding.Row.{Row}
use Rattle.ps_cover.specs.Seen.{Known, known_in}
use Rattle.ps_model.specs.Network.{Network}
use Rattle.ps_bench_cover.specs.Standing.{places_of}
use Rattle.ps_parser.specs.Tree.{SourceTree}
use Rattle.ps_bench_cover.specs.Asking.{Wanted, cover_text, status_of}

-- what is known is what is kept, with the places of a source
abbrev pub IsKept : Network → SourceTree → Cover → Known → Type 0
IsKept net tree total known =
    (rows : List Row) × AreRows net rows
    × (places : List Place) × (map point_of total.points.items ≡ points_of net → places ≡ places_of net tree)
    × (known ≡ known_in net rows places total)

-- what is kept is told
abbrev pub TellsKept : Network → SourceTree → Cover → Wanted → Answer → Type 0
TellsKept net tree total wanted answer =
    (known : Known) × IsKept net tree total known × (answer.status ≡ status_of wanted.least known)
    × (answer.text ≡ cover_text wanted known)
