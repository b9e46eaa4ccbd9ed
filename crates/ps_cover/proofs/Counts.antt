-- Counts by what is kept of each point.
use Rattle.std.proofs.Common.{◌≡◌, ℕ, List, Option, Some, None, length, refl, slice_get}
use Rattle.std.specs.Prelude.{count_by}
use Rattle.std.specs.List.{range_with_len}
use Rattle.ps_base.specs.declared.failing.Place.{Place}
use Rattle.ps_model.specs.Network.{Network}
use Rattle.ps_cover.specs.Tallying.{counts_at, percent, percent_of, shown_at, tally}
use Rattle.ps_cover.specs.declared.cover.Cover.{Cover}
use Rattle.ps_cover.specs.declared.excluding.Row.{Row}
use Rattle.ps_cover.specs.declared.point.Point.{Point}
use Rattle.ps_cover.specs.declared.tallying.Sort.{Sort}
use Rattle.ps_cover.specs.declared.tallying.Status.{Status}
use Rattle.ps_cover.specs.declared.tallying.Status.TheVariants.{Covered, Counted}
use Rattle.ps_cover.specs.Seen.{count_of, does_count, kept_of, known_in, part_of}

module _ (net : Network) (rows : List Row) (places : List Place) (c : Cover) where
  one : (sort : Sort) (step : Option ℕ) (status : Status) (n : ℕ) (o : Option Point) →
      counts_at net rows sort step status (shown_at c n) o ≡ does_count (known_in net rows places c) sort step status (kept_of c n o)
  one sort step status n None = refl
  one sort step status n (Some p) = refl

  pub tally_known : (sort : Sort) (step : Option ℕ) (status : Status) → tally net rows c sort step status ≡ count_of (known_in net rows places c) sort step status
  tally_known sort step status = λ i. count_by (λ n. one sort step status n (slice_get c.points.items n) i) (range_with_len 0 (length c.points.items))

  pub percent_known : (sort : Sort) → percent_of net rows c sort ≡ part_of (known_in net rows places c) sort
  percent_known sort = λ i. percent (tally_known sort None Covered i) (tally_known sort None Counted i)
