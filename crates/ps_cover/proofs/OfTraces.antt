-- What is told is so of the traces.
use Rattle.std.proofs.Common.{◌≡◌, ℕ, List, Option, Some, None, length, map, refl, slice_get, sym, ap, ◌∙◌}
use Rattle.std.specs.Prelude.{option_map}
use Rattle.std.proofs.lemmas.List.{length-map}
use Rattle.std.proofs.lemmas.Option.{slice_get-map}
use Rattle.ps_base.specs.declared.failing.Place.{Place}
use Rattle.ps_cover.specs.Applying.{ScanStep}
use Rattle.ps_model.specs.Network.{Network}
use Rattle.ps_cover.specs.Covering.{point_of}
use Rattle.ps_cover.specs.Listing.{points_of}
use Rattle.ps_cover.specs.Tallied.{IsUnseen, KnowsTraces}
use Rattle.ps_cover.specs.declared.cover.Cover.{Cover}
use Rattle.ps_cover.specs.declared.excluding.Row.{Row}
use Rattle.ps_cover.specs.declared.point.Point.{Point}
use Rattle.ps_cover.proofs.Counting.{off_shown, on_shown}
use Rattle.ps_cover.specs.Seen.{kept_of, known_by, known_in, shown_of}
use Rattle.ps_cover.specs.Text.{coverage_text}
use Rattle.ps_cover.specs.OfTraces.{TextIsOfTraces}

module _ (net : Network) (traces : List (List ScanStep)) (old new : Cover) (listed : map point_of old.points.items ≡ points_of net) (unseen : IsUnseen old)
    (knows : KnowsTraces net traces old new) where
  -- the points are those of the application
  points_are : map point_of new.points.items ≡ points_of net
  points_are = ap (map point_of) knows.points ∙ listed

  as_many : length new.points.items ≡ length (points_of net)
  as_many = sym (length-map new.points.items point_of) ∙ ap length points_are

  one_seen : (n : ℕ) (o : Option Point) → slice_get new.points.items n ≡ o → kept_of new n o ≡ shown_of net traces (option_map point_of o)
  one_seen n None at = refl
  one_seen n (Some p) at =
      let here : slice_get old.points.items n ≡ Some p = ap (λ (ps : List Point). slice_get ps n) (sym knows.points) ∙ at in
      λ i. Some (record {
        point = point_of p;
        off = off_shown net traces old new unseen knows n p here i;
        on = on_shown net traces old new unseen knows n p here i;
      })

  seen_is : (n : ℕ) → kept_of new n (slice_get new.points.items n) ≡ shown_of net traces (slice_get (points_of net) n)
  seen_is n =
      one_seen n (slice_get new.points.items n) refl
      ∙ ap (shown_of net traces) (sym (slice_get-map point_of new.points.items n) ∙ ap (λ ps. slice_get ps n) points_are)

  pub known_is : (rows : List Row) (places : List Place) → known_in net rows places new ≡ known_by net rows places traces
  known_is rows places = λ i. record { net = net; rows = rows; places = places; size = as_many i; at = λ n. seen_is n i }

pub text_of_traces : TextIsOfTraces
text_of_traces net rows places traces old new format listed unseen knows =
    ap (λ x. coverage_text x format) (known_is net traces old new listed unseen knows rows places)
