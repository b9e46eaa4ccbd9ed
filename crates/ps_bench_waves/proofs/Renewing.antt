-- What renewing columns keeps, and so what a watcher keeps.
use Rattle.std.proofs.Common.{◌≡◌, ◌∙◌, ◌+◌, ℕ, Bool, List, [], ◌∷◌, length, map, refl, ap, sym, subst, arith}
use Rattle.std.proofs.lemmas.List.Elements.{All-map}
use Rattle.std.proofs.lemmas.List.Sums.{sum_by-cons}
use Rattle.std.specs.Prelude.{All}
use Rattle.ps_bench_judge.specs.Moments.{Moment}
use Rattle.ps_model.specs.Network.{Network}
use Rattle.ps_bench_waves.specs.Room.{IsKeyed, column_room, columns_room, renewed}
use Rattle.ps_bench_waves.specs.declared.column.Column.{Column}
use Rattle.ps_bench_waves.specs.Watcher.{IsWatcherFor, TakesScan, next_columns}
use Rattle.ps_bench_waves.specs.declared.format.Format.{Format}
use Rattle.ps_bench_waves.specs.declared.watcher.Watcher.{Watcher}

module _ (net : Network) (is_first : Bool) (m : Moment) where
  -- what stands for their names
  pub keyed-renewed : (format : Format) (columns : List Column) → All (IsKeyed format net) columns →
      All (IsKeyed format net) (map (renewed net is_first m) columns)
  keyed-renewed format columns keyed = All-map (IsKeyed format net) (renewed net is_first m) columns keyed

  -- the room that suffices for them
  pub room-renewed : (columns : List Column) → columns_room (map (renewed net is_first m) columns) ≡ columns_room columns
  room-renewed [] = refl
  room-renewed (c ∷ columns) =
      let f = λ (d : Column). length d.key + column_room in
      sum_by-cons f (renewed net is_first m c) (map (renewed net is_first m) columns)
      ∙ ap (λ (n : ℕ). length c.key + column_room + n) (room-renewed columns) ∙ sym (sum_by-cons f c columns)

-- A watcher that takes a scan is one as before.
pub still_fits : (net : Network) (m : Moment) (w w' : Watcher) → IsWatcherFor net w → TakesScan net w m w' →
    w'.line.room ≡ w.line.room → IsWatcherFor net w'
still_fits net m w w' fits takes room = record {
  keyed = subst (λ (columns : List Column). All (IsKeyed w'.format net) columns) (sym takes.columns)
      (subst (λ (format : Format). All (IsKeyed format net) (next_columns net w m)) (sym takes.format)
      (keyed-renewed net w.next.is_first m w.format w.columns.items fits.keyed));
  room =
      let same = ap columns_room takes.columns in
      let renewed = room-renewed net w.next.is_first m w.columns.items in
      let before = fits.room in
      omega (arith, same, renewed, before, room);
}
