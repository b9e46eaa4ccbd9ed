-- What channel B's own table says of a kind.
use Rattle.std.specs.Prelude.{◌≡◌, ◌≤◌, length, map}
use Rattle.std.specs.List.{range_with_len}
use Rattle.ps_model.specs.declared.kind.Kind.{Kind}
use Rattle.ps_model.specs.Blocks.{Pin, block}
use Rattle.ps_model.specs.Budgets.{boolean_count}
use Rattle.ps_rows.specs.declared.kinds.KindEntry.{KindEntry}
use Rattle.ps_model.specs.PinBits.{pin_of}

-- An entry says of a kind what the kind's block says.
pub record IsEntryOf (kind : Kind) (entry : KindEntry) : Type 0 where
  pub itself : entry.kind ≡ kind
  pub number : entry.number ≡ (block kind).number
  pub boolean_pins : entry.boolean_pins ≡ boolean_count kind
  pub few_pins : entry.boolean_pins ≤ 13
  pub free_pins : map (pin_of entry.free_pins) (range_with_len 0 (length (block kind).inputs)) ≡ map (λ (p : Pin). p.free) (block kind).inputs
  pub safe_outputs : entry.safe_outputs ≡ length (block kind).outputs
  pub few_outputs : entry.safe_outputs ≤ 9
  pub own_limit : entry.own_limit ≡ (block kind).fixed_limit
