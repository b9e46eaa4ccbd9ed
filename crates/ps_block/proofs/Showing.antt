-- What an answer shows, output by output.
use Rattle.std.proofs.Common.{◌≡◌, ℕ, ◌+◌, ◌<◌, Bool, true, false, List, [], ◌∷◌, ◌++◌, length, sym, ap, ◌∙◌, arith, get_or, ◌-◌}
use Rattle.std.specs.Prelude.{map, not, nat_le, slice_index_or}
use Rattle.std.specs.List.{range_with_len}
use Rattle.std.proofs.lemmas.List.{get_or_append_left, get_or-append-add}
use Rattle.std.proofs.lemmas.List.FromFn.{get_or-map-range_with_len, length-map-range_with_len}
use Rattle.ps_model.specs.declared.kind.Kind.{Kind}
use Rattle.std.proofs.lemmas.Bool.{cond-true}
use Rattle.ps_model.specs.Table.{Conditions}
use Rattle.ps_model.specs.Blocks.{block, next, outs, safe_output, ready_in, error_in}
use Rattle.ps_model.specs.Kept.{Kept, seen, stepped_at}
use Rattle.ps_model.specs.Demand.{Demands, demand, are_met}
use Rattle.ps_block.specs.declared.block.Outs.{Outs}
use Rattle.ps_model.specs.PinBits.{pin_of}
use Rattle.ps_block.specs.Shown.{Shows, shown}

-- among the first n
at_first : (f : ℕ → Bool) (n j : ℕ) (rest : List Bool) → j < n → get_or (map f (range_with_len 0 n) ++ rest) j false ≡ f j
at_first f n j rest h =
    get_or_append_left (map f (range_with_len 0 n)) rest false j (let e = length-map-range_with_len f 0 n in omega arith)
    ∙ get_or-map-range_with_len f 0 n j j false h (omega arith)

-- after the first n
behind : (f : ℕ → Bool) (n : ℕ) (r e : Bool) → get_or (map f (range_with_len 0 n) ++ (r ∷ e ∷ [])) (n + 1) false ≡ e
behind f n r e =
    ap (λ m. get_or (map f (range_with_len 0 n) ++ (r ∷ e ∷ [])) (m + 1) false) (sym (length-map-range_with_len f 0 n))
    ∙ get_or-append-add (map f (range_with_len 0 n)) (r ∷ e ∷ []) 1 false

pub safe_shown : (kind : Kind) (o : Outs) (k : Kept) → Shows kind o k → (j : ℕ) → j < length (block kind).outputs → pin_of o.safe j ≡ safe_output kind k.code k.mode j
unfolding outs
safe_shown kind o k h j below =
    let n = length (block kind).outputs in
    sym (at_first (pin_of o.safe) n j (o.diag.ready ∷ o.diag.error ∷ []) below)
    ∙ ap (λ os. get_or os j false) h.outputs
    ∙ at_first (safe_output kind k.code k.mode) n j (ready_in k.code ∷ error_in k.code ∷ []) below

pub error_shown : (kind : Kind) (o : Outs) (k : Kept) → Shows kind o k → o.diag.error ≡ get_or (outs kind k.code k.mode) (length (block kind).outputs + 1) false
error_shown kind o k h =
    let n = length (block kind).outputs in
    sym (behind (pin_of o.safe) n o.diag.ready o.diag.error) ∙ ap (λ os. get_or os (n + 1) false) h.outputs

pub idle_next : (kind : Kind) (q : ℕ) (c : Conditions) → c.pin 0 ≡ false → next kind q c ≡ 0
unfolding next
idle_next kind q c h = cond-true (not (c.pin 0)) 0 _ (ap not h)

module _ (kind : Kind) (limit now : ℕ) (pins : ℕ → Bool) (k k' : Kept) (o : Outs) (moves : k' ≡ stepped_at kind limit pins now k) (shows : Shows kind o k') where
  pub inactive_code : pins 0 ≡ false → o.diag.code ≡ 0
  inactive_code h = shows.code ∙ ap (λ (x : Kept). x.code) moves ∙ idle_next kind k.code (seen kind pins (nat_le limit (now - k.timer)) k) h

  pub inactive_off : ((mode j : ℕ) → slice_index_or (outs kind 0 mode) j false ≡ false) → pins 0 ≡ false →
      (j : ℕ) → slice_index_or (shown (length (block kind).outputs) o) j false ≡ false
  inactive_off off h j =
      ap (λ os. slice_index_or os j false) shows.outputs
      ∙ ap (λ q. slice_index_or (outs kind q k'.mode) j false) (sym shows.code ∙ inactive_code h)
      ∙ off k'.mode j

  pub demand_met : Demands kind → (j : ℕ) → j < length (block kind).outputs → pin_of o.safe j ≡ true → are_met pins (demand kind j) ≡ true
  demand_met each j below on =
      let c = seen kind pins (nat_le limit (now - k.timer)) k in
      each k.code k'.mode j c
      (ap (λ q. safe_output kind q k'.mode j) (sym (ap (λ (x : Kept). x.code) moves)) ∙ sym (safe_shown kind o k' shows j below) ∙ on)
