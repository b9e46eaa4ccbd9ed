-- The code units between places of a line.
use Rattle.std.proofs.Common.{◌≡◌, ℕ, ◌+◌, ◌-◌, ◌≤◌, List, ◌++◌, take, drop, sym, ap, ◌∙◌, arith}
use Rattle.std.specs.List.{slice_range}
use Rattle.std.proofs.lemmas.List.{drop-drop}
use Rattle.std.proofs.lemmas.List.Sums.{sum_by-append}
use Rattle.std.proofs.Math.Seq.{take-add}
use Rattle.ps_text.specs.Columns.{unit_width, units}

-- those up to a place, and those from there on
pub units_add : (text : List ℕ) (first mid last : ℕ) → first ≤ mid → mid ≤ last →
    units (slice_range text first mid) + units (slice_range text mid last) ≡ units (slice_range text first last)
units_add text first mid last one two =
    let parts : (mid - first) + (last - mid) ≡ last - first = omega arith in
    let there : first + (mid - first) ≡ mid = omega arith in
    let rest : drop (mid - first) (drop first text) ≡ drop mid text = drop-drop (mid - first) first text ∙ ap (λ (n : ℕ). drop n text) there in
    let whole = ap (λ (n : ℕ). take n (drop first text)) (sym parts) ∙ take-add (mid - first) (last - mid) (drop first text)
    ∙ ap (λ (l : List ℕ). take (mid - first) (drop first text) ++ take (last - mid) l) rest in
    sym (ap units whole ∙ sum_by-append unit_width (slice_range text first mid) (slice_range text mid last))
