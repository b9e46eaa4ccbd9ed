-- The trials of a campaign in two parts.
use Rattle.std.proofs.Common.{◌≡◌, ◌∙◌, ◌+◌, ◌++◌, ◌∷◌, ℕ, zero, suc, map, ap, arith}
use Rattle.std.proofs.lemmas.List.{map-append}
use Rattle.std.specs.List.{range_with_len}
use Rattle.ps_bench_trials.specs.Tallies.{Result_of, all_counted, none_counted}
use Rattle.ps_bench_trials.proofs.TallyAdding.{parts_add}
use Rattle.ps_bench_campaign.specs.Campaigns.{result_of}
use Rattle.ps_bench_campaign.specs.Parts.{PartsAreWhole}

-- numbers in a row, in two parts
in_two : (from first second : ℕ) →
    range_with_len from (first + second) ≡ range_with_len from first ++ range_with_len (from + first) second
in_two from zero second =
    let none : zero + second ≡ second = omega arith in
    let still : from ≡ from + zero = omega arith in
    ap (λ n. range_with_len from n) none ∙ ap (λ a. range_with_len a second) still
in_two from (suc first) second =
    let more : suc first + second ≡ suc (first + second) = omega arith in
    let behind : (from + 1) + first ≡ from + suc first = omega arith in
    ap (λ n. range_with_len from n) more ∙ ap (λ ns. from ∷ ns) (in_two (from + 1) first second)
    ∙ ap (λ a. range_with_len from (suc first) ++ range_with_len a second) behind

pub parts_are_whole : PartsAreWhole
parts_are_whole net m items room from first second =
    let trial : ℕ → Result_of = result_of net m items room in
    ap (λ ns. all_counted none_counted (map trial ns)) (in_two from first second)
    ∙ ap (λ rs. all_counted none_counted rs) (map-append trial (range_with_len from first) (range_with_len (from + first) second))
    ∙ parts_add (map trial (range_with_len from first)) (map trial (range_with_len (from + first) second))
