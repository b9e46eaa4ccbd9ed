-- A run of the application that is as long as a shortest one of a part.
use Rattle.std.proofs.Common.{◌≡◌, ◌≤◌, ◌+◌, ℕ, suc, Bool, List, [], ◌∷◌, length, map, refl, sym, ap, subst, ◌∙◌}
use Rattle.std.proofs.lemmas.List.{length-map}
use Rattle.ps_model.specs.Network.{Network}
use Rattle.ps_model.specs.Sound.{IsSound}
use Rattle.ps_reach.specs.Promised.{EndsMeeting, IsWitness}
use Rattle.ps_reach.specs.Asking.{at_first}
use Rattle.ps_reach.specs.Telling.{inputs_from, items_of, scans_at}
use Rattle.ps_reach.specs.Tracing.{inputs_in}
use Rattle.ps_reach.specs.declared.asked.Asked.{Asked}
use Rattle.ps_reach.specs.declared.tracing.ScanInputs.{ScanInputs}
use Rattle.ps_cut.specs.Cutting.{IsCutOf}
use Rattle.ps_cut.specs.declared.cutting.Cut.{Cut}
use Rattle.ps_cut.proofs.Whole.{parts_show_shortest}

-- as many items as scans
scans_count : (now every : ℕ) (scans : List (List Bool)) → length (scans_at now every scans) ≡ length scans
scans_count now every [] = refl
scans_count now every (ins ∷ rest) = ap suc (scans_count (now + every) every rest)

-- a run that meets the rule of the application and has as many scans as a shortest one that meets that of the part
pub witness_of : (net : Network) (q : Asked) (rule : ℕ) (cut : Cut) → IsCutOf net q rule cut → IsSound net → IsSound cut.part.app → (path : List ℕ) →
    IsWitness cut.part.app cut.asked 0 (items_of cut.part.app cut.asked path) → (of_part run : List ScanInputs) →
    map inputs_in of_part ≡ inputs_from cut.part.app cut.asked (at_first cut.part.app) path → length run ≡ length of_part →
    EndsMeeting net q rule (scans_at 0 q.every (map inputs_in run)) → IsWitness net q rule (scans_at 0 q.every (map inputs_in run))
witness_of net q rule cut is sound whole path shortest of_part run inputs same ends =
    let scans = inputs_from cut.part.app cut.asked (at_first cut.part.app) path in
    let count : length (items_of cut.part.app cut.asked path) ≡ length (scans_at 0 q.every (map inputs_in run)) =
    scans_count 0 cut.asked.every scans ∙ ap length (sym inputs) ∙ length-map of_part inputs_in ∙ sym same ∙ sym (length-map run inputs_in)
    ∙ sym (scans_count 0 q.every (map inputs_in run)) in
    parts_show_shortest net cut.part.app sound whole cut.part.origins.items cut.part.instances.items is.part q cut.asked rule 0 is.asks
    (scans_at 0 q.every (map inputs_in run)) ends
    (λ other ends'. subst (λ n. n ≤ length other) count (shortest.shortest other ends'))
