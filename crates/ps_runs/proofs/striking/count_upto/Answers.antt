use Rattle.std.proofs.Common.{◌<◌, ◌≤◌, ◌+◌, length, leb, leb-true, leb-false, subst, sym, arith, rules}
use Rattle.std.proofs.lemmas.List.{get_or-take, get_or-drop, length-take-le, length-drop}
use Rattle.std.proofs.lemmas.List.Sorted.{IsPartitionPoint-from_clause, IsPartitionedBy-leb}
use Rattle.ps_runs.proofs.striking.count_upto.Goals as goal

pub returns-clause-upto : goal.returns-clause-upto
returns-clause-upto g c =
    let scan_of = g.F.Strikes.in_scan in
    let faults = c.args.faults.now in
    let point = IsPartitionPoint-from_clause (λ f. leb (scan_of f) c.args.scan) _ _ c.partition_point.ensures.partitioned
    (IsPartitionedBy-leb scan_of faults c.args.scan c.requires) (λ a r q k. search rules) in
    λ k d lt.
    let inside : k < c.partition_point.result = omega (arith, length-take-le c.partition_point.result faults c.partition_point.ensures.bound, lt) in
    subst (λ f. scan_of f ≤ c.args.scan) (sym (get_or-take c.partition_point.result faults k d inside)) (leb-true _ _ (point.0 k d (omega arith) inside))

pub returns-clause-later : goal.returns-clause-later
returns-clause-later g c =
    let scan_of = g.F.Strikes.in_scan in
    let faults = c.args.faults.now in
    let point = IsPartitionPoint-from_clause (λ f. leb (scan_of f) c.args.scan) _ _ c.partition_point.ensures.partitioned
    (IsPartitionedBy-leb scan_of faults c.args.scan c.requires) (λ a r q k. search rules) in
    λ k d lt.
    let inside : c.partition_point.result + k < length faults = omega (arith, length-drop c.partition_point.result faults, lt) in
    subst (λ f. c.args.scan < scan_of f) (sym (get_or-drop c.partition_point.result faults k d)) (leb-false _ _ (point.1 (c.partition_point.result + k) d (omega arith) inside))
