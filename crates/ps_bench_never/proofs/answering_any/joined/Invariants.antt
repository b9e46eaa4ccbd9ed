use Rattle.std.proofs.Common.{◌≡◌, ◌++◌, ◌&&◌, drop}
use Rattle.std.specs.List.{flat_map, list_all}
use Rattle.ps_bench_never.specs.declared.answering.Told.{Told}
use Rattle.ps_bench_never.proofs.answering_any.joined.Given as goal

-- the text so far and that of what is left are all of it, and so of whether all hold
abbrev pub invariant-loop-told : goal.invariant-loop-told
invariant-loop-told l =
    (l.text ++ flat_map (λ (t : Told). t.text) (drop l.told-index l.tolds) ≡ flat_map (λ (t : Told). t.text) l.tolds)
    × ((l.do_all_hold && list_all (λ (t : Told). t.do_all_hold) (drop l.told-index l.tolds)) ≡ list_all (λ (t : Told). t.do_all_hold) l.tolds)
