use Rattle.std.proofs.Common.{◌∙◌, List, Some, ap, slice_get, sym}
use Rattle.std.specs.Prelude.{nat_lt, slice_index_or}
use Rattle.std.proofs.lemmas.Option.{slice_get-get_or}
use Rattle.ps_ways.specs.Tables.{ways_of}
use Rattle.ps_ways.specs.declared.way.Way.{Way}
use Rattle.ps_cover.specs.Lines.{or_text}
use Rattle.ps_cover.proofs.Listings.{one_more}
use Rattle.ps_cover.proofs.Chains.{being}
use Rattle.ps_cover.proofs.guard.add_alternatives.Goals as goal

pub loop-n-preserved : goal.loop-n-preserved
loop-n-preserved c =
    let a = c.args in
    let n = c.loop-n.n in
    let ws = c.ways-ways.result.now in
    one_more (λ m. or_text a.kind a.way.now (nat_lt a.place m) (slice_get (ways_of a.kind) m)) n a.text.now c.loop-n.text _ c.loop-n.invariant
    (being c.loop-n.text (or_text a.kind a.way.now (nat_lt a.place n) (Some (slice_index_or ws n _))) c.in_ok-add_or.ensures
    (ap (or_text a.kind a.way.now (nat_lt a.place n))
    (sym (slice_get-get_or ws n _ c.loop-n-test.true) ∙ ap (λ (vs : List Way). slice_get vs n) c.ways-ways.ensures)))
