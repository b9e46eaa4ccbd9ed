use Rattle.std.proofs.Common.{◌≡◌, ◌∙◌, ◌++◌, ◌<◌, ◌≤◌, ℕ, List, [], length, slice_get, ap, sym, subst}
use Rattle.std.specs.Prelude.{slice_index_or}
use Rattle.std.proofs.lemmas.List.{append-nil}
use Rattle.std.proofs.lemmas.Option.{slice_get-get_or, slice_get_past}
use Rattle.ps_cover.proofs.Chains.{being, carry}
use Rattle.ps_model.specs.Action.{Actual}
use Rattle.ps_model.specs.Network.{Network, kind_at}
use Rattle.ps_ways.specs.Tables.{ways_of}
use Rattle.ps_ways.specs.declared.way.Way.{Way}
use Rattle.ps_bench_cover.specs.Ideas.{idea_if, way_idea}
use Rattle.ps_bench_cover.proofs.ideas.add_mark_of.Goals as goal

module _ (net : Network) (i : ℕ) (args : List Actual) (mark : ℕ) (ws : List Way) (are : ws ≡ ways_of (kind_at net i)) where
  of_way : mark < length ws → (d : Way) → way_idea net i args (slice_index_or ws mark d) ≡ idea_if net i args (slice_get (ways_of (kind_at net i)) mark)
  of_way within d = ap (idea_if net i args) (sym (slice_get-get_or ws mark d within) ∙ ap (λ (vs : List Way). slice_get vs mark) are)

  of_none : length ws ≤ mark → idea_if net i args (slice_get (ways_of (kind_at net i)) mark) ≡ []
  of_none past = ap (idea_if net i args) (slice_get_past (ways_of (kind_at net i)) mark (subst (λ (vs : List Way). length vs ≤ mark) are past))

pub returns-then-mark-ways : goal.returns-then-mark-ways
returns-then-mark-ways c =
    let a = c.args in
    let ws = c.ways-ways.result.now in
    carry c.add_way_idea.result
    (λ last. being a.text.now (way_idea a.app.now a.instance a.args.now (slice_index_or ws a.mark _)) last
    (of_way a.app.now a.instance a.args.now a.mark ws (c.ways-ways.ensures ∙ ap ways_of c.instance_kind.ensures) c.if-mark-ways.true _))
    c.add_way_idea.ensures

pub returns : goal.returns
returns c =
    let a = c.args in
    sym (ap (λ (line : List ℕ). a.text.now ++ line) (of_none a.app.now a.instance a.args.now a.mark c.ways-ways.result.now (c.ways-ways.ensures ∙ ap ways_of c.instance_kind.ensures) c.if-mark-ways.false)
    ∙ append-nil a.text.now)
