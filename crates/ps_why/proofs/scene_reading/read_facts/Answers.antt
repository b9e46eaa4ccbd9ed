use Rattle.std.proofs.Common.{◌≡◌, ◌∙◌, ◌++◌, ◌∷◌, [], ℕ, List, ap, sym, arith, drop, map, false, append-nil}
use Rattle.std.specs.Prelude.{slice_index_or}
use Rattle.std.proofs.lemmas.Grind.{common_steps}
use Rattle.std.proofs.lemmas.List.{get_or_default}
use Rattle.ps_why.specs.FactsRead.{fact_of_read}
use Rattle.ps_why.specs.declared.fact.Fact.{Fact}
use Rattle.ps_why.proofs.Adding.{map_rest}
use Rattle.ps_why.proofs.scene_reading.read_facts.Goals as goal

pub loop-s-preserved : goal.loop-s-preserved
loop-s-preserved c =
    let f = λ (s : ℕ). fact_of_read c.args.app.now c.args.k s (slice_index_or c.args.read.now s false) in
    let x = slice_index_or c.args.signals.now c.loop-s.s-index 0 in
    map_rest f c.args.signals.now c.loop-s.s-index x c.loop-s.facts.items c.push.new.self.items c.loop-s.invariant c.loop-s-test.true
    (get_or_default c.args.signals.now c.loop-s.s-index 0 x c.loop-s-test.true)
    (c.in_ok-push.ensures.items ∙ ap (λ (z : Fact). c.loop-s.facts.items ++ z ∷ []) (c.read_fact.ensures ∙ ap (fact_of_read c.args.app.now c.args.k x) c.bit_at.ensures))

pub returns : goal.returns
returns c =
    let f = λ (s : ℕ). fact_of_read c.args.app.now c.args.k s (slice_index_or c.args.read.now s false) in
    let end : drop c.loop-s.s-index c.args.signals.now ≡ [] = grind (arith, common_steps) in
    sym (append-nil c.loop-s.facts.items) ∙ sym (ap (λ (l : List ℕ). c.loop-s.facts.items ++ map f l) end) ∙ c.loop-s.invariant
