use Rattle.std.proofs.Common.{◌≡◌, ◌∙◌, ◌++◌, ℕ, Bool, List, ap, false, map}
use Rattle.std.specs.Prelude.{slice_index_or}
use Rattle.ps_model.specs.Exprs.{formula}
use Rattle.ps_why.specs.FactsRead.{fact_of_read}
use Rattle.ps_why.specs.Reasons.{deciding}
use Rattle.ps_why.proofs.Adding.{ok_each}
use Rattle.ps_why.proofs.Readings.{reads_by_list}
use Rattle.ps_why.proofs.scene_reading.expression_facts.Goals as goal

pub returns : goal.returns
returns c =
    let net = c.args.app.now in
    let x = c.args.scene.now in
    let k = c.args.k in
    let e = formula c.args.e.now in
    let of = λ (r : List Bool) (told : List ℕ). map (λ s. fact_of_read net k s (slice_index_or r s false)) told in
    let by = λ (r : List Bool). deciding (λ s. slice_index_or r s false) e in
    let read = c.in_ok-read.read.items in
    let told : c.tell_signals.new.told.items ≡ by read =
    c.in_ok-tell_signals.ensures.adds ∙ ap (λ (l : List ℕ). l ++ by c.as_slice.result.now) c.new-signals.ensures.items ∙ ap by c.as_slice.ensures.value in
    ok_each c.read_facts.result (λ facts is.
    is
    ∙ ap (λ r. of r c.as_slice-2.result.now) c.as_slice-3.ensures.value
    ∙ ap (of read) (c.as_slice-2.ensures.value ∙ told)
    ∙ ap (λ (r : List Bool). of r (by r)) c.in_ok-read.ensures
    ∙ reads_by_list net x c.requires k e) c.read_facts.ensures
