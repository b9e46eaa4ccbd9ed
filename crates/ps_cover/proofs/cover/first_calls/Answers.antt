use Rattle.std.proofs.Common.{◌≡◌, ◌∙◌, ◌++◌, ◌∷◌, [], ap, length, subst, sym, arith, List, map}
use Rattle.std.specs.List.{range_with_len}
use Rattle.std.proofs.lemmas.List.FromFn.{map-range_with_len_more}
use Rattle.ps_cover.specs.Covers.{StandsFor, idle_step}
use Rattle.ps_cover.specs.Covering.{AreCalls}
use Rattle.ps_cover.specs.declared.block.Called.{Called}
use Rattle.ps_model.specs.Meaning.{nothing}
use Rattle.ps_cover.proofs.Calling.{first_are}
use Rattle.ps_cover.proofs.Standing.{begin_stands}
use Rattle.ps_cover.proofs.cover.first_calls.Goals as goal

pub loop-k-preserved : goal.loop-k-preserved
loop-k-preserved c =
    let k = c.loop-k.k in
    c.in_ok-push.ensures.items ∙ ap (λ (cs : List Called). cs ++ c.idle.result ∷ []) c.loop-k.invariant
    ∙ ap (λ (d : Called). map idle_step (range_with_len 0 k) ++ d ∷ []) c.idle.ensures
    ∙ sym (map-range_with_len_more idle_step 0 k k (omega arith))

pub returns-clause-calls : goal.returns-clause-calls
returns-clause-calls c =
    let net = c.args.app.now in
    let all : c.loop-k.k ≡ length net.steps = omega (arith, c.loop-k-test.false, c.loop-k.auto.k-end, c.step_count-k-end.ensures) in
    subst (AreCalls net) (ap (λ n. map idle_step (range_with_len 0 n)) (sym all) ∙ sym c.loop-k.invariant) (first_are net)

pub returns-clause-stands : goal.returns-clause-stands
returns-clause-stands c =
    subst (StandsFor c.args.app.now nothing) (sym c.loop-k.invariant) (begin_stands c.args.app.now c.loop-k.k)
