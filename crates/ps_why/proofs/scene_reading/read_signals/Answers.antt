use Rattle.std.proofs.Common.{◌≡◌, ◌∙◌, ◌++◌, ◌∷◌, [], Bool, List, ap, sym, arith, map}
use Rattle.std.specs.List.{range_with_len}
use Rattle.std.proofs.lemmas.List.FromFn.{map-range_with_len_more}
use Rattle.ps_model.specs.Network.{signal_count}
use Rattle.ps_why.specs.Scenes.{read_in}
use Rattle.ps_why.proofs.scene_reading.read_signals.Goals as goal

pub loop-s-preserved : goal.loop-s-preserved
loop-s-preserved c =
    let k = c.loop-s.s in
    let f = read_in c.args.app.now c.args.scene.now c.args.k in
    c.in_ok-push.ensures.items ∙ ap (λ (bs : List Bool). bs ++ c.read_signal.result ∷ []) c.loop-s.invariant
    ∙ ap (λ b. map f (range_with_len 0 k) ++ b ∷ []) c.read_signal.ensures
    ∙ sym (map-range_with_len_more f 0 k k (omega arith))

pub returns : goal.returns
returns c =
    let all : c.loop-s.s ≡ signal_count c.args.app.now = omega (arith, c.loop-s-test.false, c.loop-s.auto.s-end, c.signal_count-s-end.ensures) in
    c.loop-s.invariant ∙ ap (λ n. map (read_in c.args.app.now c.args.scene.now c.args.k) (range_with_len 0 n)) all
