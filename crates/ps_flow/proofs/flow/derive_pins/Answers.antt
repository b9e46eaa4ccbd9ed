use Rattle.std.proofs.Common.{arith, ap, ◌∙◌, sym, ◌≡◌, ◌+◌, ◌∷◌, ◌<◌, length, drop}
use Rattle.std.proofs.lemmas.Grind.{common_steps}
use Rattle.ps_model.specs.Action.{free}
use Rattle.ps_model.specs.Args.{actual}
use Rattle.ps_model.specs.Blocks.{block}
use Rattle.ps_model.specs.Scanning.{pin_at, no_pin}
use Rattle.ps_model.specs.Network.{kind_at, signal_count}
use Rattle.ps_model.specs.Values.{IsBelow, values_at_pin}
use Rattle.ps_model.specs.Typing.{MayStand}
use Rattle.ps_flow.specs.declared.refusal.PinFail.TheVariants.{Breaks}
use Rattle.std.specs.Prelude.{slice_index_or}
use Rattle.ps_flow.proofs.Short.{short_at_pin}
use borrow.Author.Count.{below_more}
use Rattle.ps_flow.proofs.Walk.{part_of, rest_found, rest_or, found_or, pins_step, stands_moved, breaks_moved}
use Rattle.ps_flow.proofs.flow.derive_pins.Goals as goal

pub derive_pin-requires-clause-nodes : goal.derive_pin-requires-clause-nodes
derive_pin-requires-clause-nodes c =
    let next = rest_found c.args.args.now c.loop-j.j (actual c.at-arg.result.now) c.at-arg.ensures in
    grind (arith, common_steps)

pub derive_pin-requires-clause-lines : goal.derive_pin-requires-clause-lines
derive_pin-requires-clause-lines c =
    let next = rest_found c.args.args.now c.loop-j.j (actual c.at-arg.result.now) c.at-arg.ensures in
    grind (arith, common_steps)

pub derive_pin-requires-clause-below : goal.derive_pin-requires-clause-below
derive_pin-requires-clause-below c =
    part_of (IsBelow (signal_count c.args.app.now)) values_at_pin c.args.args.now c.loop-j.j (actual c.at-arg.result.now) c.requires.below c.at-arg.ensures

pub returns-in-Err-Breaks-clause-breaks : goal.returns-in-Err-Breaks-clause-breaks
returns-in-Err-Breaks-clause-breaks c =
    let ty : c.input_type.result ≡ (pin_at (kind_at c.args.app.now c.args.i) c.loop-j.j).ty =
    c.input_type.ensures ∙ ap (λ k. (pin_at k c.loop-j.j).ty) c.instance_kind-kind.ensures in (
      omega (arith, c.input_count-j-end.ensures, ap (λ k. length (block k).inputs) c.instance_kind-kind.ensures),
      breaks_moved c.args.app.now c.input_type.result _ (actual c.at-arg.result.now) _ c.in-Err-Breaks.field-0 _ ty
          (found_or c.args.args.now c.loop-j.j (actual c.at-arg.result.now) free c.at-arg.ensures)
          (c.in-Err-Breaks.field-0-is ∙ ap (λ r. Breaks r) (sym c.in-Err-Breaks.rule-is)) (c.in-Err-Breaks.ensures.breaks),
      c.loop-j.invariant.fits,
    )

pub loop-j-preserved : goal.loop-j-preserved
loop-j-preserved c =
    let kind : c.instance_kind-kind.result ≡ kind_at c.args.app.now c.args.i = c.instance_kind-kind.ensures in
    let ty : c.input_type.result ≡ (pin_at (kind_at c.args.app.now c.args.i) c.loop-j.j).ty =
    c.input_type.ensures ∙ ap (λ k. (pin_at k c.loop-j.j).ty) kind in
    let inside : c.loop-j.j < length (block (kind_at c.args.app.now c.args.i)).inputs =
    omega (arith, c.input_count-j-end.ensures, ap (λ k. length (block k).inputs) kind) in
    let next = rest_found c.args.args.now c.loop-j.j (actual c.at-arg.result.now) c.at-arg.ensures in
    let pins : drop c.loop-j.j (block (kind_at c.args.app.now c.args.i)).inputs
    ≡ pin_at (kind_at c.args.app.now c.args.i) c.loop-j.j ∷ drop (c.loop-j.j + 1) (block (kind_at c.args.app.now c.args.i)).inputs =
    rest_or (block (kind_at c.args.app.now c.args.i)).inputs c.loop-j.j no_pin inside in
    record {
      fits = below_more (λ j. MayStand c.args.app.now (pin_at (kind_at c.args.app.now c.args.i) j).ty (slice_index_or c.args.args.now j free)) c.loop-j.j c.loop-j.invariant.fits
          (stands_moved c.args.app.now c.input_type.result _ (actual c.at-arg.result.now) _ ty
          (found_or c.args.args.now c.loop-j.j (actual c.at-arg.result.now) free c.at-arg.ensures) c.in-Ok.ensures.fits);
      place = grind (arith, common_steps);
      room =
          let few = short_at_pin c.args.app.now (length c.loop-j.cert) c.loop-j.after c.input_type.result (actual c.at-arg.result.now) in
          grind (arith, common_steps);
      lines = pins_step c.args.app.now c.loop-j.cert c.derive_pin.new.cert c.loop-j.after c.in-Ok.next c.input_type.result (pin_at (kind_at c.args.app.now c.args.i) c.loop-j.j) _ _
          (actual c.at-arg.result.now) _ _ pins next ty c.in-Ok.ensures.after c.in-Ok.ensures.lines ∙ c.loop-j.invariant.lines;
    }
