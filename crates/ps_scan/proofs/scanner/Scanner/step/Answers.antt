use Rattle.std.proofs.Common.{◌≡◌, ◌<◌, ◌∙◌, length, sym, ap, subst, arith}
use Rattle.std.proofs.lemmas.List.{length-map}
use Rattle.ps_model.specs.Kept.{stepped_at}
use Rattle.ps_model.specs.PinBits.{pin_of}
use Rattle.ps_block.specs.Shown.{Shows}
use Rattle.ps_scan.specs.Instances.{KeptInstance, kept_instance, instance_of}
use Rattle.ps_scan.specs.Cells.{Cells, instance_at}
use Rattle.ps_scan.proofs.Holding.{view_other, view_same, view_at}
use Rattle.ps_scan.proofs.scanner.Scanner.step.Goals as goal

pub returns-clause-other : goal.returns-clause-other
returns-clause-other c = λ j other.
    view_other c.self.inside.instances.items c.args.i j c.step.new.self other ∙ ap (λ (w : Cells). instance_at w j) c.self.view_is

pub returns-clause-moves : goal.returns-clause-moves
returns-clause-moves c =
    let items = c.self.inside.instances.items in
    let inside : c.args.i < length items = omega (arith, c.requires, ap (λ (w : Cells). length w.instances) c.self.view_is, length-map items instance_of) in
    let old : instance_of c.index_mut.result.now ≡ instance_at c.args.self.now c.args.i =
    view_at items c.args.i c.index_mut.result.now inside c.index_mut.ensures.value ∙ ap (λ (w : Cells). instance_at w c.args.i) c.self.view_is in
    view_same items c.args.i c.step.new.self inside
    ∙ c.step.ensures.moves
    ∙ ap (λ (h : KeptInstance). kept_instance h.kind (stepped_at h.kind c.args.pins.limit (pin_of c.args.pins.bits) c.args.pins.now h.kept)) old

pub returns-clause-shows : goal.returns-clause-shows
returns-clause-shows c =
    let items = c.self.inside.instances.items in
    let inside : c.args.i < length items = omega (arith, c.requires, ap (λ (w : Cells). length w.instances) c.self.view_is, length-map items instance_of) in
    let old : instance_of c.index_mut.result.now ≡ instance_at c.args.self.now c.args.i =
    view_at items c.args.i c.index_mut.result.now inside c.index_mut.ensures.value ∙ ap (λ (w : Cells). instance_at w c.args.i) c.self.view_is in
    subst (λ (h : KeptInstance). Shows (instance_at c.args.self.now c.args.i).kind c.step.result h.kept) (sym (view_same items c.args.i c.step.new.self inside))
    (subst (λ (h : KeptInstance). Shows h.kind c.step.result (instance_of c.step.new.self).kept) old c.step.ensures.shows)
