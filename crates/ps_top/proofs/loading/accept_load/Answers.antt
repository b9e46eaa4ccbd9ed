use Rattle.std.proofs.Common.{◌≡◌, ◌∙◌, true, Err, refl, ap}
use Rattle.std.specs.Prelude.{codes, is_some}
use Rattle.ps_load.specs.Holding.{held_of}
use Rattle.ps_load.specs.Texts.{app_text}
use Rattle.ps_top.proofs.Counted.{never_fails}
use Rattle.ps_top.proofs.loading.accept_load.Goals as goal

pub returns-in-Ok-clause-accepts : goal.returns-in-Ok-clause-accepts
returns-in-Ok-clause-accepts c = c.accept_text.ensures.decides app_text (c.as_slice.ensures ∙ c.in-Ok.ensures.bytes refl app_text c.requires.held)

pub unreachable-requires : goal.unreachable-requires
unreachable-requires c =
    let now : is_some (held_of c.args.files.now (codes "app")) ≡ true = ap is_some c.requires.held in
    let later : is_some (held_of c.read_upto.new.files (codes "app")) ≡ true = ap (λ held. is_some (held (codes "app"))) c.read_upto.ensures.kept ∙ now in
    never_fails c.args.files.now c.read_upto.new.files (codes "app") now later (c.read_upto.ensures.fault (c.in-Err-Fault.is ∙ ap Err c.in-Err-Fault.field-0-is))
