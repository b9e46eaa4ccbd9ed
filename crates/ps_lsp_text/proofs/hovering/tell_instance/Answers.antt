use Rattle.std.proofs.Common.{◌++◌, codes, refl}
use Rattle.ps_lsp_text.specs.Describing.{kind_text}
use Rattle.ps_lsp_text.proofs.Growing.{extends_both}
use Rattle.ps_lsp_text.proofs.hovering.tell_instance.Goals as goal

pub returns : goal.returns
returns c =
    let told = c.tell_driver.ensures in
    let driver = told.0 in
    let kind = kind_text c.args.kind in
    let end = c.add_kind.new.text in (
      codes ", an instance" ++ (driver ++ (codes "\n\n" ++ kind)),
      record { driver = driver; driven = told.1; is = refl },
      extends_both c.args.words.now c.add.new.self end (codes ", an instance") (driver ++ (codes "\n\n" ++ kind)) c.add.ensures
          (extends_both c.add.new.self c.tell_driver.new.words end driver (codes "\n\n" ++ kind) told.2
          (extends_both c.tell_driver.new.words c.add-2.new.self end (codes "\n\n") kind c.add-2.ensures c.add_kind.ensures)),
    )
