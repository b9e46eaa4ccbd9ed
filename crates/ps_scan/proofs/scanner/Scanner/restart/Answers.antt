use Rattle.std.proofs.Common.{◌∙◌, List, length, map, ap, arith}
use Rattle.std.proofs.lemmas.List.{with_items_is}
use Rattle.ps_model.specs.Network.{signal_count}
use Rattle.ps_scan.specs.Cells.{Cells}
use Rattle.ps_scan.specs.Instances.{instance_of}
use Rattle.ps_scan.specs.declared.instance.Instance.{Instance}
use Rattle.ps_scan.proofs.Showing.{all_false}
use Rattle.ps_scan.proofs.Ending.{stands_first}
use Rattle.ps_scan.proofs.scanner.Scanner.restart.Goals as goal

pub returns-clause-first : goal.returns-clause-first
returns-clause-first c =
    stands_first c.args.app.now _
    (with_items_is c.self.inside.signals c.clear.new.signals (c.clear.ensures.len ∙ c.as_mut_slice.ensures.len)
    ∙ all_false (signal_count c.args.app.now) c.clear.new.signals
    (omega (arith, c.clear.ensures.len, ap length c.as_mut_slice.ensures.value, ap (λ (w : Cells). length w.signals) c.self.view_is, c.requires.sizes.signal_each)) c.clear.ensures.each)
    (ap (λ (is : List Instance). map instance_of is) (with_items_is c.self.inside.instances c.renew.new.instances (c.renew.ensures.len ∙ c.as_mut_slice-2.ensures.len))
    ∙ c.renew.ensures.instances)
