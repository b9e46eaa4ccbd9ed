use Rattle.std.proofs.Common.{arith, ap, ◌∙◌, sym, length, replicate, List, ℕ, ◌-◌}
use Rattle.std.proofs.lemmas.List.{length-map, with_items_is}
use Rattle.ps_eqvm.specs.Plain.{complement}
use Rattle.ps_eqvm.proofs.Complements.{complement_replicate}
use Rattle.ps_eqvm.proofs.instances.InstanceBytes.clear.Goals as goal

pub returns : goal.returns
returns c =
    let stored = c.self.inside.stored.items in
    ap complement (with_items_is c.self.inside.stored c.fill.new.bytes (omega arith) ∙ c.fill.ensures ∙ ap (λ (l : List ℕ). replicate (length l) 255) c.deref_mut.ensures.value)
    ∙ complement_replicate (length stored) 255
    ∙ ap (λ (n : ℕ). replicate n 0) (sym (length-map stored (λ byte. 255 - byte)) ∙ ap length c.self.view_is)
