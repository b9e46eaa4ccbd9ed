use Rattle.std.proofs.Common.{ap, ◌∙◌, List, ℕ, ◌*◌, arith}
use Rattle.std.proofs.lemmas.List.{with_items_is}
use Rattle.ps_machine.specs.Bytes.{replaced}
use Rattle.ps_model.specs.Stored.{stored as stored_kept}
use Rattle.ps_rows.specs.Counted.{kept_of}
use Rattle.ps_eqvm.specs.Plain.{complement}
use Rattle.ps_eqvm.proofs.Again.{twice}
use Rattle.ps_eqvm.proofs.Complements.{complement_replaced}
use Rattle.ps_eqvm.proofs.StaysPlain.{stored_bytes}
use Rattle.ps_eqvm.proofs.instances.InstanceBytes.put.Goals as goal

pub returns : goal.returns
returns c =
    let at = 16 * c.args.i in
    let stored = c.self.inside.stored.items in
    let new = stored_kept (kept_of c.args.block) in
    ap complement (with_items_is c.self.inside.stored c.store.new.bytes (omega arith) ∙ c.store.ensures ∙ ap (λ (l : List ℕ). replaced l at (complement new)) c.deref_mut.ensures.value)
    ∙ complement_replaced stored at (complement new)
    ∙ ap (λ (l : List ℕ). replaced (complement stored) at l) (twice new (stored_bytes (kept_of c.args.block) (omega arith)))
    ∙ ap (λ (l : List ℕ). replaced l at new) c.self.view_is
