use Rattle.std.proofs.Common.{position, sym, ap, ◌∙◌, arith}
use Rattle.ps_base.specs.LetterCase.{is_same_name}
use Rattle.ps_names.specs.NameTables.{place_in}
use Rattle.ps_names.proofs.Indexing.{indexes_push}
use Rattle.ps_derived.proofs.interface.Interfaces.with.Goals as goal

pub invariant_of-result : goal.invariant_of-result
invariant_of-result c = λ q.
    indexes_push (λ b. b.name) (place_in c.self.inside.table) (place_in c.enter.new.self) c.self.inside.items.items c.args.interface c.len.result
    (omega (arith, c.len.ensures, c.self.inside.items.ok)) c.self.invariant c.in_ok-enter.ensures.is q
    ∙ ap (position (λ b. is_same_name q b.name.text)) (sym c.in_ok-push.ensures.items)
