use Rattle.std.proofs.Common.{position, sym, ap, subst, ◌∙◌, arith}
use Rattle.std.proofs.SliceLists.{all_by_recursion_push}
use Rattle.ps_base.specs.LetterCase.{is_same_name}
use Rattle.ps_names.specs.NameTables.{place_in}
use Rattle.ps_names.proofs.Indexing.{indexes_push}
use Rattle.ps_flatten.specs.Laying.{KnowInputs, KnowsInputs}
use Rattle.ps_flatten.proofs.laid.Laids.with.Goals as goal

pub invariant_of-result : goal.invariant_of-result
invariant_of-result c = (
  λ q.
      indexes_push (λ b. b.interface.name) (place_in c.self.inside.table) (place_in c.enter.new.self) c.self.inside.items.items c.args.laid c.len.result
      (omega (arith, c.len.ensures, c.self.inside.items.ok)) c.self.invariant.0 c.in_ok-enter.ensures.is q
      ∙ ap (position (λ b. is_same_name q b.interface.name.text)) (sym c.in_ok-push.ensures.items),
  subst KnowInputs (sym c.in_ok-push.ensures.items) (all_by_recursion_push KnowsInputs c.self.inside.items.items c.args.laid c.self.invariant.1 c.requires),
)
