use Rattle.std.proofs.Common.{rules}
use Rattle.std.proofs.Common.{sym, ◌∙◌, subst, is_some, ◌≡◌, false}
use Rattle.std.specs.Str.{bytes_eq}
use Rattle.indexmap.specs.IndexMap.{get_by}
use Rattle.ps_names.proofs.Indexing.{place_entered}
use Rattle.ps_names.proofs.table.Table.enter.Goals as goal

pub returns-clause-is : goal.returns-clause-is
returns-clause-is c = λ q.
    place_entered (λ k. k.items) c.args.self.now.places c.insert.new.self c.in_ok-key.key c.args.at c.args.name.now.text q
    (subst (λ s. is_some (get_by (λ k. bytes_eq s k.items) c.args.self.now.places) ≡ false) c.as_slice-2.ensures.value (sym c.contains_key.ensures ∙ c.if-contains_key.false))
    c.in_ok-insert.ensures.entries (search rules)
