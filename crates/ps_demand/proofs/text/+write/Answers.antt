use Rattle.std.proofs.Common.{◌≡◌, ℕ, ◌+◌, Bool, true, List, ◌∷◌, ◌++◌, map, drop, sym, ap, ◌∙◌, append-nil, arith}
use Rattle.std.specs.Prelude.{codes, nat_lt}
use Rattle.std.proofs.lemmas.Bool.{lt-ltb}
use Rattle.std.proofs.lemmas.List.{drop_all}
use Rattle.ps_model.proofs.Rest.{rest_at}
use Rattle.ps_demand.specs.declared.demand.Demand.{Demand}
use Rattle.ps_demand.specs.Requirement.{requirements}
use Rattle.ps_demand.specs.Texts.{where_wanted, parts_text}
use Rattle.ps_demand.specs.Views.{requirement}
use Rattle.ps_demand.proofs.Writing.{left_text, nothing_left, part_written}
use Rattle.ps_demand.proofs.text.+write.Goals as goal

pub write_parts-loop-i-init : goal.write_parts-loop-i-init
write_parts-loop-i-init t c =
    ap (λ ds. c.args.bytes.now ++ parts_text c.args.app.now c.args.join (requirements (map requirement ds))) c.deref-part-items.ensures.value

pub write_parts-loop-i-preserved : goal.write_parts-loop-i-preserved
write_parts-loop-i-preserved t c =
    let net = c.args.app.now in
    let join = c.args.join in
    let i = c.loop-i.i in
    let items = c.deref-part-items.result.now in
    let behind = nat_lt 0 i in
    let start = c.loop-i.bytes in
    let next : drop i items ≡ c.part-item.result ∷ drop (i + 1) items = rest_at items i c.part-item.result c.loop-i-test.true c.part-item.is in
    let whole = c.args.bytes.now ++ parts_text net join (requirements (map requirement c.args.parts.now.items.items)) in
    let left : Bool → List Demand → List ℕ = λ more ds. left_text net join more (requirements (map requirement ds)) in
    let written = part_written net join behind (requirement c.part-item.result) (requirements (map requirement (drop (i + 1) items)))
    start c.write_where.new.bytes c.write_where-in-loop-i.new.bytes c.write_demand.new.bytes c.write_where-in-loop-i-2.new.bytes whole
    (c.in_ok-write_where.ensures ∙ ap (λ word. start ++ where_wanted behind word) c.joining_word.ensures)
    (c.in_ok-write_where-2.ensures ∙ ap (λ wanted. c.write_where.new.bytes ++ where_wanted wanted (codes "(")) c.is_group.ensures)
    c.in_ok-write_demand.ensures
    (c.in_ok-write_where-3.ensures ∙ ap (λ wanted. c.write_demand.new.bytes ++ where_wanted wanted (codes ")")) c.is_group-in-loop-i.ensures)
    (ap (λ ds. start ++ left behind ds) (sym next) ∙ c.loop-i.invariant) in
    let later : nat_lt 0 (i + 1) ≡ true = lt-ltb 0 (i + 1) (omega arith) in
    ap (λ more. c.write_where-in-loop-i-2.new.bytes ++ left more (drop (i + 1) items)) later ∙ written

pub write_parts-returns : goal.write_parts-returns
write_parts-returns t c =
    let net = c.args.app.now in
    let join = c.args.join in
    let behind = nat_lt 0 c.loop-i.i in
    let bytes = c.loop-i.bytes in
    sym (append-nil bytes) ∙ ap (λ b. bytes ++ b) (sym (nothing_left net join behind))
    ∙ ap (λ ds. bytes ++ left_text net join behind (requirements (map requirement ds))) (sym (drop_all c.loop-i.i c.deref-part-items.result.now c.loop-i-test.false))
    ∙ c.loop-i.invariant
