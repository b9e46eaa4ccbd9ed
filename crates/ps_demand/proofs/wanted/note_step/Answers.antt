use Rattle.std.proofs.Common.{◌+◌, ℕ, Some, sym, ap, ◌∙◌}
use Rattle.std.specs.List.{flat_map, list_any}
use Rattle.std.proofs.lemmas.Bool.{true≢false}
use Rattle.ps_model.specs.Exprs.{formula}
use Rattle.ps_model.specs.Steps.{action}
use Rattle.ps_model.specs.Values.{reads, values_at_pin}
use Rattle.ps_demand.specs.Wanted.{is_wanted}
use Rattle.ps_demand.proofs.Lasting.{gone_back, is_noted, none_noted, wants_assigned, wants_called}
use Rattle.ps_demand.proofs.wanted.note_step.Goals.{else-is_safe-via-then-is_safe+else-is_wanted_behind, else-is_safe-via-else-is_safe}
use Rattle.ps_demand.proofs.wanted.note_step.Goals as goal

pub returns-then-is_wanted_behind : goal.returns-then-is_wanted_behind
returns-then-is_wanted_behind c first end are =
    let net = c.args.app.now in
    let k = c.args.k in
    let e = formula c.in-Assign.value in
    let old = c.args.last.now.items in
    let new = c.note_value.new.last.items in
    let at = c.step.ensures ∙ ap (λ s. Some (action s)) c.in-Assign.is in
    let has = λ (n : ℕ). reads n e in
    gone_back net k first end old new has are c.note_value.ensures.long c.note_value.ensures.noted
    (wants_assigned net k c.in-Assign.target e new at
    (λ s is wanted inside read. is_noted net k first end old new has are c.note_value.ensures.long c.note_value.ensures.noted s inside read))

pub returns-else-is_safe : goal.returns-else-is_safe
returns-else-is_safe c first end are =
    let net = c.args.app.now in
    let k = c.args.k in
    let e = formula c.in-Assign.value in
    let t = c.in-Assign.target in
    let old = c.args.last.now.items in
    let at = c.step.ensures ∙ ap (λ s. Some (action s)) c.in-Assign.is in
    none_noted net k first end old are
    (wants_assigned net k t e old at
    (λ s is wanted inside read.
    elim c.else-is_safe.branch [
      | else-is_safe-via-then-is_safe+else-is_wanted_behind w ↦
          absurd (true≢false (sym wanted ∙ ap (λ ls. is_wanted ls (k + 1) t) (sym w.as_slice.ensures.value) ∙ sym w.is_wanted_behind.ensures ∙ w.if-is_wanted_behind.false))
      | else-is_safe-via-else-is_safe w ↦ absurd (true≢false (sym is ∙ sym c.is_safe.ensures ∙ w.if-is_safe.false))
    ]))

pub returns-in-Call : goal.returns-in-Call
returns-in-Call c first end are =
    let net = c.args.app.now in
    let k = c.args.k in
    let args = c.in-Call.args in
    let old = c.args.last.now.items in
    let new = c.note_args.new.last.items in
    let at = c.step.ensures ∙ ap (λ s. Some (action s)) c.in-Call.is in
    let has = λ (n : ℕ). list_any (reads n) (flat_map values_at_pin args) in
    gone_back net k first end old new has are c.note_args.ensures.long c.note_args.ensures.noted
    (wants_called net k c.in-Call.instance args new at
    (λ s inside read. is_noted net k first end old new has are c.note_args.ensures.long c.note_args.ensures.noted s inside read))
