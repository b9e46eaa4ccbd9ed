use Rattle.std.proofs.Common.{◌≡◌, ◌+◌, ◌++◌, ◌∷◌, [], take, ◌||◌, ◌&&◌, cond, refl, map, append-nil, drop, length, ap, sym, ◌∙◌, arith}
use Rattle.std.proofs.lemmas.List.{drop_all}
use Rattle.std.proofs.lemmas.Result.{IfOk-weaker, on_ok_weaker}
use Rattle.ps_model.specs.Exprs.{formula, operands}
use Rattle.ps_model.specs.Formula.{all_of, any_of, operand}
use Rattle.ps_model.specs.Network.{signal_count}
use Rattle.ps_model.specs.Nodes.{nodes, nodes_below}
use Rattle.ps_model.specs.Typing.{safe, some_safe, each_safe}
use Rattle.ps_model.proofs.Formulas.{formula-Signal, formula-And, formula-Or}
use Rattle.ps_flow.specs.Derivation.{derivation, of_first_safe, of_each, last_lines}
use Rattle.ps_flow.proofs.Groups.{operands_at, nodes_left, below_left, room_left, some_counted, each_counted, or_none, and_all, stayed_on, stayed_off, kept_more, root_of_and, root_of_or, few, some_more, first_lines, first_rest, each_more, each_lines, each_premises}
use Rattle.ps_flow.proofs.flow.+value.Goals as goal
use Rattle.ps_flow.proofs.flow.+value.Goals.{derive_first-then-safe, derive_first-else-safe+in_ok-d, derive_each-then-all_safe+in_ok-d+in_ok-push, derive_each-else-all_safe}

pub derive_value-returns-in-Signal : goal.derive_value-returns-in-Signal
derive_value-returns-in-Signal t c =
    let whole = ap formula c.in-Signal.is ∙ formula-Signal c.in-Signal.s in
    rw whole (record { safe = c.derive_signal.ensures.safe; after = c.derive_signal.ensures.after; lines = c.derive_signal.ensures.lines })

pub derive_value-returns-in_ok-d-in-And : goal.derive_value-returns-in_ok-d-in-And
derive_value-returns-in_ok-d-in-And t c =
    let net = c.args.app.now in
    let old = c.args.cert.now in
    let es = operands (map formula c.deref.result.now) in
    let whole : formula c.args.e.now ≡ all_of es = rw (c.in-And.is, formula-And, c.deref.ensures.value) refl in
    let long = ap (λ f. length (nodes f)) whole in
    let d = c.in_ok-d-in-And.d in
    record {
      safe = IfOk-weaker c.end_and.result (λ r. r ≡ d) (λ r. r.safe ≡ safe net (formula c.args.e.now))
          (λ r same. ap (λ x. x.safe) same ∙ c.in_ok-d-in-And.ensures.safe ∙ sym (ap (safe net) whole)) c.end_and.ensures.derived;
      after = IfOk-weaker c.end_and.result (λ r. r ≡ d) (λ r. r.after ≡ c.args.node + length (nodes (formula c.args.e.now)))
          (λ r same. let is = ap (λ x. x.after) same ∙ c.in_ok-d-in-And.ensures.after in omega (arith, is, long)) c.end_and.ensures.derived;
      lines = on_ok_weaker c.end_and.result (λ more. root_of_and (some_safe net es) d.safe old c.derive_first.new.cert c.end_and.new.cert
          (of_first_safe net (length old) (c.args.node + 1) es) c.args.node c.in_ok-d-in-And.ensures.safe c.in_ok-d-in-And.ensures.lines more
          ∙ sym (ap (λ f. old ++ cond (safe net f) (derivation net (length old) c.args.node f) []) whole)) c.end_and.ensures.lines;
    }

pub derive_value-returns-in_ok-d-in-Or : goal.derive_value-returns-in_ok-d-in-Or
derive_value-returns-in_ok-d-in-Or t c =
    let net = c.args.app.now in
    let old = c.args.cert.now in
    let es = operands (map formula c.deref-in-Or.result.now) in
    let whole : formula c.args.e.now ≡ any_of es = rw (c.in-Or.is, formula-Or, c.deref-in-Or.ensures.value) refl in
    let long = ap (λ f. length (nodes f)) whole in
    let d = c.in_ok-d-in-Or.d in
    record {
      safe = IfOk-weaker c.end_or.result (λ r. r ≡ d) (λ r. r.safe ≡ safe net (formula c.args.e.now))
          (λ r same. ap (λ x. x.safe) same ∙ c.in_ok-d-in-Or.ensures.safe ∙ sym (ap (safe net) whole)) c.end_or.ensures.derived;
      after = IfOk-weaker c.end_or.result (λ r. r ≡ d) (λ r. r.after ≡ c.args.node + length (nodes (formula c.args.e.now)))
          (λ r same. let is = ap (λ x. x.after) same ∙ c.in_ok-d-in-Or.ensures.after in omega (arith, is, long)) c.end_or.ensures.derived;
      lines = on_ok_weaker c.end_or.result (λ more. root_of_or (each_safe net es) d.safe old c.derive_each.new.cert c.end_or.new.cert
          (of_each net (length old) (c.args.node + 1) es) c.args.node c.len-before.result c.derive_each.new.premises (last_lines net (length old) (c.args.node + 1) es)
          c.in_ok-d-in-Or.ensures.safe c.len-before.ensures.count c.in_ok-d-in-Or.ensures.kept c.in_ok-d-in-Or.ensures.lines
          (λ on. c.in_ok-d-in-Or.ensures.premises on ∙ ap (λ ps. ps ++ last_lines net (length old) (c.args.node + 1) es) c.new-premises.ensures) more
          ∙ sym (ap (λ f. old ++ cond (safe net f) (derivation net (length old) c.args.node f) []) whole)) c.end_or.ensures.lines;
    }

pub derive_first-loop-x-preserved : goal.derive_first-loop-x-preserved
derive_first-loop-x-preserved t c =
    let net = c.args.app.now in
    let old = c.args.cert.now in
    let all = c.args.all.now in
    let i = c.loop-x.x-index in
    let e = formula c.x-item.result in
    let left = operands (map formula (drop i all)) in
    let more = operands (map formula (drop (i + 1) all)) in
    let next : left ≡ operand e more = operands_at all i c.x-item.result c.loop-x-test.true c.x-item.is in
    let before = c.loop-x.invariant in
    let count = nodes_left left more e next in
    let below = below_left (signal_count net) left more e next before.below in
    elim c.if-safe.branch [
      | derive_first-then-safe w ↦
          record {
            below = below;
            room = let same = ap length w.cert-is in omega (arith, count, same, before.room);
            place = omega (arith, count, w.after-is, w.node_count-after.ensures, before.place);
            decided = some_counted _ _ _ _ w.if-safe.true before.decided ∙ ap (λ x. x || some_safe net more) (sym w.safe-is);
            lines = w.cert-is ∙ before.lines ∙ ap (λ x. old ++ cond x (of_first_safe net (length old) c.args.node (operands (map formula all))) []) (sym w.safe-is);
            rest = stayed_on c.loop-x.safe c.if-safe.safe _ _ w.safe-is w.if-safe.true;
          }
      | derive_first-else-safe+in_ok-d w ↦
          let d = w.in_ok-d.d in
          let written = w.cert-is ∙ w.in_ok-d.ensures.lines in
          let is = w.safe-is ∙ w.in_ok-d.ensures.safe in
          let place = w.after-is ∙ w.in_ok-d.ensures.after in
          record {
            below = below;
            room = room_left c.loop-x.cert c.if-safe.cert _ _ left more e next written (few net (safe net e) (length c.loop-x.cert) c.loop-x.after e) before.room;
            place = omega (arith, count, place, before.place);
            decided = some_more net c.loop-x.safe c.if-safe.safe _ left more e next w.if-safe.false is before.decided;
            lines = first_lines net c.loop-x.safe c.if-safe.safe old c.loop-x.cert c.if-safe.cert c.args.node c.loop-x.after (operands (map formula all)) left more e next w.if-safe.false is before.lines before.rest written;
            rest = first_rest net c.loop-x.safe c.if-safe.safe (length old) c.args.node c.loop-x.after c.if-safe.after (operands (map formula all)) left more e next w.if-safe.false is place before.rest;
          }
    ]

pub derive_first-returns : goal.derive_first-returns
derive_first-returns t c =
    let net = c.args.app.now in
    let old = c.args.cert.now in
    let all = operands (map formula c.args.all.now) in
    let none : drop c.loop-x.x-index c.args.all.now ≡ [] = drop_all c.loop-x.x-index c.args.all.now c.loop-x-test.false in
    let count = ap (λ es. length (nodes_below (operands (map formula es)))) none in
    let is : c.loop-x.safe ≡ some_safe net all =
    sym (c.loop-x.invariant.decided ∙ ap (λ es. c.loop-x.safe || some_safe net (operands (map formula es))) none ∙ or_none c.loop-x.safe) in
    record {
      safe = is;
      after = omega (arith, count, c.loop-x.invariant.place);
      room = omega (arith, count, c.loop-x.invariant.room);
      lines = c.loop-x.invariant.lines ∙ ap (λ x. old ++ cond x (of_first_safe net (length old) c.args.node all) []) is;
    }

pub derive_each-loop-x-preserved : goal.derive_each-loop-x-preserved
derive_each-loop-x-preserved t c =
    let net = c.args.app.now in
    let old = c.args.cert.now in
    let all = c.args.all.now in
    let i = c.loop-x.x-index in
    let e = formula c.x-item.result in
    let left = operands (map formula (drop i all)) in
    let more = operands (map formula (drop (i + 1) all)) in
    let next : left ≡ operand e more = operands_at all i c.x-item.result c.loop-x-test.true c.x-item.is in
    let before = c.loop-x.invariant in
    let count = nodes_left left more e next in
    let below = below_left (signal_count net) left more e next before.below in
    elim c.if-all_safe.branch [
      | derive_each-then-all_safe+in_ok-d+in_ok-push w ↦
          let written = w.cert-is ∙ w.in_ok-d.ensures.lines in
          let is = w.all_safe-is ∙ w.in_ok-d.ensures.safe in
          let place = w.after-is ∙ w.in_ok-d.ensures.after in
          let pushed : c.if-all_safe.premises ≡ c.loop-x.premises ++ length c.if-all_safe.cert ∷ [] = w.premises-is ∙ w.in_ok-push.ensures.ok ∙ ap (λ n. c.loop-x.premises ++ n ∷ []) (w.len.ensures.count ∙ sym (ap length w.cert-is)) in
          record {
            below = below;
            room = room_left c.loop-x.cert c.if-all_safe.cert _ _ left more e next written (few net (safe net e) (length c.loop-x.cert) c.loop-x.after e) before.room;
            place = omega (arith, count, place, before.place);
            decided = each_more net c.loop-x.all_safe c.if-all_safe.all_safe _ left more e next w.if-all_safe.true is before.decided;
            kept = ap (λ l. take (length old) l) written ∙ kept_more old c.loop-x.cert _ before.kept;
            lines = each_lines net c.loop-x.all_safe c.if-all_safe.all_safe c.loop-x.cert c.if-all_safe.cert _ c.loop-x.after c.if-all_safe.after left more e next w.if-all_safe.true is place before.lines written;
            premises = each_premises net c.loop-x.all_safe c.if-all_safe.all_safe c.loop-x.cert c.if-all_safe.cert c.loop-x.premises c.if-all_safe.premises _ c.loop-x.after c.if-all_safe.after left more e next w.if-all_safe.true is place before.premises written pushed;
          }
      | derive_each-else-all_safe w ↦
          record {
            below = below;
            room = let same = ap length w.cert-is in omega (arith, count, same, before.room);
            place = omega (arith, count, w.after-is, w.node_count-after.ensures, before.place);
            decided = each_counted _ _ _ _ w.if-all_safe.false before.decided ∙ ap (λ x. x && each_safe net more) (sym w.all_safe-is);
            kept = ap (λ l. take (length old) l) w.cert-is ∙ before.kept;
            lines = stayed_off c.loop-x.all_safe c.if-all_safe.all_safe _ _ w.all_safe-is w.if-all_safe.false;
            premises = stayed_off c.loop-x.all_safe c.if-all_safe.all_safe _ _ w.all_safe-is w.if-all_safe.false;
          }
    ]

pub derive_each-returns : goal.derive_each-returns
derive_each-returns t c =
    let net = c.args.app.now in
    let all = operands (map formula c.args.all.now) in
    let none : drop c.loop-x.x-index c.args.all.now ≡ [] = drop_all c.loop-x.x-index c.args.all.now c.loop-x-test.false in
    let count = ap (λ es. length (nodes_below (operands (map formula es)))) none in
    let is : c.loop-x.all_safe ≡ each_safe net all =
    sym (c.loop-x.invariant.decided ∙ ap (λ es. c.loop-x.all_safe && each_safe net (operands (map formula es))) none ∙ and_all c.loop-x.all_safe) in
    record {
      safe = is;
      after = omega (arith, count, c.loop-x.invariant.place);
      room = omega (arith, count, c.loop-x.invariant.room);
      kept = c.loop-x.invariant.kept;
      lines = λ on. sym (append-nil c.loop-x.cert)
          ∙ sym (ap (λ es. c.loop-x.cert ++ of_each net (length c.loop-x.cert) c.loop-x.after (operands (map formula es))) none) ∙ c.loop-x.invariant.lines (is ∙ on);
      premises = λ on. sym (append-nil c.loop-x.premises)
          ∙ sym (ap (λ es. c.loop-x.premises ++ last_lines net (length c.loop-x.cert) c.loop-x.after (operands (map formula es))) none)
          ∙ c.loop-x.invariant.premises (is ∙ on);
    }
