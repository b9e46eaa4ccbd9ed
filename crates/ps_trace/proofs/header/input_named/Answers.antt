use Rattle.std.proofs.Common.{◌≡◌, ◌<◌, ◌∙◌, [], get_or, true, false, sym, ap, arith}
use Rattle.ps_base.specs.LetterCase.{is_same_name}
use Rattle.ps_model.specs.Network.{input_count}
use Rattle.ps_trace.specs.Header.{input_names}
use Rattle.ps_trace.proofs.HeaderLemmas.{same_name, input_name, input_names-length, name_found, name_passed}
use Rattle.ps_trace.proofs.header.input_named.Goals as goal

pub returns-then-eq_ignore_ascii_case-clause-named : goal.returns-then-eq_ignore_ascii_case-clause-named
returns-then-eq_ignore_ascii_case-clause-named c =
    let names = input_names c.args.app.now in
    let within : c.loop-i.i < input_count c.args.app.now = omega arith in
    let name : get_or names c.loop-i.i [] ≡ c.as_bytes.result.now = input_name c.args.app.now c.loop-i.i within ∙ sym c.signal_name.ensures ∙ sym c.as_bytes.ensures.value in
    let same : is_same_name c.args.word.now (get_or names c.loop-i.i []) ≡ true =
    ap (is_same_name c.args.word.now) name ∙ same_name c.eq_ignore_ascii_case.result c.args.word.now c.as_bytes.result.now c.eq_ignore_ascii_case.ensures.test ∙ c.if-eq_ignore_ascii_case.true in
    sym (c.loop-i.invariant ∙ name_found names c.args.word.now c.loop-i.i (omega (arith, input_names-length c.args.app.now)) same)

pub loop-i-preserved : goal.loop-i-preserved
loop-i-preserved c =
    let names = input_names c.args.app.now in
    let within : c.loop-i.i < input_count c.args.app.now = omega arith in
    let name : get_or names c.loop-i.i [] ≡ c.as_bytes.result.now = input_name c.args.app.now c.loop-i.i within ∙ sym c.signal_name.ensures ∙ sym c.as_bytes.ensures.value in
    let differs : is_same_name c.args.word.now (get_or names c.loop-i.i []) ≡ false =
    ap (is_same_name c.args.word.now) name ∙ same_name c.eq_ignore_ascii_case.result c.args.word.now c.as_bytes.result.now c.eq_ignore_ascii_case.ensures.test ∙ c.if-eq_ignore_ascii_case.false in
    c.loop-i.invariant ∙ name_passed names c.args.word.now c.loop-i.i (omega (arith, input_names-length c.args.app.now)) differs
