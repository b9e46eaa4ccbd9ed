use Rattle.std.proofs.Common.{◌≡◌, ◌<◌, ◌∙◌, [], length, get_or, true, false, sym, ap, arith}
use Rattle.ps_base.specs.LetterCase.{is_same_name}
use Rattle.ps_model.specs.Pins.{pin_names}
use Rattle.ps_trace.proofs.HeaderLemmas.{name_found, name_passed}
use Rattle.ps_bench_names.proofs.Naming.{got_at}
use Rattle.ps_bench_names.proofs.names.pin_numbered.Goals as goal

pub returns-then-is_same_name-clause-named : goal.returns-then-is_same_name-clause-named
returns-then-is_same_name-clause-named c =
    let names = pin_names c.args.kind in
    let within : c.loop-j.j < length names = omega arith in
    let name : get_or names c.loop-j.j [] ≡ c.as_bytes.result.now = got_at names c.loop-j.j _ c.pin_name.ensures ∙ sym c.as_bytes.ensures.value in
    let same : is_same_name c.args.word.now (get_or names c.loop-j.j []) ≡ true = ap (is_same_name c.args.word.now) name ∙ sym c.is_same_name.ensures ∙ c.if-is_same_name.true in
    sym (c.loop-j.invariant ∙ name_found names c.args.word.now c.loop-j.j within same)

pub loop-j-preserved : goal.loop-j-preserved
loop-j-preserved c =
    let names = pin_names c.args.kind in
    let within : c.loop-j.j < length names = omega arith in
    let name : get_or names c.loop-j.j [] ≡ c.as_bytes.result.now = got_at names c.loop-j.j _ c.pin_name.ensures ∙ sym c.as_bytes.ensures.value in
    let differs : is_same_name c.args.word.now (get_or names c.loop-j.j []) ≡ false = ap (is_same_name c.args.word.now) name ∙ sym c.is_same_name.ensures ∙ c.if-is_same_name.false in
    c.loop-j.invariant ∙ name_passed names c.args.word.now c.loop-j.j within differs
