use Rattle.std.proofs.Common.{◌≡◌, ◌<◌, ◌∙◌, [], get_or, true, false, sym, ap, arith}
use Rattle.ps_base.specs.LetterCase.{is_same_name}
use Rattle.ps_model.specs.Network.{declared_count}
use Rattle.ps_bench_names.specs.Names.{signal_names}
use Rattle.ps_trace.proofs.HeaderLemmas.{name_found, name_passed}
use Rattle.ps_bench_names.proofs.Naming.{signal_names-length, signal_name_at}
use Rattle.ps_bench_names.proofs.names.signal_named.Goals as goal

pub returns-then-is_same_name-clause-named : goal.returns-then-is_same_name-clause-named
returns-then-is_same_name-clause-named c =
    let names = signal_names c.args.app.now in
    let within : c.loop-s.s < declared_count c.args.app.now = omega arith in
    let name : get_or names c.loop-s.s [] ≡ c.as_bytes.result.now = signal_name_at c.args.app.now c.loop-s.s within ∙ sym c.signal_name.ensures ∙ sym c.as_bytes.ensures.value in
    let same : is_same_name c.args.word.now (get_or names c.loop-s.s []) ≡ true = ap (is_same_name c.args.word.now) name ∙ sym c.is_same_name.ensures ∙ c.if-is_same_name.true in
    sym (c.loop-s.invariant ∙ name_found names c.args.word.now c.loop-s.s (omega (arith, signal_names-length c.args.app.now)) same)

pub loop-s-preserved : goal.loop-s-preserved
loop-s-preserved c =
    let names = signal_names c.args.app.now in
    let within : c.loop-s.s < declared_count c.args.app.now = omega arith in
    let name : get_or names c.loop-s.s [] ≡ c.as_bytes.result.now = signal_name_at c.args.app.now c.loop-s.s within ∙ sym c.signal_name.ensures ∙ sym c.as_bytes.ensures.value in
    let differs : is_same_name c.args.word.now (get_or names c.loop-s.s []) ≡ false = ap (is_same_name c.args.word.now) name ∙ sym c.is_same_name.ensures ∙ c.if-is_same_name.false in
    c.loop-s.invariant ∙ name_passed names c.args.word.now c.loop-s.s (omega (arith, signal_names-length c.args.app.now)) differs
