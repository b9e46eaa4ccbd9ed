use Rattle.std.proofs.Common.{◌≡◌, ◌<◌, ◌∙◌, [], get_or, true, false, sym, ap, arith}
use Rattle.ps_base.specs.LetterCase.{is_same_name}
use Rattle.ps_model.specs.Network.{instance_count}
use Rattle.ps_bench_names.specs.Names.{instance_names}
use Rattle.ps_trace.proofs.HeaderLemmas.{name_found, name_passed}
use Rattle.ps_bench_names.proofs.Naming.{instance_names-length, instance_name_at}
use Rattle.ps_bench_names.proofs.names.instance_named.Goals as goal

pub returns-then-is_same_name-clause-named : goal.returns-then-is_same_name-clause-named
returns-then-is_same_name-clause-named c =
    let names = instance_names c.args.app.now in
    let within : c.loop-i.i < instance_count c.args.app.now = omega arith in
    let name : get_or names c.loop-i.i [] ≡ c.as_bytes.result.now = instance_name_at c.args.app.now c.loop-i.i within ∙ sym c.instance_name.ensures ∙ sym c.as_bytes.ensures.value in
    let same : is_same_name c.args.word.now (get_or names c.loop-i.i []) ≡ true = ap (is_same_name c.args.word.now) name ∙ sym c.is_same_name.ensures ∙ c.if-is_same_name.true in
    sym (c.loop-i.invariant ∙ name_found names c.args.word.now c.loop-i.i (omega (arith, instance_names-length c.args.app.now)) same)

pub loop-i-preserved : goal.loop-i-preserved
loop-i-preserved c =
    let names = instance_names c.args.app.now in
    let within : c.loop-i.i < instance_count c.args.app.now = omega arith in
    let name : get_or names c.loop-i.i [] ≡ c.as_bytes.result.now = instance_name_at c.args.app.now c.loop-i.i within ∙ sym c.instance_name.ensures ∙ sym c.as_bytes.ensures.value in
    let differs : is_same_name c.args.word.now (get_or names c.loop-i.i []) ≡ false = ap (is_same_name c.args.word.now) name ∙ sym c.is_same_name.ensures ∙ c.if-is_same_name.false in
    c.loop-i.invariant ∙ name_passed names c.args.word.now c.loop-i.i (omega (arith, instance_names-length c.args.app.now)) differs
