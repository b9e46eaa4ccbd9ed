use Rattle.std.proofs.Common.{◌<◌, length, arith}
use Rattle.ps_why.proofs.Kept.{all_step, here_kept, next_stepped, none_stepped}
use Rattle.ps_why.proofs.keeping.step_instances.Goals as goal

pub loop-i-init : goal.loop-i-init
loop-i-init c = none_stepped c.args.app.now c.args.passed c.args.signals.now c.args.kept.now c.requires

pub overflow_cast-i : goal.overflow_cast-i
overflow_cast-i c = omega (arith, c.loop-i-test.true, c.loop-i.auto.kept, c.loop-i.invariant.kept.each, c.sound.ensures.few_instances)

pub step_instance-requires-clause-instance : goal.step_instance-requires-clause-instance
step_instance-requires-clause-instance c = omega (arith, c.loop-i-test.true, c.loop-i.auto.kept, c.loop-i.invariant.kept.each)

pub step_instance-requires-clause-kept : goal.step_instance-requires-clause-kept
step_instance-requires-clause-kept c =
    let net = c.args.app.now in
    let x = c.args.signals.now in
    let was = c.args.kept.now in
    let is = c.loop-i.kept in
    let n = c.loop-i.i in
    let within : n < length is = omega (arith, c.loop-i-test.true, c.loop-i.auto.kept) in
    (here_kept net c.args.passed x was c.requires is n c.loop-i.invariant within).block

pub loop-i-preserved : goal.loop-i-preserved
loop-i-preserved c =
    let net = c.args.app.now in
    let x = c.args.signals.now in
    let was = c.args.kept.now in
    let is = c.loop-i.kept in
    let n = c.loop-i.i in
    let within : n < length is = omega (arith, c.loop-i-test.true, c.loop-i.auto.kept) in
    next_stepped net c.args.passed x was c.requires is n c.loop-i.invariant within c.step_instance.result
    (record { step = c.step_instance.ensures.step; call = c.step_instance.ensures.call; block = c.step_instance.ensures.kept })
    c.step_instance.ensures.so

pub returns-clause-kept : goal.returns-clause-kept
returns-clause-kept c = c.loop-i.invariant.kept

pub returns-clause-so : goal.returns-clause-so
returns-clause-so c =
    all_step c.args.app.now c.args.passed c.args.signals.now c.args.kept.now c.requires c.loop-i.kept c.loop-i.i c.loop-i.invariant
    (omega (arith, c.loop-i-test.false, c.loop-i.auto.kept, c.loop-i.auto.i-end))
