use Rattle.std.proofs.Common.{◌⊎◌, Result, Ok, Err, IfOk, inl, inr, List, ℕ}
use Rattle.ps_model.specs.Network.{Network}
use Rattle.ps_bench_rules.specs.declared.rules.RulesFile.{RulesFile}
use Rattle.ps_bench_never.specs.declared.answering.Told.{Told}
use Rattle.ps_bench_never.specs.Answering.{IsToldBy}
use Rattle.ps_bench_never.specs.AnsweringAny.{IsToldOfAny}
use Rattle.ps_bench_never.proofs.answering_any.answer_whole.Goals as goal

-- what is told by searches of the whole
abbrev told_whole : Network → List ℕ → ℕ → RulesFile → Told → Type 0
told_whole net name most file told = IsToldBy net name most file told ⊎ IsToldOfAny net name most file told

told_by : {A E : Type 0} (P R : A → Type 0) → ((a : A) → P a → R a) → (r : Result A E) → IfOk r P → IfOk r R
told_by P R h (Ok a) is = h a is
told_by P R h (Err e) is = tt

pub returns-in-Every-clause-tells : goal.returns-in-Every-clause-tells
returns-in-Every-clause-tells g c =
    told_by (IsToldBy c.args.app.now c.args.name.now c.args.most c.args.file.now) (told_whole c.args.app.now c.args.name.now c.args.most c.args.file.now)
    (λ told is. inl is) c.answer_every.result c.answer_every.ensures.tells

pub returns-in-Any-clause-tells : goal.returns-in-Any-clause-tells
returns-in-Any-clause-tells g c =
    told_by (IsToldOfAny c.args.app.now c.args.name.now c.args.most c.args.file.now) (told_whole c.args.app.now c.args.name.now c.args.most c.args.file.now)
    (λ told is. inr is) c.answer_any.result c.answer_any.ensures.tells
