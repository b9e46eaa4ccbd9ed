use Rattle.std.proofs.Common.{◌≡◌, Option, None, Ok, length, refl, ap, ◌∙◌, arith}
use Rattle.std.proofs.lemmas.Grind.{common_steps}
use Rattle.ps_base.specs.declared.limits.TheConstants.{LARGEST_TRACE}
use Rattle.ps_bench_cases.specs.declared.rule.CaseRefusal.{CaseRefusal}
use Rattle.ps_bench_cases.specs.Expanded.{expanded}
use Rattle.ps_bench_cases.specs.File.{closed, case_after}
use Rattle.ps_bench_cases.specs.DraftSays.{after_by}
use Rattle.ps_bench_cases.proofs.Rooming.{left_of, begun_has}
use Rattle.ps_bench_cases.proofs.measured.Measured.begin_case.Goals as goal

pub returns-clause-room : goal.returns-clause-room
returns-clause-room c =
    let net = c.args.app.now in let d = c.args.self.now.draft in let e = c.begin_case.new.self in
    let none : c.in_ok-refusal.field-0 ≡ None = grind (arith, common_steps) in
    let after : case_after d c.args.number c.args.name.now ≡ Ok e = c.in_ok-refusal.ensures.after ∙ ap (λ (r : Option CaseRefusal). after_by r e) none in
    begun_has net d e c.args.number c.args.name.now c.in_ok-self.field-0 after c.requires.placed
    (λ head of. c.in_ok-self.ensures LARGEST_TRACE (length (expanded net (closed d))) head of (left_of net d.head d c.args.self.now.room refl c.requires.room))
