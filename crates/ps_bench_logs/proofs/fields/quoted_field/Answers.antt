use Rattle.std.proofs.Common.{◌≡◌, ◌≤◌, ◌+◌, ◌-◌, ◌++◌, ◌∙◌, ℕ, List, [], ◌∷◌, length, length-drop, take, drop, drop-drop, inl, refl, ap, subst, arith}
use Rattle.std.proofs.lemmas.List.{take_rest}
use Rattle.ps_bench_logs.specs.Fields.{fields_from}
use Rattle.ps_bench_logs.specs.Fields.Place.{quoted}
use Rattle.ps_bench_logs.specs.Spans.{Steps, fields_with}
use Rattle.ps_bench_logs.specs.declared.fields.Step.TheVariants.{Byte, Close}
use Rattle.ps_bench_logs.proofs.Cutting.{front, front_ends, front_more, front_none, part_more, shown_more}
use Rattle.ps_bench_logs.proofs.fields.quoted_field.Goals as goal

pub steps-init : goal.steps-init
steps-init c =
    let none : c.args.at - c.args.at ≡ 0 = omega arith in
    record {
      behind = omega arith;
      within = c.requires;
      field = [];
      is = front_none (fields_from quoted (drop c.args.at c.args.line.now));
      shown = inl (ap (λ (n : ℕ). take n (drop c.args.at c.args.line.now)) none);
    }

pub steps-preserved : goal.steps-preserved
steps-preserved c =
    let line = c.args.line.now in
    let at = c.args.at in
    let end = c.steps.end in
    let size = c.in-Byte.size in
    let now = c.steps.invariant in
    let step = subst (λ (bytes : List ℕ). Steps bytes (Byte size)) (take_rest line end) c.in-Byte.ensures in
    let far : end + size ≤ length line = omega (arith, step.2, length-drop end line) in
    record {
      behind = omega (arith, now.behind);
      within = far;
      field = now.field ++ step.0 ∷ [];
      is = now.is ∙ ap (front now.field) step.3
          ∙ front_more now.field step.0 (fields_from quoted (drop size (drop end line)))
          ∙ ap (λ (rest : List ℕ). front (now.field ++ step.0 ∷ []) (fields_from quoted rest)) (drop-drop size end line);
      shown = rw (part_more line at end size (end + size) now.behind refl) (shown_more _ now.field (take size (drop end line)) step.0 now.shown step.4);
    }

pub returns-in-Close-clause-found : goal.returns-in-Close-clause-found
returns-in-Close-clause-found c =
    let line = c.args.line.now in
    let end = c.steps.end in
    let now = c.steps.invariant in
    let step = subst (λ (bytes : List ℕ). Steps bytes Close) (take_rest line end) c.in-Close.ensures in
    record {
      field = now.field;
      is = now.is ∙ ap (front now.field) step.1 ∙ front_ends now.field (drop 1 (drop end line))
          ∙ ap (fields_with now.field) (drop-drop 1 end line);
      shown = now.shown;
      behind = omega (arith, now.behind);
      within = omega (arith, step.0, length-drop end line);
    }
