use Rattle.std.proofs.Common.{◌≡◌, ◌≢◌, ◌<◌, ◌+◌, ◌-◌, ◌∙◌, ℕ, List, length, length-drop, take, drop, get_or, inl, refl, sym, ap, arith}
use Rattle.std.proofs.lemmas.List.{drop_more}
use Rattle.std.proofs.lemmas.List.Edits.{between_more}
use Rattle.ps_bench_logs.specs.Fields.{fields_from}
use Rattle.ps_bench_logs.specs.Fields.Place.{plain}
use Rattle.ps_bench_logs.proofs.Cutting.{first_at, front, front_ends, front_none, plain_ends, plain_more}
use Rattle.ps_bench_logs.proofs.fields.plain_field.Goals as goal
use Rattle.ps_bench_logs.proofs.fields.plain_field.Goals.{then-bytes-test+else-line-end-ne44, else-bytes-test}

pub bytes-init : goal.bytes-init
bytes-init c =
    let rest = drop c.args.at c.args.line.now in
    let none : 0 ≡ c.args.at - c.args.at = omega arith in
    record {
      behind = omega arith;
      within = c.requires;
      is = front_none (fields_from plain rest) ∙ ap (λ (n : ℕ). front (take n rest) (fields_from plain rest)) none;
    }

pub bytes-preserved : goal.bytes-preserved
bytes-preserved c =
    let line = c.args.line.now in
    let at = c.args.at in
    let end = c.bytes.end in
    let some : end < length line = omega arith in
    let next = drop_more line end 0 some in
    let comma : get_or line end 0 ≢ 44 = c.if-line-end-ne44.true in
    let mark : get_or line end 0 ≢ 34 = c.if-line-end-eq34.false in
    record {
      behind = omega arith;
      within = omega arith;
      is = c.bytes.invariant.is
          ∙ ap (λ (rest : List ℕ). front (take (end - at) (drop at line)) (fields_from plain rest)) next
          ∙ plain_more (take (end - at) (drop at line)) (get_or line end 0) (drop (end + 1) line) comma mark
          ∙ ap (λ (bytes : List ℕ). front bytes (fields_from plain (drop (end + 1) line))) (sym (between_more line at end 0 (omega arith) some));
    }

pub returns-clause-found : goal.returns-clause-found
returns-clause-found c =
    let line = c.args.line.now in
    let at = c.args.at in
    let end = c.bytes.end in
    let stops : 0 < length (drop end line) → get_or (drop end line) 0 0 ≡ 44 = λ some. elim c.bytes-test.branch [
      | then-bytes-test+else-line-end-ne44 w ↦ first_at line end ∙ w.if-line-end-ne44.false
      | else-bytes-test w ↦ absurd (omega (arith, some, length-drop end line))
    ] in
    record {
      field = take (end - at) (drop at line);
      is = c.bytes.invariant.is
          ∙ ap (front (take (end - at) (drop at line))) (plain_ends (drop end line) stops)
          ∙ front_ends (take (end - at) (drop at line)) (drop end line);
      shown = inl refl;
      behind = c.bytes.invariant.behind;
      within = c.bytes.invariant.within;
    }
