use Rattle.std.proofs.Common.{◌≡◌, ◌<◌, ◌+◌, ◌-◌, ◌++◌, ◌∙◌, ℕ, List, Bool, Option, None, length, sym, ap, subst, arith}
use Rattle.std.specs.List.{filter, range_with_len}
use Rattle.std.proofs.lemmas.Grind.{common_steps}
use Rattle.ps_bench_logs.specs.Header.{names_column}
use Rattle.ps_bench_logs.specs.Spans.{part_at, parts_named}
use Rattle.ps_bench_logs.proofs.Naming.{kept_first, left_out, place_list}
use Rattle.ps_bench_logs.proofs.columns.place_of.Goals as goal
use Rattle.ps_bench_logs.proofs.columns.place_of.Goals.{then-names_column+else-is_some, else-names_column}

pub loop-k-preserved : goal.loop-k-preserved
loop-k-preserved c =
    let line = c.args.line.now in
    let time = c.args.time.now in
    let spans = c.args.spans.now in
    let k = c.loop-k.k in
    let within : k < length spans = omega arith in
    let names : ℕ → Bool = λ n. names_column c.args.app.now time c.args.column (part_at line spans n) in
    let rest : List ℕ = filter names (range_with_len (k + 1) (length spans - (k + 1))) in
    let called : names k ≡ c.names_column.result = ap (names_column c.args.app.now time c.args.column) (sym c.part_at.ensures) ∙ sym c.names_column.ensures in
    let whole = parts_named c.args.app.now time line spans c.args.column in
    elim c.if-names_column.branch [
      | then-names_column+else-is_some w ↦
          let none : c.loop-k.place ≡ None = grind (arith, common_steps) in
          subst (λ (place : Option ℕ). whole ≡ place_list place ++ rest) (sym w.place-is)
          (c.loop-k.invariant ∙ ap (λ (place : Option ℕ). place_list place ++ filter names (range_with_len k (length spans - k))) none
          ∙ kept_first names k (length spans) within (called ∙ w.if-names_column.true))
      | else-names_column w ↦
          subst (λ (place : Option ℕ). whole ≡ place_list place ++ rest) (sym w.place-is)
          (c.loop-k.invariant ∙ ap (λ (ks : List ℕ). place_list c.loop-k.place ++ ks) (left_out names k (length spans) within (called ∙ w.if-names_column.false)))
    ]
