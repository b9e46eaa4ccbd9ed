use Rattle.std.proofs.Common.{◌≡◌, ◌<◌, ◌+◌, ◌-◌, ◌++◌, ◌∙◌, ℕ, List, [], ◌∷◌, length-set, map, unwrap_or, sym, ap, arith}
use Rattle.std.specs.List.{range_with_len}
use Rattle.std.proofs.lemmas.Grind.{common_steps}
use Rattle.std.proofs.lemmas.List.{take_more_set}
use Rattle.std.proofs.lemmas.List.FromFn.{map-range_with_len_more}
use Rattle.ps_model.specs.Network.{input_count}
use Rattle.ps_bench_logs.specs.Header.{first_of, flaw_at}
use Rattle.ps_bench_logs.specs.Spans.{input_flaws, parts_named}
use Rattle.ps_bench_logs.specs.declared.flaw.Column.{Column}
use Rattle.ps_bench_logs.specs.declared.flaw.Column.TheVariants.{Input}
use Rattle.ps_bench_logs.proofs.Naming.{flaw_first, found_first, range_first}
use Rattle.ps_bench_logs.proofs.columns.find_inputs.Goals as goal

pub returns-in-Err-clause-flaw : goal.returns-in-Err-clause-flaw
returns-in-Err-clause-flaw c =
    let n = input_count c.args.app.now in
    let i = c.loop-i.i in
    let places : Column → List ℕ = parts_named c.args.app.now c.args.time.now c.args.line.now c.args.spans.now in
    let some : i < n = omega arith in
    let here = places (Input i) in
    let others = input_flaws places (range_with_len (i + 1) (n - (i + 1))) in (
      others,
      c.loop-i.invariant.flaws ∙ ap (input_flaws places) (range_first i n some)
          ∙ flaw_first (flaw_at (Input i) here) (first_of here) c.in-Err.flaw others (sym c.place_of.ensures ∙ c.in-Err.is),
    )

pub loop-i-preserved : goal.loop-i-preserved
loop-i-preserved c =
    let n = input_count c.args.app.now in
    let i = c.loop-i.i in
    let places : Column → List ℕ = parts_named c.args.app.now c.args.time.now c.args.line.now c.args.spans.now in
    let some : i < n = omega arith in
    let here = places (Input i) in
    let others = input_flaws places (range_with_len (i + 1) (n - (i + 1))) in
    let found = found_first (flaw_at (Input i) here) (first_of here) c.in-Ok.place others (sym c.place_of.ensures ∙ c.in-Ok.is) in
    let value : c.unwrap_or.result ≡ unwrap_or (first_of here) 0 = grind (arith, common_steps, found.1) in
    let f : ℕ → ℕ = λ k. unwrap_or (first_of (places (Input k))) 0 in
    record {
      size = length-set c.loop-i.places i c.unwrap_or.result ∙ c.loop-i.invariant.size;
      flaws = c.loop-i.invariant.flaws ∙ ap (input_flaws places) (range_first i n some) ∙ found.0;
      places = take_more_set c.loop-i.places i c.unwrap_or.result (omega (arith, c.loop-i.invariant.size, some))
          ∙ ap (λ (ks : List ℕ). ks ++ c.unwrap_or.result ∷ []) c.loop-i.invariant.places
          ∙ ap (λ (k : ℕ). map f (range_with_len 0 i) ++ k ∷ []) value
          ∙ sym (map-range_with_len_more f 0 i i (omega arith));
    }
