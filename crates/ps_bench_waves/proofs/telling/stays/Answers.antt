use Rattle.std.proofs.Common.{◌≡◌, ◌==◌, ◌∙◌, ℕ, false, Option, Some, None, refl}
use Rattle.std.specs.Option.{option_map_or}
use Rattle.ps_bench_waves.specs.Lines.{stays}
use Rattle.ps_bench_waves.proofs.telling.stays.Goals as goal

same : (before : Option ℕ) (value : ℕ) → option_map_or (λ (u : ℕ). u == value) before false ≡ stays before value
same None value = refl
same (Some u) value = refl

pub returns : goal.returns
returns c = c.stays.ensures ∙ same c.args.field.before c.args.field.value
