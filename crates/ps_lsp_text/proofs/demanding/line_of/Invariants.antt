use Rattle.std.proofs.Common.{◌≡◌, map, option_map, find}
use Rattle.ps_lsp_text.specs.Demands.{is_demand_of}
use Rattle.ps_lsp_text.proofs.demanding.line_of.Given as goal

abbrev pub invariant-loop-line : goal.invariant-loop-line
invariant-loop-line l = option_map (λ x. x.now) l.found ≡ find (is_demand_of l.name) (map (λ x. x.now) l.yielded)
