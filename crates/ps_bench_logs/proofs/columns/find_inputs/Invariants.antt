use Rattle.std.proofs.Common.{◌≡◌, ◌-◌, length, take}
use Rattle.std.specs.List.{range_with_len}
use Rattle.ps_model.specs.Network.{input_count}
use Rattle.ps_bench_logs.specs.Spans.{input_flaws, input_places, parts_named}
use Rattle.ps_bench_logs.proofs.columns.find_inputs.Given as goal

abbrev pub invariant-loop-i : goal.invariant-loop-i
invariant-loop-i l = record {
  size : length l.places ≡ input_count l.app;
  flaws : input_flaws (parts_named l.app l.time l.line l.spans) (range_with_len 0 (input_count l.app))
      ≡ input_flaws (parts_named l.app l.time l.line l.spans) (range_with_len l.i (input_count l.app - l.i));
  places : take l.i l.places ≡ input_places (parts_named l.app l.time l.line l.spans) (range_with_len 0 l.i);
}
