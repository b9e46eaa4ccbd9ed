use Rattle.std.proofs.Common.{◌∙◌, length, map, refl, sym, ap}
use Rattle.std.proofs.lemmas.List.{with_items_is}
use Rattle.ps_bench_waves.specs.Values.{held}
use Rattle.ps_bench_judge.specs.Moments.{moment_of}
use Rattle.ps_bench_waves.specs.Reads.{read_held}
use Rattle.ps_bench_waves.proofs.dumper.Dumper.take_values.Goals as goal

pub put_values-requires : goal.put_values-requires
put_values-requires c =
    ap length c.as_mut_slice.ensures.value ∙ c.requires.values ∙ sym (ap length c.as_slice.ensures.value ∙ c.requires.reads.sized)

pub returns-clause-takes : goal.returns-clause-takes
returns-clause-takes c =
    let count = c.args.self.now.next in let m = moment_of c.args.seen.now in record {
      parts = refl;
      values = ap (map held) (with_items_is c.args.self.now.values c.put_values.new.values (c.put_values.auto.values ∙ c.as_mut_slice.ensures.len))
          ∙ c.put_values.ensures.values ∙ ap (map (read_held c.args.app.now count m)) c.as_slice.ensures.value ∙ c.requires.reads.same count m;
      dump = refl;
      next = c.next-self.ensures;
    }
