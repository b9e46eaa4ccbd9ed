use Rattle.std.proofs.Common.{◌≡◌, ◌∙◌, ℕ, List, refl, sym, ap, subst, arith}
use Rattle.std.specs.Prelude.{Contains}
use Rattle.ps_outside.specs.Outside.{Rose}
use Rattle.ps_bench_watch.specs.InMemory.{StreamInMemory}
use Rattle.ps_bench_watch.proofs.Held.{given, gone, one_more}
use Rattle.ps_bench_watch.proofs.mem_stream.MemStreamStream.read_some.Goals as goal

pub copy_some-n-requires : goal.copy_some-n-requires
copy_some-n-requires c = c.most_of-most.ensures

pub invariant_of-self : goal.invariant_of-self
invariant_of-self c = c.self.invariant

pub returns-then-is_chosen : goal.returns-then-is_chosen
returns-then-is_chosen c =
    let call = c.saturating_add-self-inside.result in
    let faults = ap (λ (s : StreamInMemory). s.faults) c.self.view_is in
    let failing = c.deref-2.ensures.value ∙ ap (λ (s : StreamInMemory). s.failing) c.self.view_is in
    record {
      fails = (λ is. subst (λ (numbers : List ℕ). Contains numbers call) failing (c.is_chosen.ensures.0 c.if-is_chosen.true), λ has. refl);
      fits = tt;
      gives = tt;
      end = λ some is. cc;
      unread = ap (λ (s : StreamInMemory). s.coming) c.self.view_is;
      failed = subst (λ (n : ℕ). Rose n c.saturating_add-self-inside-then-is_chosen.result) faults
          (one_more c.self.inside.faults c.saturating_add-self-inside-then-is_chosen.result c.saturating_add-self-inside-then-is_chosen.ensures);
      exact = tt;
      counts = omega (arith, faults, c.saturating_add-self-inside-then-is_chosen.ensures);
    }

pub returns : goal.returns
returns c =
    let self = c.self.inside in
    let call = c.saturating_add-self-inside.result in
    let n = c.copy_some-n.result in
    let faults = ap (λ (s : StreamInMemory). s.faults) c.self.view_is in
    let failing = sym (c.deref-2.ensures.value ∙ ap (λ (s : StreamInMemory). s.failing) c.self.view_is) in
    record {
      fails = (
        λ is. cc,
        λ has. sym c.if-is_chosen.false ∙ c.is_chosen.ensures.1 (subst (λ (numbers : List ℕ). Contains numbers call) failing has),
      );
      fits = c.copy_some-n.ensures.fits;
      gives = sym (ap (λ (s : StreamInMemory). s.coming) c.self.view_is)
          ∙ given self.bytes c.as_slice-bytes.result.now c.copy_some-n.new.buf self.at n c.as_slice-bytes.ensures c.copy_some-n.ensures.there c.copy_some-n.ensures.bytes;
      end = λ some is.
          let none : n ≡ 0 = cc in
          gone self.bytes c.as_slice-bytes.result.now self.at n c.as_slice-bytes.ensures (c.copy_some-n.ensures.none some none);
      unread = tt;
      failed = tt;
      exact = faults;
      counts = omega (arith, faults);
    }
