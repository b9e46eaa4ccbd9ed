use Rattle.std.proofs.Common.{◌∙◌, refl}
use Rattle.std.proofs.lemmas.List.{with_items_is}
use Rattle.ps_cover.proofs.Taken.{bits_joined}
use Rattle.ps_cover.proofs.cover.Cover.join.Goals as goal

pub returns : goal.returns
returns c =
    let old = c.args.self.now in
    let other = c.args.other.now in
    record {
      calls = refl;
      points = refl;
      last = refl;
      off = bits_joined old.off.items other.off.items _ _ _ c.join_bits.new.bits c.as_mut_slice.ensures.value c.as_slice.ensures.value
          (with_items_is old.off c.join_bits.new.bits (c.join_bits.auto.bits ∙ c.as_mut_slice.ensures.len)) c.join_bits.ensures.each c.join_bits.ensures.joined;
      on = bits_joined old.on.items other.on.items _ _ _ c.join_bits-2.new.bits c.as_mut_slice-2.ensures.value c.as_slice-2.ensures.value
          (with_items_is old.on c.join_bits-2.new.bits (c.join_bits-2.auto.bits ∙ c.as_mut_slice-2.ensures.len)) c.join_bits-2.ensures.each c.join_bits-2.ensures.joined;
    }
