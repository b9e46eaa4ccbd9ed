use Rattle.std.proofs.Common.{◌≡◌, ◌∙◌, List, Bool, ap, false, length, refl, replicate}
use Rattle.std.proofs.lemmas.List.{length-replicate}
use Rattle.ps_cover.proofs.cover.Cover.new.Goals as goal

-- one for each
each_is : {X : Type 0} (seen : List Bool) (slice points : List X) → seen ≡ replicate (length slice) false → slice ≡ points → length seen ≡ length points
each_is seen slice points is same = ap length is ∙ length-replicate (length slice) false ∙ ap length same

pub returns-clause-first : goal.returns-clause-first
returns-clause-first c = record {
  fits = record {
    calls = c.in_ok-first_calls.ensures.calls;
    off_each = each_is _ _ _ c.in_ok-off.ensures c.as_slice.ensures.value;
    on_each = each_is _ _ _ c.in_ok-on.ensures c.as_slice-2.ensures.value;
  };
  stands = c.in_ok-first_calls.ensures.stands;
  time = refl;
}
