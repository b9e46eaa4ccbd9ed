-- A step of an instance in the cells, from what its block answers.
use Rattle.std.proofs.Common.{◌≡◌, ℕ, ◌+◌, ◌-◌, List, length, take, drop, map, Option, Some, None, refl, ap, ◌∙◌, subst}
use borrow.Rule.Slice.PartMut.{put_mid}
use Rattle.ps_model.specs.declared.kind.Kind.{Kind}
use Rattle.ps_model.specs.Blocks.{block}
use Rattle.ps_model.specs.BlockLaws.{LoadsExactly, AreBytes}
use Rattle.ps_model.specs.Kept.{Kept}
use Rattle.ps_model.specs.Stored.{Loads, loaded, stored}
use Rattle.ps_machine.specs.Bytes.{bit, replaced}
use Rattle.ps_machine.proofs.Lent.{part_is, written_at}
use Rattle.ps_block.specs.declared.block.Outs.{Outs}
use Rattle.ps_block.specs.declared.block.Pins.{Pins}
use Rattle.ps_block.specs.Shown.{shown}
use Rattle.ps_block.specs.Stepping.{stepped_by}
use Rattle.ps_stackvm.specs.Stepping.{IsStepInBytes, HasStepped}

-- bytes for which no state of the kind is stored do not load
pub not_loaded : LoadsExactly → (kind : Kind) (bytes : List ℕ) → AreBytes bytes → ((k : Kept) → Loads kind bytes k → ⊥) →
    (o : Option Kept) → loaded kind bytes ≡ o → o ≡ None
not_loaded exact kind bytes are none None e = refl
not_loaded exact kind bytes are none (Some k) e = absurd (none k (exact.loaded_is_stored kind bytes k are e))

-- the sixteen bytes were stepped, and the outputs were written
pub has_stepped : (kind kind' : Kind) → kind' ≡ kind → (pins : Pins) (cells new after : List ℕ) (place first n : ℕ) (o : Outs) →
    IsStepInBytes kind pins (take (place + 16 - place) (drop place cells)) new o → n ≡ length (block kind').outputs →
    after ≡ replaced (put_mid place (place + 16 - place) cells new) first (map bit (shown n o)) → HasStepped kind pins place first cells after
has_stepped kind kind' same pins cells new after place first n o given count is =
    let steps : IsStepInBytes kind pins (take 16 (drop place cells)) new o = subst (λ b. IsStepInBytes kind pins b new o) (part_is cells place) given in
    let kept = stepped_by kind pins steps.kept in
    let number : n ≡ length (block kind).outputs = count ∙ ap (λ k. length (block k).outputs) same in
    record {
      kept = steps.kept;
      loads = steps.loads;
      writes = is
          ∙ ap (λ c. replaced c first (map bit (shown n o))) (written_at cells new place (ap length steps.stores))
          ∙ ap (λ l. replaced (replaced cells place l) first (map bit (shown n o))) steps.stores
          ∙ ap (λ l. replaced (replaced cells place (stored kept)) first (map bit l)) (ap (λ m. shown m o) number ∙ steps.shows.outputs);
    }
