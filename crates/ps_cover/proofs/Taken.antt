-- What stands in place of what was read, where both are the same.
use Rattle.std.proofs.Common.{◌≡◌, ◌<◌, ◌||◌, ℕ, Bool, List, false, length, subst, sym}
use Rattle.std.specs.Prelude.{slice_index_or}
use Rattle.ps_cover.specs.Covering.{Looks}
use Rattle.ps_cover.specs.Covers.{JoinsBits}
use Rattle.ps_cover.specs.declared.block.Called.{Called}
use Rattle.ps_cover.specs.declared.point.Point.{Point}
use Rattle.ps_model.specs.Network.{Network}
use Rattle.ps_machine.specs.declared.signals.Signals.{Signals}

-- a look at the same points, with the same calls
pub looks_same : (net : Network) (x : Signals) (b : Bool) (cs cs' : List Called) (ps ps' : List Point) (before before' behind behind' : List Bool) →
    cs ≡ cs' → ps ≡ ps' → before ≡ before' → behind ≡ behind' → Looks net x cs b ps before behind → Looks net x cs' b ps' before' behind'
looks_same net x b cs cs' ps ps' before before' behind behind' calls points was is looks =
    subst (λ (ds : List Called). Looks net x ds b ps' before' behind') calls
    (subst (λ (qs : List Point). Looks net x cs b qs before' behind') points
    (subst (λ (vs : List Bool). Looks net x cs b ps vs behind') was
    (subst (λ (vs : List Bool). Looks net x cs b ps before vs) is looks)))

-- bits that were joined
pub bits_joined : (before other after read others written : List Bool) → read ≡ before → others ≡ other → after ≡ written → length written ≡ length read →
    ((n : ℕ) → n < length read → slice_index_or written n false ≡ (slice_index_or read n false || slice_index_or others n false)) → JoinsBits before other after
bits_joined before other after read others written was with is each joined =
    subst (λ (vs : List Bool). JoinsBits vs other after) was
    (subst (λ (vs : List Bool). JoinsBits read vs after) with
    (subst (λ (vs : List Bool). JoinsBits read others vs) (sym is) (record { each = each; joined = joined })))
