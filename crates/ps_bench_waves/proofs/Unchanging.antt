-- How the values of wires are come by.
use Rattle.std.proofs.Common.{◌≡◌, ◌∙◌, ◌<◌, ◌+◌, ◌&&◌, ◌++◌, [], ◌∷◌, ℕ, Bool, List, Option, Some, None, length, map, get_or, take, sym, ap}
use Rattle.std.specs.Prelude.{IfSome, nat_lt}
use Rattle.std.proofs.lemmas.Bool.{cond-true, lt-ltb}
use Rattle.std.proofs.lemmas.List.{length-append, map-append, take_more}
use Rattle.ps_bench_waves.specs.declared.count.Count.{Count}
use Rattle.ps_model.specs.Blocks.{block}
use Rattle.ps_model.specs.Network.{Network, instance_count, kind_at}
use Rattle.ps_machine.specs.Calls.{input_pin}
use Rattle.ps_bench_judge.specs.Moments.{Moment}
use Rattle.ps_bench_judge.specs.Named.{pin_in, pin_of}
use Rattle.ps_bench_waves.specs.Parts.{part_held}
use Rattle.ps_bench_waves.specs.Reads.{AreReadsOf, read_held}
use Rattle.ps_bench_waves.specs.declared.parts.Part.{Part}
use Rattle.ps_bench_waves.specs.declared.parts.Part.TheVariants.{Restart}
use Rattle.ps_bench_waves.specs.declared.reads.Read.{Read}

-- the value at an input pin of an instance is what its call reads there
pin_is : (net : Network) (m : Moment) (i j : ℕ) → i < instance_count net → j < length (block (kind_at net i)).inputs →
    pin_of net m i j ≡ input_pin net m.before m.signals i j
pin_is net m i j one within =
    ap (λ (t : Bool). t && pin_in net m i j) (lt-ltb i (instance_count net) one)
    ∙ cond-true (nat_lt j (length (block (kind_at net i)).inputs)) _ _ (lt-ltb j (length (block (kind_at net i)).inputs) within)

-- so it is the same in every scan where that is
pub still_is : (net : Network) (i j : ℕ) (got : Option Bool) → i < instance_count net → j < length (block (kind_at net i)).inputs →
    IfSome got (λ value. (before behind : List Bool) → input_pin net before behind i j ≡ value) →
    IfSome got (λ value. (m : Moment) → pin_of net m i j ≡ value)
still_is net i j (Some value) one within stays = λ m. pin_is net m i j one within ∙ stays m.before m.signals
still_is net i j None one within stays = stays

-- one more part, and how its value is come by
pub one_more : (net : Network) (reads more : List Read) (r : Read) (parts : List Part) (k : ℕ) → k < length parts → more ≡ reads ++ r ∷ [] →
    AreReadsOf net reads (take k parts) →
    ((count : Count) (m : Moment) → read_held net count m r ≡ part_held net count m (get_or parts k Restart)) →
    AreReadsOf net more (take (k + 1) parts)
one_more net reads more r parts k within is are one =
    let part = get_or parts k Restart in
    let next : take (k + 1) parts ≡ take k parts ++ part ∷ [] = take_more parts k Restart within in record {
      sized = ap length is ∙ length-append reads (r ∷ []) ∙ ap (λ n. n + 1) are.sized ∙ sym (ap length next ∙ length-append (take k parts) (part ∷ []));
      same = λ count m.
          ap (map (read_held net count m)) is ∙ map-append (read_held net count m) reads (r ∷ [])
          ∙ (λ i. are.same count m i ++ one count m i ∷ [])
          ∙ sym (ap (map (part_held net count m)) next ∙ map-append (part_held net count m) (take k parts) (part ∷ []));
    }
