-- The signals and instances that an application declares, and the outputs of its instances.
use Rattle.std.specs.Prelude.{◌≡◌, ◌≢◌, ℕ, ◌+◌, ◌<◌, List, [], ◌∷◌, ◌++◌, map, length, replicate, take, sum_by}
use Rattle.std.specs.Prelude.{slice_index_or}
use Rattle.std.specs.List.{flat_map}
use Rattle.std.specs.Prelude.{All}
use Rattle.ps_model.specs.declared.kind.Kind.{Kind}
use Rattle.ps_model.specs.declared.kind.Ty.{Ty}
use Rattle.ps_model.specs.declared.kind.Ty.TheVariants.{Safe, Bool as Plain, Time}
use Rattle.ps_model.specs.declared.named.Signal.{Signal}
use Rattle.ps_model.specs.declared.named.Instance.{Instance}
use Rattle.ps_model.specs.declared.named.Placed.{Placed}
use Rattle.ps_model.specs.Blocks.{block, output_count}

-- each of these signals is SAFEBOOL or BOOL
abbrev pub AreBoolean : List Signal → Type 0
AreBoolean signals = All (λ s. s.ty ≢ Time) signals

-- the types of a kind's outputs: its safe outputs, then Ready and Error
unfoldable pub output_types : Kind → List Ty
output_types kind = replicate (length (block kind).outputs) Safe ++ (Plain ∷ Plain ∷ [])

-- the types of all outputs of these instances, one after another
abbrev pub pin_types : List Instance → List Ty
pin_types instances = flat_map (λ x. output_types x.kind) instances

-- the instances alone
abbrev pub instances_of : List Placed → List Instance
instances_of placed = map (λ p. p.instance) placed

-- the numbers of the instances of these outputs, one after another, where the first instance has number n
abbrev pub owners_from : ℕ → List Instance → List ℕ
owners_from n [] = []
owners_from n (x ∷ xs) = replicate (output_count x.kind) n ++ owners_from (n + 1) xs

-- of each output of these instances, one after another, the number of its instance
abbrev pub pin_owners : List Instance → List ℕ
pin_owners instances = owners_from 0 instances

-- beside each instance stands how many outputs the instances before it have, and the types and owners are those of all
-- outputs
pub record KeepsPlaces (placed : List Placed) (types : List Ty) (owners : List ℕ) : Type 0 where
  pub types_are : types ≡ pin_types (instances_of placed)
  pub owners_are : owners ≡ pin_owners (instances_of placed)
  pub first_is : (i : ℕ) (d : Placed) → i < length placed →
      (slice_index_or placed i d).first ≡ sum_by (λ x. output_count x.kind) (take i (instances_of placed))
