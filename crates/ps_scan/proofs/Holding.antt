-- What a scanner holds after a write to one instance.
use Rattle.std.proofs.Common.{◌≡◌, ◌≢◌, ◌<◌, ℕ, List, length, map, set, get_or, sym, ap, ◌∙◌, arith}
use Rattle.std.proofs.lemmas.List.{get_or-set_same, get_or-set_other, get_or-map, length-map, map-set}
use Rattle.ps_scan.specs.Instances.{KeptInstance, no_kept_instance, instance_of}
use Rattle.ps_scan.specs.declared.instance.Instance.{Instance}

pub view_other : (xs : List Instance) (i j : ℕ) (x : Instance) → j ≢ i → get_or (map instance_of (set xs i x)) j no_kept_instance ≡ get_or (map instance_of xs) j no_kept_instance
view_other xs i j x other = ap (λ (hs : List KeptInstance). get_or hs j no_kept_instance) (map-set instance_of xs i x) ∙ get_or-set_other (map instance_of xs) i j (instance_of x) no_kept_instance other

pub view_same : (xs : List Instance) (i : ℕ) (x : Instance) → i < length xs → get_or (map instance_of (set xs i x)) i no_kept_instance ≡ instance_of x
view_same xs i x inside =
    ap (λ (hs : List KeptInstance). get_or hs i no_kept_instance) (map-set instance_of xs i x)
    ∙ get_or-set_same (map instance_of xs) i (instance_of x) no_kept_instance (omega (arith, length-map xs instance_of, inside))

pub view_at : (xs : List Instance) (i : ℕ) (x : Instance) → i < length xs → x ≡ get_or xs i x → instance_of x ≡ get_or (map instance_of xs) i no_kept_instance
view_at xs i x inside is = ap instance_of is ∙ sym (get_or-map instance_of xs i x no_kept_instance inside)
