-- A cover that has seen nothing.
use Rattle.std.proofs.Common.{◌≡◌, ◌∙◌, ℕ, zero, suc, Bool, false, List, Result, Ok, Err, length, map, refl, replicate, sym, ap, subst}
use Rattle.std.specs.Prelude.{IfOk, slice_index_or}
use Rattle.ps_base.specs.declared.failing.Memory.{Memory}
use Rattle.ps_runs.specs.declared.items.Runner.{Runner}
use Rattle.ps_runs.specs.declared.watching.Evaluated.{Evaluated}
use Rattle.ps_bench_cover.specs.Taking.{IsBegun}
use Rattle.ps_bench_cover.specs.declared.covering.Shown.{Shown}
use Rattle.std.proofs.lemmas.List.{length-replicate}
use Rattle.ps_model.specs.Network.{Network}
use Rattle.ps_cover.specs.Covering.{point_of}
use Rattle.ps_cover.specs.Listing.{points_of}
use Rattle.ps_cover.specs.Tallied.{IsUnseen, IsWhole}
use Rattle.ps_cover.specs.declared.cover.Cover.{Cover}

all_false : (n k : ℕ) → slice_index_or (replicate n false) k false ≡ false
all_false zero zero = refl
all_false zero (suc k) = refl
all_false (suc n) zero = refl
all_false (suc n) (suc k) = all_false n k

module _ (net : Network) (c : Cover) (points : map point_of c.points.items ≡ points_of net) (off : c.off.items ≡ replicate (length c.points.items) false)
    (on : c.on.items ≡ replicate (length c.points.items) false) where
  pub begun_whole : IsWhole net c
  begun_whole = record {
    points = points;
    off_each = ap length off ∙ length-replicate (length c.points.items) false;
    on_each = ap length on ∙ length-replicate (length c.points.items) false;
  }

  pub begun_unseen : IsUnseen c
  begun_unseen = record {
    off = λ n. ap (λ (bs : List Bool). slice_index_or bs n false) off ∙ all_false (length c.points.items) n;
    on = λ n. ap (λ (bs : List Bool). slice_index_or bs n false) on ∙ all_false (length c.points.items) n;
  }

-- a runner that was begun anew
pub begun_runner : (net : Network) (e : Evaluated) (t : Shown) (made : Result (Runner Evaluated Shown) Memory) → IfOk made (λ r. r.performer ≡ e) →
    IfOk made (λ r. r.taker ≡ t) → IsBegun net e t.cover → IfOk made (λ r. IsBegun net r.performer r.taker.cover)
begun_runner net e t (Ok runner) performer taker begun =
    subst (λ (x : Evaluated). IsBegun net x runner.taker.cover) (sym performer) (subst (λ (x : Shown). IsBegun net e x.cover) (sym taker) begun)
begun_runner net e t (Err memory) performer taker begun = tt
