-- What an output took of a text whose writing stopped.
use Rattle.std.proofs.Common.{◌≡◌, ◌≤◌, ◌<◌, ◌++◌, ◌⊎◌, inl, inr, ℕ, Bool, List, IsTrue, take, drop, ◌∙◌, arith}
use Rattle.std.proofs.lemmas.List.{take-append-drop}
use Rattle.ps_bench_frame.specs.Stopping.{TookSome}
use Rattle.ps_outside.specs.Outside.{Rose}

-- a write that stopped took a beginning
pub took_part : (tells : Bool) (n : ℕ) (before piece text after : List ℕ) → piece ≡ text →
    (IsTrue tells → after ≡ before ++ take n piece) → TookSome text tells before after
took_part tells n before piece text after is took = λ told. (take n piece, drop n piece, took told, take-append-drop n piece ∙ is)

-- a count that rose since later rose since before
pub rose_since : (before mid after : ℕ) → before ≤ mid → Rose mid after → Rose before after
rose_since before mid after on (inl more) = inl (omega (arith, on, more))
rose_since before mid after on (inr last) = inr last
