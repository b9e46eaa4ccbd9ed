-- Which counts of failed reads rose.
use Rattle.std.proofs.Common.{◌≡◌, ◌<◌, ◌⊎◌, ℕ, List, [], ◌∷◌, Any, Option, Some, None, length, refl, inl, inr, arith}
use Rattle.ps_outside.specs.Outside.{Rose}
use Rattle.ps_bench_main.specs.Answering.{file_of}
use Rattle.ps_bench_trace.specs.Opening.{RosesIn}

-- that of one of the files of `watch`
pub risen_any : (app trace : List ℕ) (file : Option (List ℕ)) (reads reads' : List ℕ → ℕ) →
    Rose (reads app) (reads' app) ⊎ (Rose (reads trace) (reads' trace) ⊎ RosesIn reads reads' file) →
    Any (λ (name : List ℕ). Rose (reads name) (reads' name)) (app ∷ trace ∷ file_of file)
risen_any app trace file reads reads' (inl rose) = (0, app, omega arith, refl, rose)
risen_any app trace file reads reads' (inr (inl rose)) = (1, trace, omega arith, refl, rose)
risen_any app trace (Some name) reads reads' (inr (inr rose)) = (2, name, omega arith, refl, rose)
risen_any app trace None reads reads' (inr (inr rose)) = absurd rose
