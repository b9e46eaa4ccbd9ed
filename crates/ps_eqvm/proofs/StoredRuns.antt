-- A run over plain cells is a run over the bytes that they are stored as.
use Rattle.std.proofs.Common.{◌≡◌, ℕ, zero, suc, ◌-◌, ◌^◌, ◌<◌, List, length, refl, ap, ◌∙◌, arith}
use Rattle.ps_machine.specs.Machines.{turned}
use Rattle.ps_eqvm.specs.Channel.{progress_of}
use Rattle.ps_eqvm.specs.Plain.{Plain, IsPlain, IsSized, laid_out, parsed}
use Rattle.ps_eqvm.specs.Turn.{turn_plain}
use Rattle.ps_eqvm.proofs.Again.{again}
use Rattle.ps_eqvm.proofs.Lengths.{turn_sized}
use Rattle.ps_eqvm.proofs.StaysPlain.{turn_plain_is}

module _ (n k : ℕ) where
  pub run_is : (code : List ℕ) → length code < 2 ^ 32 → (j : ℕ) (p : Plain) → IsPlain p → IsPlain (turned (turn_plain n k code) j p)
  run_is code small zero p is = is
  run_is code small (suc j) p is = run_is code small j (turn_plain n k code p) (turn_plain_is n k code p small is)

  pub run_sized : (code : List ℕ) (j : ℕ) (p : Plain) → IsSized n k p → IsSized n k (turned (turn_plain n k code) j p)
  run_sized code zero p is = is
  run_sized code (suc j) p is = run_sized code j (turn_plain n k code p) (turn_sized n k code p is)

  -- one turn over the bytes that plain cells are stored as
  abbrev pub stored_turn : (code cells : List ℕ) → List ℕ
  stored_turn code cells = laid_out (turn_plain n k code (parsed n cells))

  pub stored_run : (code : List ℕ) → length code < 2 ^ 32 → (j : ℕ) (p : Plain) → IsPlain p → IsSized n k p →
      turned (stored_turn code) j (laid_out p) ≡ laid_out (turned (turn_plain n k code) j p)
  stored_run code small zero p is sized = refl
  stored_run code small (suc j) p is sized =
      ap (λ q. turned (stored_turn code) j (laid_out (turn_plain n k code q))) (again n k p is sized)
      ∙ stored_run code small j (turn_plain n k code p) (turn_plain_is n k code p small is) (turn_sized n k code p sized)

  -- what the stored bytes say of the progress after so many turns
  pub progress_after : (code : List ℕ) → length code < 2 ^ 32 → (j : ℕ) (p : Plain) → IsPlain p → IsSized n k p →
      progress_of (turned (stored_turn code) j (laid_out p)) ≡ (turned (turn_plain n k code) j p).progress
  progress_after code small j p is sized =
      let q = turned (turn_plain n k code) j p in
      let low : q.progress < 256 = (run_is code small j p is).progress in
      let twice : 255 - (255 - q.progress) ≡ q.progress = omega arith in
      ap progress_of (stored_run code small j p is sized) ∙ twice
