use Rattle.std.proofs.Common.{◌≡◌, ℕ, ◌+◌, ◌-◌, ◌^◌, ◌<◌, List, ap, ◌∙◌, sym, arith, lit<, refl}
use Rattle.std.specs.Prelude.{slice_index, ◌==◌}
use Rattle.ps_model.proofs.Sixteen.{flag, stored_is}
use Rattle.ps_model.specs.Stored.{stored as stored_kept}
use Rattle.ps_rows.specs.declared.step.CountedBlock.{CountedBlock}
use Rattle.ps_rows.specs.Counted.{kept_of}
use Rattle.ps_eqvm.specs.Instances.{sixteen_at}
use Rattle.ps_eqvm.proofs.StoredBytes.{bit_low, sixteen_long, sixteen_small, plain_at, code_is, timer_is, zeros_from, rest_from, load_as, load_nowhere}
use Rattle.ps_eqvm.proofs.kept.read.Goals as goal
use Rattle.ps_eqvm.proofs.kept.read.Goals.{then-last_reset-gt1-via-then-last_reset-gt1, then-last_reset-gt1-via-else-last_reset-gt1+then-last_auxiliary-gt1, then-last_reset-gt1-via-else-last_reset-gt1+else-last_auxiliary-gt1+then-not-are_zero}

pub returns-then-last_reset-gt1-clause-none : goal.returns-then-last_reset-gt1-clause-none
returns-then-last_reset-gt1-clause-none c =
    let stored = c.args.stored.now in
    let at = c.args.at in
    let small : (i : ℕ) → slice_index stored i < 256 = λ i. omega (arith, c.type_inv.stored i) in
    let plain = plain_at stored at c.requires small in
    load_nowhere stored at c.requires small (λ k e.
    let byte : (i : ℕ) → slice_index (sixteen_at at stored) i ≡ slice_index (stored_kept k) i = λ i. ap (λ (l : List ℕ). slice_index l i) e in
    elim c.then-last_reset-gt1.branch [
      | then-last_reset-gt1-via-then-last_reset-gt1 w ↦
          omega (arith, w.if-last_reset-gt1.true, plain 2 (at + 2) (lit< tt) refl, byte 2, bit_low k.last_reset)
      | then-last_reset-gt1-via-else-last_reset-gt1+then-last_auxiliary-gt1 w ↦
          omega (arith, w.if-last_auxiliary-gt1.true, plain 3 (at + 3) (lit< tt) refl, byte 3, bit_low k.last_auxiliary)
      | then-last_reset-gt1-via-else-last_reset-gt1+else-last_auxiliary-gt1+then-not-are_zero w ↦
          absurd (cc (
            w.if-not-are_zero.true,
            w.are_zero.ensures.all
                (rest_from stored at c.requires small (sym (byte 9)) (sym (byte 10)) (sym (byte 11)) (sym (byte 12)) (sym (byte 13)) (sym (byte 14)) (sym (byte 15))),
          ))
    ])

pub returns-clause-some : goal.returns-clause-some
returns-clause-some c =
    let stored = c.args.stored.now in
    let at = c.args.at in
    let small : (i : ℕ) → slice_index stored i < 256 = λ i. omega (arith, c.type_inv.stored i) in
    let plain = plain_at stored at c.requires small in
    let code = ap (λ (n : ℕ). 2 ^ 16 - 1 - n) c.number_in_two.ensures ∙ code_is stored at c.requires small in
    let timer = ap (λ (n : ℕ). 2 ^ 32 - 1 - n) c.number_in_four.ensures ∙ timer_is stored at c.requires small in
    let reset = flag (255 - slice_index stored (at + 2)) (omega (arith, c.if-last_reset-gt1.false)) ∙ sym (plain 2 (at + 2) (lit< tt) refl) in
    let auxiliary = flag (255 - slice_index stored (at + 3)) (omega (arith, c.if-last_auxiliary-gt1.false)) ∙ sym (plain 3 (at + 3) (lit< tt) refl) in
    let mode = sym (plain 4 (at + 4) (lit< tt) refl) in
    let zeros = zeros_from stored at c.requires small (c.are_zero.ensures.each c.if-not-are_zero.false) in
    let block : CountedBlock = record {
      code = 2 ^ 16 - 1 - c.number_in_two.result;
      last_reset = (255 - slice_index stored (at + 2)) == 1;
      last_auxiliary = (255 - slice_index stored (at + 3)) == 1;
      mode = 255 - slice_index stored (at + 4);
      remains = 2 ^ 32 - 1 - c.number_in_four.result;
    } in
    let k = kept_of block in
    load_as stored at c.requires small k (omega arith) (omega arith)
    (stored_is (sixteen_at at stored) k (sixteen_long stored at c.requires small) (sixteen_small stored at c.requires small) code reset auxiliary mode timer
    zeros.0 zeros.1 zeros.2 zeros.3 zeros.4 zeros.5 zeros.6)
