-- Code reads at a place what was written there: an opcode, with room for the bytes that belong to it.
use Rattle.std.proofs.Common.{◌≡◌, ℕ, suc, ◌+◌, ◌<◌, false, List, ◌∷◌, ◌++◌, length, sym, ap, ◌∙◌, arith, length-append}
use Rattle.std.specs.Prelude.{slice_index, nat_le, nat_lt}
use Rattle.std.proofs.lemmas.Grind.{common_steps}
use Rattle.std.proofs.lemmas.Bool.{lt-leb}

pub index_there : (pre bs post : List ℕ) (j : ℕ) → j < length bs → slice_index (pre ++ (bs ++ post)) (length pre + j) ≡ slice_index bs j
index_there pre bs post j h = grind (arith, common_steps)

-- the code's byte at a place, where there is room for n of them
pub record HasOpcode (code : List ℕ) (at opcode n : ℕ) : Type 0 where
  pub is_op : slice_index code at ≡ opcode
  pub in_code : nat_le (length code) at ≡ false
  pub room : nat_lt (length code) (at + n) ≡ false

pub has_opcode : (pre bs post : List ℕ) (b n : ℕ) → length (b ∷ bs) ≡ n → HasOpcode (pre ++ ((b ∷ bs) ++ post)) (length pre) b n
has_opcode pre bs post b n len =
    let all = length-append pre ((b ∷ bs) ++ post) in
    let more = length-append (b ∷ bs) post in
    let e : length pre + 0 ≡ length pre = omega arith in
    let i = index_there pre (b ∷ bs) post 0 (omega arith) in
    record {
      is_op = ap (λ k. slice_index (pre ++ ((b ∷ bs) ++ post)) k) (sym e) ∙ i;
      in_code = lt-leb (length (pre ++ ((b ∷ bs) ++ post))) (length pre) (omega arith);
      room = lt-leb (suc (length (pre ++ ((b ∷ bs) ++ post)))) (length pre + n) (omega arith);
    }
