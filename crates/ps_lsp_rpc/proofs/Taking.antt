-- Bytes that are taken from a stream one by one.
use Rattle.std.proofs.Common.{◌≡◌, ◌<◌, ◌≤◌, ◌+◌, ℕ, List, [], ◌∷◌, ◌++◌, length, take, false, sym, ◌∙◌, ap, subst, true, refl, true≢false, arith, append_assoc, inl, inr, ◌≢◌, Result, Ok, Err, IfOk}
use Rattle.std.proofs.lemmas.List.{length-append}
use Rattle.std.proofs.lemmas.List.{take-append-le}
use Rattle.std.proofs.Math.Seq.{take-append_seam}
use Rattle.std.proofs.lemmas.Bool.{cases_lt}
use Rattle.ps_lsp_rpc.specs.Frames.{Gives, IsHeadOf, SaysFirst, SaysNoneBefore, Tells, is_whole}
use Rattle.ps_outside.specs.declared.reading.ReadFail.{ReadFail}
use Rattle.ps_lsp_rpc.specs.Streams.{TakesUpTo}
use Rattle.ps_lsp_rpc.specs.declared.heads.TheConstants.{MOST_LINES}
use Rattle.ps_lsp_rpc.specs.declared.reading.TheConstants.{LARGEST_MESSAGE, LONGEST_HEAD}
use Rattle.ps_lsp_rpc.specs.declared.reading.Frame.{Frame}
use Rattle.ps_lsp_rpc.specs.declared.reading.Frame.TheVariants.{Message, Headless, Cut}

-- one byte more is taken
pub taken_more : (all bytes before after now : List ℕ) (byte : ℕ) → all ≡ bytes ++ before → before ≡ byte ∷ after →
    now ≡ bytes ++ byte ∷ [] → all ≡ now ++ after
taken_more all bytes before after now byte so_far next pushed =
    so_far ∙ ap (λ (t : List ℕ). bytes ++ t) next ∙ sym (append_assoc bytes (byte ∷ []) after) ∙ ap (λ (t : List ℕ). t ++ after) (sym pushed)

-- no byte is left
pub taken_all : (all bytes before after : List ℕ) → all ≡ bytes ++ before → before ≡ [] → after ≡ [] → all ≡ bytes ++ after
taken_all all bytes before after so_far none left = so_far ∙ ap (λ (t : List ℕ). bytes ++ t) (none ∙ sym left)

-- no front of what is taken is a whole head, where none was and all that was taken is none
pub first_more : (bytes now : List ℕ) (byte : ℕ) → ((k : ℕ) → k < length bytes → is_whole (take k bytes) ≡ false) →
    is_whole bytes ≡ false → now ≡ bytes ++ byte ∷ [] → (k : ℕ) → k < length now → is_whole (take k now) ≡ false
first_more bytes now byte before here pushed k below = elim (cases_lt k (length bytes)) [
  | inl less ↦
      ap (λ (t : List ℕ). is_whole (take k t)) pushed ∙ ap is_whole (take-append-le k bytes (byte ∷ []) (omega arith)) ∙ before k less
  | inr more ↦
      let size : length now ≡ length bytes + 1 = ap length pushed ∙ length-append bytes (byte ∷ []) in
      let at : k ≡ length bytes = omega arith in
      ap (λ (t : List ℕ). is_whole (take k t)) pushed ∙ ap (λ (m : ℕ). is_whole (take m (bytes ++ byte ∷ []))) at
      ∙ ap is_whole (take-append_seam bytes (byte ∷ [])) ∙ here
]

-- what is read up to the end of the bytes is a head
pub head_ended : (ahead bytes before after : List ℕ) → ahead ≡ bytes ++ before → before ≡ [] → after ≡ [] → length bytes ≤ LONGEST_HEAD →
    ((k : ℕ) → k < length bytes → is_whole (take k bytes) ≡ false) → IsHeadOf ahead bytes after
head_ended ahead bytes before after so_far none left short first = record {
  is = taken_all ahead bytes before after so_far none left;
  short = short;
  first = first;
  ends = λ part less. left;
}

-- what is read up to an empty line, or of as many bytes as a head may have, is a head
pub head_full : (ahead bytes after : List ℕ) → ahead ≡ bytes ++ after → length bytes ≤ LONGEST_HEAD →
    ((k : ℕ) → k < length bytes → is_whole (take k bytes) ≡ false) → (length bytes < LONGEST_HEAD → is_whole bytes ≡ true) →
    IsHeadOf ahead bytes after
head_full ahead bytes after so_far short first whole = record {
  is = so_far;
  short = short;
  first = first;
  ends = λ part less. absurd (true≢false (sym (whole less) ∙ part));
}

-- the body that a head says
pub body_told : (head before after body : List ℕ) (count : ℕ) → is_whole head ≡ true → SaysFirst head count → count ≤ LARGEST_MESSAGE →
    TakesUpTo count before after body → length body ≡ count → Tells head before after (Message body)
body_told head before after body count whole says small taken size =
    (whole, subst (SaysFirst head) (sym size) says, omega arith, taken.is)

-- fewer bytes than a head says
pub cut_told : (head before after body : List ℕ) (count : ℕ) → SaysFirst head count →
    TakesUpTo count before after body → length body ≢ count → Tells head before after Cut
cut_told head before after body count says taken differs =
    let few : length body < count = omega (arith, taken.few, differs) in
    let none : after ≡ [] = taken.fewer few in
    let size : length before ≡ length body + length after = ap length taken.is ∙ length-append body after in
    let zero : length after ≡ 0 = ap length none in
    inr (count, says, omega arith)

-- what there is in place of a message where a head does not end
pub endless_gives : (ahead head behind shown other : List ℕ) (frame : Frame) → IsHeadOf ahead head behind → shown ≡ head → other ≡ head →
    is_whole other ≡ false →
    ((rest left : List ℕ) → is_whole shown ≡ false → length shown ≤ LONGEST_HEAD → (length shown < LONGEST_HEAD → rest ≡ []) →
    Tells shown rest left frame) →
    Gives ahead behind frame
endless_gives ahead head behind shown other frame of same seen part told =
    let part_of_head : is_whole head ≡ false = ap is_whole (sym seen) ∙ part in
    let tells : Tells shown behind behind frame =
    told behind behind (ap is_whole same ∙ part_of_head) (subst (λ (t : List ℕ). length t ≤ LONGEST_HEAD) (sym same) of.short)
    (λ less. of.ends part_of_head (subst (λ (t : List ℕ). length t < LONGEST_HEAD) same less)) in
    (head, behind, of, subst (λ (t : List ℕ). Tells t behind behind frame) same tells)

-- what the reading of a body gives after a head that says its length
pub body_gives : (ahead head behind left other third : List ℕ) (n : ℕ) (result : Result Frame ReadFail) → IsHeadOf ahead head behind →
    other ≡ head → is_whole other ≡ true → third ≡ head → SaysFirst third n →
    ((h : List ℕ) → is_whole h ≡ true → SaysFirst h n → IfOk result (Tells h behind left)) → IfOk result (Gives ahead left)
body_gives ahead head behind left other third n (Ok frame) of seen whole same says told =
    (head, behind, of, told head (ap is_whole (sym seen) ∙ whole) (subst (λ (t : List ℕ). SaysFirst t n) same says))
body_gives ahead head behind left other third n (Err failed) of seen whole same says told = tt

-- a head that says no length
pub headless_gives : (ahead head behind other third : List ℕ) → IsHeadOf ahead head behind → other ≡ head → is_whole other ≡ true →
    third ≡ head → SaysNoneBefore third (MOST_LINES + 1) → Gives ahead behind Headless
headless_gives ahead head behind other third of seen whole same none =
    (head, behind, of, (ap is_whole (sym seen) ∙ whole, subst (λ (t : List ℕ). SaysNoneBefore t (MOST_LINES + 1)) same none, refl))
