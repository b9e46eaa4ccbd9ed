-- A head says one length, and of the bytes ahead one head is read.
use Rattle.std.proofs.Common.{◌≡◌, ◌∙◌, ◌<◌, ◌≤◌, ◌+◌, ◌-◌, ℕ, List, [], ◌++◌, length, take, drop, sym, ap, subst, true, false, true≢false, refl, arith, append_assoc, inl, inr}
use Rattle.std.specs.Char.{is_ascii_whitespace, to_ascii_lowercase}
use Rattle.std.specs.List.{prefix_len, suffix_len}
use Rattle.std.specs.Str.{IsTrimAscii}
use Rattle.std.specs.Str.Parse.{digits_value, without_leading_plus}
use Rattle.std.proofs.lemmas.Bool.{cases_order}
use Rattle.std.proofs.lemmas.List.{append_cancel_left, length-append, length-map, take-append-le, take_at}
use Rattle.std.proofs.lemmas.Str.Ascii.{trim_ascii_is}
use Rattle.ps_text.specs.Quoted.{line_of}
use Rattle.ps_lsp_rpc.specs.Frames.{Gives, IsHeadOf, IsMessage, SaysFirst, SaysLength, SaysNoneBefore, Tells, is_whole}
use Rattle.ps_lsp_rpc.specs.declared.heads.TheConstants.{MOST_LINES}
use Rattle.ps_lsp_rpc.specs.declared.reading.TheConstants.{LARGEST_MESSAGE, LONGEST_HEAD}
use Rattle.ps_lsp_rpc.specs.declared.reading.Frame.{Frame}
use Rattle.ps_lsp_rpc.specs.declared.reading.Frame.TheVariants.{Message, End, Headless, TooLong, Cut}

-- two beginnings of the same bytes that are as long are the same, and so is what stands after them
pub same_front : (a b c d : List ℕ) → a ++ b ≡ c ++ d → length a ≡ length c → (a ≡ c) × (b ≡ d)
same_front a b c d same size =
    let front : a ≡ c = sym (take_at a b (length a) refl) ∙ ap (take (length a)) same ∙ take_at c d (length a) (sym size) in
    (front, append_cancel_left c b d (ap (λ (t : List ℕ). t ++ b) (sym front) ∙ same))

-- what is left of the same bytes without the blanks around them is the same
pub same_trimmed : (s t r q : List ℕ) → s ≡ t → IsTrimAscii s r → IsTrimAscii t q → r ≡ q
same_trimmed s t r q same one other =
    let behind : List ℕ → List ℕ = λ (w : List ℕ). drop (prefix_len is_ascii_whitespace w) w in
    trim_ascii_is s r (behind s) refl one
    ∙ ap (λ (w : List ℕ). take (length (behind w) - suffix_len is_ascii_whitespace (behind w)) (behind w)) same
    ∙ sym (trim_ascii_is t q (behind t) refl other)

-- a line says one length at most
pub one_length : (line : List ℕ) (n m : ℕ) → SaysLength line n → SaysLength line m → n ≡ m
one_length line n m p q =
    let size : length p.name ≡ length q.name =
    sym (length-map p.name to_ascii_lowercase) ∙ ap length p.named ∙ sym (ap length q.named) ∙ length-map q.name to_ascii_lowercase in
    let split = same_front p.name p.rest q.name q.rest (sym p.is ∙ q.is) size in
    let digits : p.digits ≡ q.digits = same_trimmed p.rest q.rest p.digits q.digits split.1 p.trimmed q.trimmed in
    p.value ∙ ap (λ (w : List ℕ). digits_value 10 (without_leading_plus w)) digits ∙ sym q.value

-- a head says one length at most
pub one_first : (head : List ℕ) (n m : ℕ) → SaysFirst head n → SaysFirst head m → n ≡ m
one_first head n m p q = elim (cases_order p.line q.line) [
  | inl same ↦ one_length (line_of head q.line) n m (subst (λ (k : ℕ). SaysLength (line_of head k) n) same p.says) q.says
  | inr other ↦ elim other [
    | inl less ↦ absurd (q.first p.line n p.from less p.says)
    | inr more ↦ absurd (p.first q.line m q.from more q.says)
  ]
]

-- one line more that says no length
pub none_more : (head : List ℕ) (k : ℕ) → SaysNoneBefore head k → ((n : ℕ) → ¬ (SaysLength (line_of head k) n)) → SaysNoneBefore head (k + 1)
none_more head k before here = λ j n from below says. elim (cases_order j k) [
  | inl same ↦ here n (subst (λ (i : ℕ). SaysLength (line_of head i) n) same says)
  | inr other ↦ elim other [ inl less ↦ before j n from less says | inr more ↦ absurd (omega arith) ]
]

-- the first line that says a length is that of the head
pub first_said : (head : List ℕ) (k n : ℕ) → 0 < k → k ≤ MOST_LINES → SaysNoneBefore head k → SaysLength (line_of head k) n → SaysFirst head n
first_said head k n from upto before says = record { line = k; from = from; upto = upto; says = says; first = before }

-- a head that says no length says none
pub none_first : (head : List ℕ) (n : ℕ) → SaysNoneBefore head (MOST_LINES + 1) → SaysFirst head n → ⊥
none_first head n none says = none says.line n says.from (omega (arith, says.upto)) says.says

-- no bytes are a whole head and none
pub whole_or_not : (a b : List ℕ) → a ≡ b → is_whole a ≡ true → is_whole b ≡ false → ⊥
whole_or_not a b same whole part = true≢false (sym whole ∙ ap is_whole same ∙ part)

-- the head of a message at the front is the head that is read
pub one_head : (ahead head behind bytes body rest : List ℕ) → IsHeadOf ahead head behind → (m : IsMessage bytes body) →
    ahead ≡ bytes ++ rest → (head ≡ m.head) × (behind ≡ body ++ rest)
one_head ahead head behind bytes body rest h m same =
    let split : head ++ behind ≡ m.head ++ (body ++ rest) =
    sym h.is ∙ same ∙ ap (λ (t : List ℕ). t ++ rest) m.is ∙ append_assoc m.head body rest in
    elim (cases_order (length head) (length m.head)) [
      | inl size ↦ same_front head behind m.head (body ++ rest) split size
      | inr other ↦ elim other [
        | inl less ↦
            let front : head ≡ take (length head) m.head =
            sym (take_at head behind (length head) refl) ∙ ap (take (length head)) split
            ∙ take-append-le (length head) m.head (body ++ rest) (omega arith) in
            let part : is_whole head ≡ false = ap is_whole front ∙ m.first (length head) less in
            let short : length head < LONGEST_HEAD = omega (arith, m.short) in
            let none : behind ≡ [] = h.ends part short in
            let sizes : length head + length behind ≡ length m.head + length (body ++ rest) =
            sym (length-append head behind) ∙ ap length split ∙ length-append m.head (body ++ rest) in
            let zero : length behind ≡ 0 = ap length none in
            absurd (omega arith)
        | inr more ↦
            let front : m.head ≡ take (length m.head) head =
            sym (take_at m.head (body ++ rest) (length m.head) refl) ∙ ap (take (length m.head)) (sym split)
            ∙ take-append-le (length m.head) head behind (omega arith) in
            absurd (whole_or_not m.head (take (length m.head) head) front m.whole (h.first (length m.head) more))
      ]
    ]

-- what is told of the head of a message and of what is after it is the message
pub told : (head behind left body rest : List ℕ) (frame : Frame) → Tells head behind left frame → is_whole head ≡ true →
    SaysFirst head (length body) → length body ≤ LARGEST_MESSAGE → behind ≡ body ++ rest → (frame ≡ Message body) × (left ≡ rest)
told head behind left body rest (Message given) tells whole says small split =
    let size : length given ≡ length body = one_first head (length given) (length body) tells.1 says in
    let same = same_front given left body rest (sym tells.3 ∙ split) size in
    (ap Message same.0, same.1)
told head behind left body rest End tells whole says small split = absurd (whole_or_not head [] tells.0 whole refl)
told head behind left body rest Headless tells whole says small split = absurd (none_first head (length body) tells.1 says)
told head behind left body rest TooLong tells whole says small split = elim tells [
  | inl endless ↦ absurd (whole_or_not head head refl whole endless.0)
  | inr large ↦ let same = one_first head large.0 (length body) large.1 says in absurd (omega (arith, large.2))
]
told head behind left body rest Cut tells whole says small split = elim tells [
  | inl endless ↦ absurd (whole_or_not head head refl whole endless.0)
  | inr few ↦
      let same = one_first head few.0 (length body) few.1 says in
      let size = ap length split ∙ length-append body rest in
      absurd (omega (arith, few.2))
]

-- a message at the front is what is given
pub given : (ahead left bytes body rest : List ℕ) (frame : Frame) → Gives ahead left frame → IsMessage bytes body →
    ahead ≡ bytes ++ rest → (frame ≡ Message body) × (left ≡ rest)
given ahead left bytes body rest frame gives m same =
    let head = one_head ahead gives.0 gives.1 bytes body rest gives.2 m same in
    told gives.0 gives.1 left body rest frame gives.3 (ap is_whole head.0 ∙ m.whole)
    (subst (λ (t : List ℕ). SaysFirst t (length body)) (sym head.0) m.says) m.small head.1
