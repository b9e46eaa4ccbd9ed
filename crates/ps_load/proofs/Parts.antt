-- The parts of the texts of a load.
use Rattle.std.proofs.Common.{◌≡◌, ◌≤◌, ◌<◌, ◌+◌, ◌-◌, ◌*◌, ◌++◌, ◌∙◌, ℕ, zero, suc, List, length, take, drop, ap, sym, refl, arith}
use Rattle.std.specs.Prelude.{flat_map}
use Rattle.std.specs.List.{range_with_len}
use Rattle.std.proofs.Math.Seq.{drop-append-add, take-append-add, take-add, drop-drop}
use Rattle.std.proofs.lemmas.List.{take-append-le, drop-append-le, length-drop, length-append, take_all, length-take-le}
use Rattle.ps_load.specs.Texts.{scan_line, header_line, trace_text}

-- a line has 27 bytes
line_length : (k : ℕ) → length (scan_line k) ≡ 27
line_length k = refl

-- so many bytes have the lines of scans
lines_length : (a m : ℕ) → length (flat_map scan_line (range_with_len a m)) ≡ 27 * m
lines_length a zero = refl
lines_length a (suc m) = omega (arith, length-append (scan_line a) (flat_map scan_line (range_with_len (a + 1) m)), line_length a, lines_length (a + 1) m)

-- a part of the line of one scan, among the lines of scans from a number on
line_part : (a m k b p n at : ℕ) → k < m → b ≡ a + k → at ≡ 27 * k + p → p + n ≤ 27 →
    take n (drop at (flat_map scan_line (range_with_len a m))) ≡ take n (drop p (scan_line b))
line_part a zero k b p n at lt is place fits = absurd (omega (arith, lt))
line_part a (suc m) zero b p n at lt is place fits =
    let later = flat_map scan_line (range_with_len (a + 1) m) in
    let at_is : at ≡ p = omega (arith, place) in
    let b_is : b ≡ a = omega (arith, is) in
    let left : n ≤ length (drop p (scan_line a)) = omega (arith, length-drop p (scan_line a), line_length a, fits) in
    ap (λ x. take n (drop x (scan_line a ++ later))) at_is
    ∙ ap (take n) (drop-append-le p (scan_line a) later (omega (arith, line_length a, fits)))
    ∙ take-append-le n (drop p (scan_line a)) later left
    ∙ ap (λ x. take n (drop p (scan_line x))) (sym b_is)
line_part a (suc m) (suc k) b p n at lt is place fits =
    let later = flat_map scan_line (range_with_len (a + 1) m) in
    let at_is : at ≡ length (scan_line a) + (27 * k + p) = omega (arith, place, line_length a) in
    ap (λ x. take n (drop x (scan_line a ++ later))) at_is
    ∙ ap (take n) (drop-append-add (scan_line a) later (27 * k + p))
    ∙ line_part (a + 1) m k b p n (27 * k + p) (omega (arith, lt)) (omega (arith, is)) refl fits

-- how many bytes a trace has
pub trace_length : (n : ℕ) → length (trace_text n) ≡ 41 + 27000 * n
unfolding trace_text
trace_length n = omega (arith, length-append header_line (flat_map scan_line (range_with_len 0 (1000 * n))), lines_length 0 (1000 * n))

-- a part of its header
pub header_part : (load at n : ℕ) → at + n ≤ 41 → take n (drop at (trace_text load)) ≡ take n (drop at header_line)
unfolding trace_text
header_part load at n fits =
    let lines = flat_map scan_line (range_with_len 0 (1000 * load)) in
    let left : n ≤ length (drop at header_line) = omega (arith, length-drop at header_line, fits) in
    ap (take n) (drop-append-le at header_line lines (omega (arith, fits))) ∙ take-append-le n (drop at header_line) lines left

-- a part of a scan's line
pub scan_part : (load k p n at : ℕ) → k < 1000 * load → at ≡ 41 + (27 * k + p) → p + n ≤ 27 → take n (drop at (trace_text load)) ≡ take n (drop p (scan_line k))
unfolding trace_text
scan_part load k p n at lt place fits =
    let lines = flat_map scan_line (range_with_len 0 (1000 * load)) in
    let at_is : at ≡ length header_line + (27 * k + p) = omega (arith, place) in
    ap (λ x. take n (drop x (header_line ++ lines))) at_is
    ∙ ap (take n) (drop-append-add header_line lines (27 * k + p))
    ∙ line_part 0 (1000 * load) k k p n (27 * k + p) lt (omega arith) refl fits

-- one part more was read
pub read_more : (text buffer part : List ℕ) (at done k : ℕ) → done ≤ length buffer → take done buffer ≡ take done (drop at text) → take k part ≡ take k (drop (at + done) text) →
    (buffer' : List ℕ) → take (done + k) buffer' ≡ take done buffer ++ take k part → take (done + k) buffer' ≡ take (done + k) (drop at text)
read_more text buffer part at done k fits so_far more buffer' is =
    is ∙ ap (λ l. l ++ take k part) so_far ∙ ap (λ l. take done (drop at text) ++ l) (more ∙ ap (take k) (sym (drop-drop done at text))) ∙ sym (take-add done k (drop at text))

-- the rest of a text after a place, taken as a part of known length
pub part_is_rest : (text part : List ℕ) (p size n : ℕ) → part ≡ text → length text ≡ size → take n (take (size - p) (drop p part)) ≡ take n (drop p text)
part_is_rest text part p size n is long =
    ap (λ l. take n (take (size - p) (drop p l))) is ∙ ap (take n) (take_all (size - p) (drop p text) (omega (arith, length-drop p text, long)))

-- the first bytes of a buffer, into which a part was read after others
pub first_and_part : (buffer part after : List ℕ) (done k : ℕ) → done ≤ length buffer → k ≤ length part →
    take (done + k) (take done buffer ++ (part ++ after)) ≡ take done buffer ++ take k part
first_and_part buffer part after done k fits small =
    let size : done + k ≡ length (take done buffer) + k = omega (arith, length-take-le done buffer fits) in
    ap (λ n. take n (take done buffer ++ (part ++ after))) size
    ∙ take-append-add (take done buffer) (part ++ after) k
    ∙ ap (λ l. take done buffer ++ l) (take-append-le k part after small)
