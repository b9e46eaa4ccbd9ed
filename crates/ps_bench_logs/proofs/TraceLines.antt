-- The lines of a trace are read as the items that they were written for.
use Rattle.std.proofs.Common.{◌≡◌, ◌≤◌, ◌<◌, ◌+◌, ◌-◌, ◌*◌, ◌^◌, ◌++◌, ◌∙◌, ◌==◌, ◌&&◌, ℕ, zero, suc, List, [], ◌∷◌, Bool, true, false, not, if◌then◌else◌, length, map, take, get_or, slice_index, flat_map, codes, decimal, nat_le, nat_lt, refl, sym, ap, subst, arith}
use Rattle.std.specs.List.{All, list_all, range_with_len}
use Rattle.std.specs.Str.Lines.{strip_carriage_return}
use Rattle.std.proofs.lemmas.Bool.{le-ltb}
use Rattle.std.proofs.lemmas.Bool.Decides.{nat_tests}
use Rattle.std.proofs.lemmas.Fmt.{digits_decimal, length-decimal-le}
use Rattle.std.proofs.lemmas.List.{append_assoc, append-nil, length-append}
use Rattle.std.proofs.lemmas.List.Folds.{list_all-append}
use Rattle.std.proofs.lemmas.List.FromFn.{length-range_with_len}
use Rattle.ps_base.specs.declared.limits.TheConstants.{LARGEST_TIME, LARGEST_TRACE, LONGEST_TRACE_LINE}
use Rattle.ps_lines.specs.Lines.{Line, HasNoLineFeed, raw_lines, lines_from, kept_of}
use Rattle.ps_lines.specs.Lines.Line.{Kept, Long, Large}
use Rattle.ps_lines.specs.Lines.RawLine.{Ended}
use Rattle.ps_lines.proofs.Cut.{raw_lines-ended}
use Rattle.ps_model.specs.Meaning.{Item}
use Rattle.ps_model.specs.Meaning.Item.{scan, restart}
use Rattle.ps_model.specs.Network.{Network, input_count}
use Rattle.ps_model.specs.Sound.{IsSound}
use Rattle.ps_model.specs.declared.named.Signal.{Signal}
use Rattle.ps_trace.specs.Header.{Header, input_names, header_said}
use Rattle.ps_trace.specs.Header.Header.{places}
use Rattle.ps_trace.specs.Scans.{Scans, scans_from, scans_of, onto_scans, inputs_of, last_after, onto_headed, header_from, scans_behind}
use Rattle.ps_trace.specs.Scans.End.{whole}
use Rattle.ps_trace.specs.Trace.{Said, line_said}
use Rattle.ps_trace.specs.Trace.Said.{restarts, scans}
use Rattle.ps_trace.specs.Words.{fields, is_blank}
use Rattle.ps_bench_cases.specs.Expanded.{header_line, value_text, scan_line, restart_line}
use Rattle.ps_bench_cases.specs.Legible.{IsSeen}
use Rattle.ps_bench_cases.specs.Traced.{IsWord}
use Rattle.ps_bench_cases.proofs.HeaderBack.{header_back, values_back}
use Rattle.ps_bench_cases.proofs.TraceBack.{no_feed, plain_digits}
use Rattle.ps_bench_cases.proofs.ReadBack.{both_hold, digits_of_traces, scan_back}

-- ---- Bytes of a line.

-- no byte below a space
abbrev is_plain : List ℕ → Bool
is_plain line = list_all (λ b. nat_le 32 b) line

not_return : (line : List ℕ) (k : ℕ) → is_plain line ≡ true → (slice_index line k == 13) ≡ false
not_return [] k plain = refl
not_return (b ∷ line) zero plain = let first : nat_le 32 b ≡ true = (both_hold (nat_le 32 b) (is_plain line) plain).0 in grind (arith, nat_tests)
not_return (b ∷ line) (suc k) plain = not_return line k (both_hold (nat_le 32 b) (is_plain line) plain).1

-- nothing is stripped from such bytes
stripped : (line : List ℕ) → is_plain line ≡ true → strip_carriage_return line ≡ line
stripped line plain = ap (λ (t : Bool). if t then take (length line - 1) line else line) (not_return line (length line - 1) plain)

plain_values : (ins : List Bool) → is_plain (flat_map value_text ins) ≡ true
plain_values [] = refl
plain_values (true ∷ ins) = plain_values ins
plain_values (false ∷ ins) = plain_values ins

plain_both : (a b : List ℕ) → is_plain a ≡ true → is_plain b ≡ true → is_plain (a ++ b) ≡ true
plain_both a b first second = list_all-append (λ c. nat_le 32 c) a b ∙ ap (λ (t : Bool). t && is_plain b) first ∙ second

-- ---- Reading.

-- the lines from an offset on
abbrev lines : ℕ → List ℕ → List Line
lines at text = lines_from LARGEST_TRACE LONGEST_TRACE_LINE at (raw_lines text)

-- items before others
abbrev pub onto : List Item → Scans → Scans
onto items s = record { items = items ++ s.items; end = s.end }

-- a line that is kept, and what is after it
line_front : (at : ℕ) (line kept rest : List ℕ) → HasNoLineFeed line → length line ≤ LONGEST_TRACE_LINE → strip_carriage_return line ≡ kept →
    at + length ((line ++ codes "\n") ++ rest) ≤ LARGEST_TRACE →
    lines at ((line ++ codes "\n") ++ rest) ≡ Kept kept ∷ lines (at + length (line ++ codes "\n")) rest
line_front at line kept rest one short is fits =
    let size : length (line ++ codes "\n") ≡ length line + 1 = length-append line (codes "\n") in
    let all : length ((line ++ codes "\n") ++ rest) ≡ length (line ++ codes "\n") + length rest = length-append (line ++ codes "\n") rest in
    let small : at + (length line + 1) ≤ LARGEST_TRACE = omega (arith, size, all, fits) in
    ap (λ (text : List ℕ). lines at text) (append_assoc line (codes "\n") rest)
    ∙ ap (lines_from LARGEST_TRACE LONGEST_TRACE_LINE at) (raw_lines-ended line rest one)
    ∙ ap (λ (t : Bool). (if t then Large else kept_of LONGEST_TRACE_LINE (Ended line)) ∷ lines (at + (length line + 1)) rest) (le-ltb LARGEST_TRACE (at + (length line + 1)) small)
    ∙ ap (λ (t : Bool). (if t then Long else Kept (strip_carriage_return line)) ∷ lines (at + (length line + 1)) rest) (le-ltb LONGEST_TRACE_LINE (length line) short)
    ∙ ap (λ (k : List ℕ). Kept k ∷ lines (at + (length line + 1)) rest) is
    ∙ ap (λ (n : ℕ). Kept kept ∷ lines (at + n) rest) (sym size)

module _ (inputs : ℕ) where
  -- what is read from an offset on
  abbrev pub scans_at : (number last at : ℕ) → List ℕ → Scans
  scans_at number last at text = scans_from (range_with_len 0 inputs) number last (lines at text)

  -- in front of any text these bytes are read as these items, and leave this time as the last
  abbrev pub Gives : List ℕ → List Item → (last after : ℕ) → Type 0
  Gives bytes items last after =
      (number at : ℕ) (rest : List ℕ) → at + length (bytes ++ rest) ≤ LARGEST_TRACE →
      (next : ℕ) × (scans_at number last at (bytes ++ rest) ≡ onto items (scans_at next after (at + length bytes) rest))

  pub gives_nothing : (last : ℕ) → Gives [] [] last last
  gives_nothing last number at rest fits = (number, ap (λ (n : ℕ). scans_at number last n rest) (omega arith))

  pub gives_both : (a b : List ℕ) (is js : List Item) (l m n : ℕ) → Gives a is l m → Gives b js m n → Gives (a ++ b) (is ++ js) l n
  gives_both a b is js l m n first second number at rest fits =
      let whole : (a ++ b) ++ rest ≡ a ++ (b ++ rest) = append_assoc a b rest in
      let sizes : length (a ++ (b ++ rest)) ≡ length a + length (b ++ rest) = length-append a (b ++ rest) in
      let same : length ((a ++ b) ++ rest) ≡ length (a ++ (b ++ rest)) = ap (λ (t : List ℕ). length t) whole in
      let one = first number at (b ++ rest) (omega (arith, fits, same)) in
      let two = second one.0 (at + length a) rest (omega (arith, fits, same, sizes)) in
      let ends : at + length a + length b ≡ at + length (a ++ b) = omega (arith, length-append a b) in (
        two.0,
        ap (λ (t : List ℕ). scans_at number l at t) whole ∙ one.1 ∙ ap (onto is) two.1
            ∙ ap (λ (at : ℕ). onto is (onto js (scans_at two.0 n at rest))) ends
            ∙ ap (λ (all : List Item). record { items = all; end = (scans_at two.0 n (at + length (a ++ b)) rest).end }) (sym (append_assoc is js (scans_at two.0 n (at + length (a ++ b)) rest).items)),
      )

  -- a line is read as what it says
  said_front : (said : Said) (number last at : ℕ) (line kept rest : List ℕ) → HasNoLineFeed line → length line ≤ LONGEST_TRACE_LINE → strip_carriage_return line ≡ kept →
      line_said inputs last (fields kept) ≡ said → at + length ((line ++ codes "\n") ++ rest) ≤ LARGEST_TRACE →
      scans_at number last at ((line ++ codes "\n") ++ rest)
      ≡ onto_scans (range_with_len 0 inputs) said number (scans_at (number + 1) (last_after said last) (at + length (line ++ codes "\n")) rest)
  said_front said number last at line kept rest one short is says fits =
      let behind = lines (at + length (line ++ codes "\n")) rest in
      let found = range_with_len 0 inputs in
      let says_so : line_said (length found) last (fields kept) ≡ said = ap (λ (n : ℕ). line_said n last (fields kept)) (length-range_with_len 0 inputs) ∙ says in
      ap (scans_from found number last) (line_front at line kept rest one short is fits)
      ∙ ap (λ (s : Said). onto_scans found s number (scans_from found (number + 1) (last_after s last) behind)) says_so

  pub gives_restart : (last : ℕ) → Gives restart_line (restart ∷ []) last last
  gives_restart last number at rest fits =
      (number + 1, said_front restarts number last at (codes "restart") (codes "restart") rest refl (omega arith) refl refl fits)

  pub gives_scan : (now last : ℕ) (ins : List Bool) → length ins ≡ inputs → inputs ≤ 512 → now ≤ LARGEST_TIME → last ≤ now → Gives (scan_line now ins) (scan now ins ∷ []) last now
  gives_scan now last ins size few small on =
      let body = decimal now ++ flat_map value_text ins in
      let fits64 : now < 2 ^ 64 = omega (arith, small) in
      let plain : is_plain body ≡ true = plain_both (decimal now) (flat_map value_text ins) (plain_digits (decimal now) (digits_decimal digits_of_traces now fits64)) (plain_values ins) in
      let digits : length (decimal now) ≤ 10 = length-decimal-le 10 now (omega arith) (omega (arith, small)) fits64 in
      let short : length body ≤ LONGEST_TRACE_LINE = omega (arith, length-append (decimal now) (flat_map value_text ins), values_length ins, digits, size, few) in
      let says : line_said inputs last (fields body) ≡ scans now ins = subst (λ (n : ℕ). line_said n last (fields body) ≡ scans now ins) size (scan_back now last ins small on) in
      let same : scan_line now ins ≡ body ++ codes "\n" = sym (append_assoc (decimal now) (flat_map value_text ins) (codes "\n")) in
      let back : inputs_of (range_with_len 0 inputs) ins ≡ ins = subst (λ (n : ℕ). inputs_of (range_with_len 0 n) ins ≡ ins) size (values_back ins) in
      subst (λ (t : List ℕ). Gives t (scan now ins ∷ []) last now) (sym same)
      (λ number at rest fits. let later = scans_at (number + 1) now (at + length (body ++ codes "\n")) rest in (
        number + 1,
        said_front (scans now ins) number last at body body rest (no_feed body plain) short (stripped body plain) says fits
            ∙ ap (λ (values : List Bool). record { items = scan now values ∷ later.items; end = later.end }) back,
      ))
    where
      values_length : (vs : List Bool) → length (flat_map value_text vs) ≡ 2 * length vs
      values_length [] = refl
      values_length (v ∷ vs) = omega (arith, length-append (value_text v) (flat_map value_text vs), values_length vs)

-- ---- The header.

word_of_seen : (bytes : List ℕ) → list_all (λ b. nat_lt 32 b) bytes ≡ true → (list_all (λ b. not (is_blank b)) bytes ≡ true) × (is_plain bytes ≡ true)
word_of_seen [] seen = (refl, refl)
word_of_seen (b ∷ bytes) seen =
    let both = both_hold (nat_lt 32 b) (list_all (λ c. nat_lt 32 c) bytes) seen in
    let first : nat_lt 32 b ≡ true = both.0 in
    let rest = word_of_seen bytes both.1 in
    let words : list_all (λ c. not (is_blank c)) bytes ≡ true = rest.0 in
    let plain : is_plain bytes ≡ true = rest.1 in
    (grind (arith, nat_tests), grind (arith, nat_tests))

has_words : (ns : List (List ℕ)) → All IsSeen ns → All IsWord ns
has_words ns each k d within = let seen = each k d within in record { some = seen.some; plain = (word_of_seen (get_or ns k d) seen.seen).0 }

plain_names : (ss : List Signal) → All IsSeen (map (λ (s : Signal). s.name) ss) → is_plain (flat_map (λ (s : Signal). 32 ∷ s.name) ss) ≡ true
plain_names [] each = refl
plain_names (s ∷ ss) each =
    plain_both (32 ∷ s.name) (flat_map (λ (t : Signal). 32 ∷ t.name) ss) ((word_of_seen s.name (each 0 [] (omega arith)).seen).1)
    (plain_names ss (λ k d within. each (suc k) d (omega (arith, within))))

-- a header, and after it bytes that are read as items
pub read_behind : (net : Network) (bytes : List ℕ) (items : List Item) (after : ℕ) → IsSound net → All IsSeen (input_names net) →
    length (header_line net) ≤ LONGEST_TRACE_LINE + 1 → length (header_line net ++ bytes) ≤ LARGEST_TRACE → Gives (input_count net) bytes items 0 after →
    scans_of (header_line net ++ bytes) net ≡ record { items = items; end = whole }
read_behind net bytes items after sound seen long fits_all gives =
    let n = input_count net in
    let names = flat_map (λ (s : Signal). 32 ∷ s.name) net.inputs in
    let body = codes "time" ++ names in
    let found = range_with_len 0 n in
    let header : header_line net ≡ body ++ codes "\n" = sym (append_assoc (codes "time") names (codes "\n")) in
    let whole_text : header_line net ++ bytes ≡ (body ++ codes "\n") ++ bytes = ap (λ (h : List ℕ). h ++ bytes) header in
    let plain : is_plain body ≡ true = plain_names net.inputs seen in
    let size : length (header_line net) ≡ length (body ++ codes "\n") = ap (λ (h : List ℕ). length h) header in
    let short : length body ≤ LONGEST_TRACE_LINE = omega (arith, long, size, length-append body (codes "\n")) in
    let off = 0 + length (body ++ codes "\n") in
    let fits : 0 + length ((body ++ codes "\n") ++ bytes) ≤ LARGEST_TRACE = omega (arith, fits_all, ap (λ (t : List ℕ). length t) whole_text) in
    let all_lines : lines 0 (header_line net ++ bytes) ≡ Kept body ∷ lines off bytes = ap (lines 0) whole_text ∙ line_front 0 body body bytes (no_feed body plain) short (stripped body plain) fits in
    let said : header_said (input_names net) (fields body) ≡ places found = header_back net sound (has_words (input_names net) seen) in
    let nil : bytes ++ [] ≡ bytes = append-nil bytes in
    let ends : off + length (bytes ++ []) ≤ LARGEST_TRACE = omega (arith, fits, length-append (body ++ codes "\n") bytes, ap (λ (t : List ℕ). length t) nil) in
    let read = gives 2 off [] ends in
    ap (λ (ls : List Line). scans_behind (header_from (input_names net) 1 ls)) all_lines
    ∙ ap (λ (h : Header). scans_behind (onto_headed h 1 2 (lines off bytes) (header_from (input_names net) 2 (lines off bytes)))) said
    ∙ ap (λ (t : List ℕ). scans_at n 2 0 off t) (sym nil)
    ∙ read.1
    ∙ ap (λ (is : List Item). record { items = is; end = whole }) (append-nil items)
