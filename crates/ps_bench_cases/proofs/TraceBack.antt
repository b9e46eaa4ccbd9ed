-- The trace of all cases is read as the items that the cases mean.
use Rattle.std.proofs.Common.{◌≡◌, ◌≤◌, ◌<◌, ◌+◌, ◌-◌, ◌*◌, ◌^◌, ◌++◌, ◌∙◌, ◌==◌, ◌&&◌, ℕ, zero, suc, List, [], ◌∷◌, Bool, true, false, not, if◌then◌else◌, length, map, take, get_or, slice_index, flat_map, fold, replicate, codes, decimal, nat_le, nat_lt, refl, sym, ap, subst, arith}
use Rattle.std.specs.List.{All, list_all, list_any, range_with_len}
use Rattle.std.specs.List.Sorted.{IsNonDecreasing}
use Rattle.std.specs.Char.{is_ascii_digit}
use Rattle.std.specs.Str.Lines.{strip_carriage_return}
use Rattle.std.proofs.lemmas.Bool.{le-ltb}
use Rattle.std.proofs.lemmas.Bool.Decides.{nat_tests}
use Rattle.std.proofs.lemmas.Fmt.{digits_decimal, length-decimal-le}
use Rattle.std.proofs.lemmas.List.{append_assoc, append-nil, map-append, length-append, length-replicate}
use Rattle.std.proofs.lemmas.List.Folds.{list_all-append}
use Rattle.std.proofs.lemmas.List.FromFn.{length-range_with_len}
use Rattle.ps_base.specs.declared.limits.TheConstants.{LARGEST_TIME, LARGEST_TRACE, LONGEST_TRACE_LINE}
use Rattle.ps_lines.specs.Lines.{Line, HasNoLineFeed, raw_lines, lines_from, kept_of}
use Rattle.ps_lines.specs.Lines.Line.{Kept, Long, Large}
use Rattle.ps_lines.specs.Lines.RawLine.{Ended}
use Rattle.ps_lines.proofs.Cut.{raw_lines-ended}
use Rattle.ps_model.specs.Meaning.{Item}
use Rattle.ps_model.specs.Meaning.Item.{scan, restart}
use Rattle.ps_model.specs.Network.{Network, input_count}
use Rattle.ps_model.specs.Sound.{IsSound}
use Rattle.ps_model.specs.declared.named.Signal.{Signal}
use Rattle.ps_model.specs.declared.channel.Fault.{Fault as Strike}
use Rattle.ps_trace.specs.Header.{Header, input_names, header_said}
use Rattle.ps_trace.specs.Header.Header.{places}
use Rattle.ps_trace.specs.Scans.{Scans, scans_from, scans_of, onto_scans, inputs_of, last_after, onto_headed, header_from, scans_behind}
use Rattle.ps_trace.specs.Scans.End.{whole}
use Rattle.ps_trace.specs.Trace.{Said, line_said}
use Rattle.ps_trace.specs.Trace.Said.{skips, restarts, scans}
use Rattle.ps_trace.specs.Words.{fields, is_blank}
use Rattle.ps_bench_cases.specs.declared.case.Act.{Act}
use Rattle.ps_bench_cases.specs.declared.case.Act.TheVariants as act
use Rattle.ps_bench_cases.specs.declared.case.Case.{Case}
use Rattle.ps_bench_cases.specs.declared.case.CaseFile.{CaseFile}
use Rattle.ps_bench_cases.specs.declared.case.Pace.{Pace}
use Rattle.ps_bench_cases.specs.declared.case.Statement.{Statement}
use Rattle.ps_bench_cases.specs.declared.point.Point.{Point}
use Rattle.ps_bench_cases.specs.Expanded.{header_line, value_text, scan_line, restart_line, name_line, fault_line, act_text, point_set, point_after, next_point, statements_text, begin_point, end_point, case_text, cases_text, expanded}
use Rattle.ps_bench_cases.specs.Joined.{later, later_item, joined, items_of_file}
use Rattle.ps_bench_cases.specs.Legible.{IsSeen, IsLine, IsOneLine, IsInTime, IsLegible}
use Rattle.ps_bench_cases.specs.Meant.{items_from, items_made, items_of, time_at, times_in, times_made, times_of, whole_case}
use Rattle.ps_bench_cases.specs.Runnable.{IsRunnable}
use Rattle.ps_bench_cases.specs.Traced.{IsWord}
use Rattle.ps_bench_cases.proofs.HeaderBack.{header_back, values_back}
use Rattle.ps_bench_cases.proofs.Points.{next_base, set_size}
use Rattle.ps_bench_cases.proofs.ReadBack.{both_hold, digits_of_traces, scan_back}

-- ---- Bytes of a line.

-- no byte below a space
abbrev is_plain : List ℕ → Bool
is_plain line = list_all (λ b. nat_le 32 b) line

pub no_feed : (line : List ℕ) → is_plain line ≡ true → HasNoLineFeed line
no_feed [] plain = refl
no_feed (b ∷ line) plain =
    let both = both_hold (nat_le 32 b) (is_plain line) plain in
    let rest : list_any (λ c. c == 10) line ≡ false = no_feed line both.1 in
    let first : nat_le 32 b ≡ true = both.0 in
    grind (arith, nat_tests)

not_return : (line : List ℕ) (k : ℕ) → is_plain line ≡ true → (slice_index line k == 13) ≡ false
not_return [] k plain = refl
not_return (b ∷ line) zero plain = let first : nat_le 32 b ≡ true = (both_hold (nat_le 32 b) (is_plain line) plain).0 in grind (arith, nat_tests)
not_return (b ∷ line) (suc k) plain = not_return line k (both_hold (nat_le 32 b) (is_plain line) plain).1

-- nothing is stripped from such bytes
stripped : (line : List ℕ) → is_plain line ≡ true → strip_carriage_return line ≡ line
stripped line plain = ap (λ (t : Bool). if t then take (length line - 1) line else line) (not_return line (length line - 1) plain)

pub plain_digits : (digits : List ℕ) → list_all is_ascii_digit digits ≡ true → is_plain digits ≡ true
plain_digits [] are = refl
plain_digits (b ∷ digits) are =
    let both = both_hold (is_ascii_digit b) (list_all is_ascii_digit digits) are in
    let digit : is_ascii_digit b ≡ true = both.0 in
    let rest : is_plain digits ≡ true = plain_digits digits both.1 in
    grind (arith, nat_tests)

plain_values : (ins : List Bool) → is_plain (flat_map value_text ins) ≡ true
plain_values [] = refl
plain_values (true ∷ ins) = plain_values ins
plain_values (false ∷ ins) = plain_values ins

plain_both : (a b : List ℕ) → is_plain a ≡ true → is_plain b ≡ true → is_plain (a ++ b) ≡ true
plain_both a b first second = list_all-append (λ c. nat_le 32 c) a b ∙ ap (λ (t : Bool). t && is_plain b) first ∙ second

-- a line that begins with `#` is passed over, also where a carriage return ends it
hash_passed : (t : Bool) (k : ℕ) (more : List ℕ) → fields (if t then take (suc k) (35 ∷ more) else 35 ∷ more) ≡ []
hash_passed true k more = refl
hash_passed false k more = refl

comment_passed : (line : List ℕ) (b c : ℕ) (rest : List ℕ) → b ≡ 35 → line ≡ b ∷ c ∷ rest → fields (strip_carriage_return line) ≡ []
comment_passed line b c rest hash is =
    let far : length (35 ∷ c ∷ rest) - 1 ≡ suc (length rest) = omega arith in
    ap (λ (l : List ℕ). fields (strip_carriage_return l)) (is ∙ ap (λ (d : ℕ). d ∷ c ∷ rest) hash)
    ∙ ap (λ (n : ℕ). fields (if slice_index (35 ∷ c ∷ rest) n == 13 then take n (35 ∷ c ∷ rest) else 35 ∷ c ∷ rest)) far
    ∙ hash_passed (slice_index (35 ∷ c ∷ rest) (suc (length rest)) == 13) (length rest) (c ∷ rest)

-- the first two bytes of a comment
comment_begins : (line more : List ℕ) → line ++ 10 ∷ [] ≡ 35 ∷ 32 ∷ more → (b c : ℕ) × (rest : List ℕ) × (b ≡ 35) × (line ≡ b ∷ c ∷ rest)
comment_begins [] more is = let second : 0 ≡ 32 = ap (λ (l : List ℕ). get_or l 1 0) is in absurd (omega (arith, second))
comment_begins (x ∷ []) more is = let second : 10 ≡ 32 = ap (λ (l : List ℕ). get_or l 1 0) is in absurd (omega (arith, second))
comment_begins (x ∷ y ∷ rest) more is = (x, y, rest, ap (λ (l : List ℕ). get_or l 0 0) is, refl)

some : (n : ℕ) → (suc n == 0) ≡ false
some n = grind (arith, nat_tests)

-- ---- Times that do not fall.

-- the last of times, or this one
abbrev end_of : ℕ → List ℕ → ℕ
end_of last [] = last
end_of last (t ∷ ts) = end_of t ts

abbrev Rises : ℕ → List ℕ → Type 0
Rises last [] = Unit {0}
Rises last (t ∷ ts) = (last ≤ t) × Rises t ts

rises : (last : ℕ) (ts : List ℕ) → IsNonDecreasing (last ∷ ts) → Rises last ts
rises last [] on = tt
rises last (t ∷ ts) on = (on 0 1 0 (omega arith) (omega arith), rises t ts (λ i j d below within. on (suc i) (suc j) d (omega (arith, below)) (omega (arith, within))))

rises_first : (last : ℕ) (xs ys : List ℕ) → Rises last (xs ++ ys) → Rises last xs
rises_first last [] ys on = tt
rises_first last (x ∷ xs) ys on = (on.0, rises_first x xs ys on.1)

rises_second : (last : ℕ) (xs ys : List ℕ) → Rises last (xs ++ ys) → Rises (end_of last xs) ys
rises_second last [] ys on = on
rises_second last (x ∷ xs) ys on = rises_second x xs ys on.1

-- the last time of a pace
pace_end : (f : ℕ → ℕ) (a n last : ℕ) → end_of last (map f (range_with_len a (suc n))) ≡ f (a + n)
pace_end f a zero last = ap f (omega arith)
pace_end f a (suc n) last = pace_end f (a + 1) n (f a) ∙ ap f (omega arith)

-- items that are in time
abbrev pub InTime : List Item → Type 0
InTime [] = Unit {0}
InTime (item ∷ items) = IsInTime item × InTime items

pub in_time : (items : List Item) → All IsInTime items → InTime items
in_time [] each = tt
in_time (item ∷ items) each = (each 0 restart (omega arith), in_time items (λ k d within. each (suc k) d (omega (arith, within))))

in_time_first : (xs ys : List Item) → InTime (xs ++ ys) → InTime xs
in_time_first [] ys all = tt
in_time_first (x ∷ xs) ys all = (all.0, in_time_first xs ys all.1)

in_time_second : (xs ys : List Item) → InTime (xs ++ ys) → InTime ys
in_time_second [] ys all = all
in_time_second (x ∷ xs) ys all = in_time_second xs ys all.1

-- ---- Reading.

-- the lines from an offset on
abbrev lines : ℕ → List ℕ → List Line
lines at text = lines_from LARGEST_TRACE LONGEST_TRACE_LINE at (raw_lines text)

-- items before others
abbrev pub onto : List Item → Scans → Scans
onto items s = record { items = items ++ s.items; end = s.end }

-- a line that is kept, and what is after it
line_front : (at : ℕ) (line kept rest : List ℕ) → HasNoLineFeed line → length line ≤ LONGEST_TRACE_LINE → strip_carriage_return line ≡ kept →
    at + length ((line ++ codes "\n") ++ rest) ≤ LARGEST_TRACE →
    lines at ((line ++ codes "\n") ++ rest) ≡ Kept kept ∷ lines (at + length (line ++ codes "\n")) rest
line_front at line kept rest one short is fits =
    let size : length (line ++ codes "\n") ≡ length line + 1 = length-append line (codes "\n") in
    let all : length ((line ++ codes "\n") ++ rest) ≡ length (line ++ codes "\n") + length rest = length-append (line ++ codes "\n") rest in
    let small : at + (length line + 1) ≤ LARGEST_TRACE = omega (arith, size, all, fits) in
    ap (λ (text : List ℕ). lines at text) (append_assoc line (codes "\n") rest)
    ∙ ap (lines_from LARGEST_TRACE LONGEST_TRACE_LINE at) (raw_lines-ended line rest one)
    ∙ ap (λ (t : Bool). (if t then Large else kept_of LONGEST_TRACE_LINE (Ended line)) ∷ lines (at + (length line + 1)) rest) (le-ltb LARGEST_TRACE (at + (length line + 1)) small)
    ∙ ap (λ (t : Bool). (if t then Long else Kept (strip_carriage_return line)) ∷ lines (at + (length line + 1)) rest) (le-ltb LONGEST_TRACE_LINE (length line) short)
    ∙ ap (λ (k : List ℕ). Kept k ∷ lines (at + (length line + 1)) rest) is
    ∙ ap (λ (n : ℕ). Kept kept ∷ lines (at + n) rest) (sym size)

module _ (inputs : ℕ) where
  -- what is read from an offset on
  abbrev pub scans_at : (number last at : ℕ) → List ℕ → Scans
  scans_at number last at text = scans_from (range_with_len 0 inputs) number last (lines at text)

  -- in front of any text these bytes are read as these items, and leave this time as the last
  abbrev pub Gives : List ℕ → List Item → (last after : ℕ) → Type 0
  Gives bytes items last after =
      (number at : ℕ) (rest : List ℕ) → at + length (bytes ++ rest) ≤ LARGEST_TRACE →
      (next : ℕ) × (scans_at number last at (bytes ++ rest) ≡ onto items (scans_at next after (at + length bytes) rest))

  pub gives_nothing : (last : ℕ) → Gives [] [] last last
  gives_nothing last number at rest fits = (number, ap (λ (n : ℕ). scans_at number last n rest) (omega arith))

  pub gives_both : (a b : List ℕ) (is js : List Item) (l m n : ℕ) → Gives a is l m → Gives b js m n → Gives (a ++ b) (is ++ js) l n
  gives_both a b is js l m n first second number at rest fits =
      let whole : (a ++ b) ++ rest ≡ a ++ (b ++ rest) = append_assoc a b rest in
      let sizes : length (a ++ (b ++ rest)) ≡ length a + length (b ++ rest) = length-append a (b ++ rest) in
      let same : length ((a ++ b) ++ rest) ≡ length (a ++ (b ++ rest)) = ap (λ (t : List ℕ). length t) whole in
      let one = first number at (b ++ rest) (omega (arith, fits, same)) in
      let two = second one.0 (at + length a) rest (omega (arith, fits, same, sizes)) in
      let ends : at + length a + length b ≡ at + length (a ++ b) = omega (arith, length-append a b) in (
        two.0,
        ap (λ (t : List ℕ). scans_at number l at t) whole ∙ one.1 ∙ ap (onto is) two.1
            ∙ ap (λ (at : ℕ). onto is (onto js (scans_at two.0 n at rest))) ends
            ∙ ap (λ (all : List Item). record { items = all; end = (scans_at two.0 n (at + length (a ++ b)) rest).end }) (sym (append_assoc is js (scans_at two.0 n (at + length (a ++ b)) rest).items)),
      )

  -- a line is read as what it says
  said_front : (said : Said) (number last at : ℕ) (line kept rest : List ℕ) → HasNoLineFeed line → length line ≤ LONGEST_TRACE_LINE → strip_carriage_return line ≡ kept →
      line_said inputs last (fields kept) ≡ said → at + length ((line ++ codes "\n") ++ rest) ≤ LARGEST_TRACE →
      scans_at number last at ((line ++ codes "\n") ++ rest)
      ≡ onto_scans (range_with_len 0 inputs) said number (scans_at (number + 1) (last_after said last) (at + length (line ++ codes "\n")) rest)
  said_front said number last at line kept rest one short is says fits =
      let behind = lines (at + length (line ++ codes "\n")) rest in
      let found = range_with_len 0 inputs in
      let says_so : line_said (length found) last (fields kept) ≡ said = ap (λ (n : ℕ). line_said n last (fields kept)) (length-range_with_len 0 inputs) ∙ says in
      ap (scans_from found number last) (line_front at line kept rest one short is fits)
      ∙ ap (λ (s : Said). onto_scans found s number (scans_from found (number + 1) (last_after s last) behind)) says_so

  -- a line that is passed over
  gives_skip : (last : ℕ) (text line : List ℕ) (b c : ℕ) (rest : List ℕ) → text ≡ line ++ codes "\n" → b ≡ 35 → line ≡ b ∷ c ∷ rest → HasNoLineFeed line → length line ≤ LONGEST_TRACE_LINE →
      Gives text [] last last
  gives_skip last text line b c rest is hash begins one short =
      subst (λ (t : List ℕ). Gives t [] last last) (sym is)
      (λ number at behind fits. (number + 1, said_front skips number last at line (strip_carriage_return line) behind one short refl (ap (line_said inputs last) (comment_passed line b c rest hash begins)) fits))

  pub gives_restart : (last : ℕ) → Gives restart_line (restart ∷ []) last last
  gives_restart last number at rest fits =
      (number + 1, said_front restarts number last at (codes "restart") (codes "restart") rest refl (omega arith) refl refl fits)

  pub gives_scan : (now last : ℕ) (ins : List Bool) → length ins ≡ inputs → inputs ≤ 512 → now ≤ LARGEST_TIME → last ≤ now → Gives (scan_line now ins) (scan now ins ∷ []) last now
  gives_scan now last ins size few small on =
      let body = decimal now ++ flat_map value_text ins in
      let fits64 : now < 2 ^ 64 = omega (arith, small) in
      let plain : is_plain body ≡ true = plain_both (decimal now) (flat_map value_text ins) (plain_digits (decimal now) (digits_decimal digits_of_traces now fits64)) (plain_values ins) in
      let digits : length (decimal now) ≤ 10 = length-decimal-le 10 now (omega arith) (omega (arith, small)) fits64 in
      let short : length body ≤ LONGEST_TRACE_LINE = omega (arith, length-append (decimal now) (flat_map value_text ins), values_length ins, digits, size, few) in
      let says : line_said inputs last (fields body) ≡ scans now ins = subst (λ (n : ℕ). line_said n last (fields body) ≡ scans now ins) size (scan_back now last ins small on) in
      let same : scan_line now ins ≡ body ++ codes "\n" = sym (append_assoc (decimal now) (flat_map value_text ins) (codes "\n")) in
      let back : inputs_of (range_with_len 0 inputs) ins ≡ ins = subst (λ (n : ℕ). inputs_of (range_with_len 0 n) ins ≡ ins) size (values_back ins) in
      subst (λ (t : List ℕ). Gives t (scan now ins ∷ []) last now) (sym same)
      (λ number at rest fits. let later = scans_at (number + 1) now (at + length (body ++ codes "\n")) rest in (
        number + 1,
        said_front (scans now ins) number last at body body rest (no_feed body plain) short (stripped body plain) says fits
            ∙ ap (λ (values : List Bool). record { items = scan now values ∷ later.items; end = later.end }) back,
      ))
    where
      values_length : (vs : List Bool) → length (flat_map value_text vs) ≡ 2 * length vs
      values_length [] = refl
      values_length (v ∷ vs) = omega (arith, length-append (value_text v) (flat_map value_text vs), values_length vs)

  -- ---- The lines of a case.

  module _ (few : inputs ≤ 512) where
    -- scans of a case that begins at this time
    gives_scans : (base last : ℕ) (ins : List Bool) (ts : List ℕ) → length ins ≡ inputs → Rises last ts → InTime (later base (map (λ t. scan t ins) ts)) →
        Gives (flat_map (λ now. scan_line (base + now) ins) ts) (later base (map (λ t. scan t ins) ts)) (base + last) (base + end_of last ts)
    gives_scans base last ins [] size on small = gives_nothing (base + last)
    gives_scans base last ins (t ∷ ts) size on small =
        let here : Gives (scan_line (base + t) ins) (scan (t + base) ins ∷ []) (base + last) (base + t) =
        subst (λ (n : ℕ). Gives (scan_line (base + t) ins) (scan n ins ∷ []) (base + last) (base + t)) (omega arith)
        (gives_scan (base + t) (base + last) ins size few (omega (arith, small.0)) (omega (arith, on.0))) in
        gives_both (scan_line (base + t) ins) (flat_map (λ now. scan_line (base + now) ins) ts) (scan (t + base) ins ∷ []) (later base (map (λ u. scan u ins) ts))
        (base + last) (base + t) (base + end_of t ts) here (gives_scans base t ins ts size on.1 small.1)

    -- lines that are passed over, whenever they come
    abbrev Passed : List ℕ → Type 0
    Passed held = (last : ℕ) → Gives held [] last last

    -- a pace with so many scans
    gives_pace : (from step upto count : ℕ) (p : Point) → length p.ins ≡ inputs → Passed p.held → Rises p.time (times_of (record { from = from; step = step; upto = upto; count = count })) →
        InTime (later p.base (map (λ t. scan t p.ins) (times_of (record { from = from; step = step; upto = upto; count = count })))) →
        Gives (act_text p (act.Scans (record { from = from; step = step; upto = upto; count = count }))) (later p.base (map (λ t. scan t p.ins) (times_of (record { from = from; step = step; upto = upto; count = count }))))
        (p.base + p.time) (p.base + (point_after p (act.Scans (record { from = from; step = step; upto = upto; count = count }))).time)
    gives_pace from step upto zero p size held on small = gives_nothing (p.base + p.time)
    gives_pace from step upto (suc n) p size held on small =
        let pace : Pace = record { from = from; step = step; upto = upto; count = suc n } in
        let ends : end_of p.time (times_of pace) ≡ time_at pace (suc n) = pace_end (time_at pace) 1 n p.time ∙ ap (time_at pace) (omega arith) in
        let scans = flat_map (λ now. scan_line (p.base + now) p.ins) (times_of pace) in
        subst (λ (t : Bool). Gives (if t then [] else p.held ++ scans) (later p.base (map (λ t. scan t p.ins) (times_of pace))) (p.base + p.time) (p.base + (if t then p.time else time_at pace (suc n)))) (sym (some n))
        (gives_both p.held scans [] (later p.base (map (λ t. scan t p.ins) (times_of pace)))
        (p.base + p.time) (p.base + p.time) (p.base + time_at pace (suc n)) (held (p.base + p.time))
        (subst (λ (e : ℕ). Gives (flat_map (λ now. scan_line (p.base + now) p.ins) (times_of pace)) (later p.base (map (λ t. scan t p.ins) (times_of pace))) (p.base + p.time) (p.base + e)) ends
        (gives_scans p.base p.time p.ins (times_of pace) size on small)))

    -- a comment that is one line is passed over
    comment_line : (last : ℕ) (text : List ℕ) (more : List ℕ) → text ≡ 35 ∷ 32 ∷ more → IsLine text → Gives text [] last last
    comment_line last text more begins one =
        let head = comment_begins one.line more (sym one.is ∙ begins) in
        gives_skip last text one.line head.0 head.1 head.2 one.is head.3 head.4 one.one one.short

    fault_passed : (fault : Strike) → IsLine (fault_line fault) → Passed (fault_line fault)
    fault_passed fault one last = comment_line last (fault_line fault) _ refl one

    name_passed : (name : List ℕ) → IsLine (name_line name) → Passed (name_line name)
    name_passed name one last = comment_line last (name_line name) _ refl one

    -- what a line does
    gives_act : (p : Point) (a : Act) → length p.ins ≡ inputs → Passed p.held → Rises p.time (times_made a) → InTime (later p.base (items_made p.ins a)) → IsOneLine a →
        Gives (act_text p a) (later p.base (items_made p.ins a)) (p.base + p.time) (p.base + (point_after p a).time)
    gives_act p (act.Scans pace) size held on small one = gives_pace pace.from pace.step pace.upto pace.count p size held on small
    gives_act p (act.Fault fault) size held on small one = gives_nothing (p.base + p.time)
    gives_act p act.Set size held on small one = gives_nothing (p.base + p.time)
    gives_act p act.Restart size held on small one = gives_restart (p.base + p.time)
    gives_act p (act.Expect what) size held on small one = gives_nothing (p.base + p.time)

    held_behind : (count : ℕ) (held : List ℕ) → Passed held → Passed (if count == 0 then held else [])
    held_behind zero held passed = passed
    held_behind (suc n) held passed = subst (λ (t : Bool). Passed (if t then held else [])) (sym (some n)) gives_nothing

    held_passed : (p : Point) (a : Act) → Passed p.held → IsOneLine a → Passed (point_after p a).held
    held_passed p (act.Scans pace) held one = held_behind pace.count p.held held
    held_passed p (act.Fault fault) held one = λ last. gives_both p.held (fault_line fault) [] [] last last last (held last) (fault_passed fault one last)
    held_passed p act.Set held one = held
    held_passed p act.Restart held one = held
    held_passed p (act.Expect what) held one = held

    after_ins : (p : Point) (a : Act) → (point_after p a).ins ≡ p.ins
    after_ins p (act.Scans pace) = refl
    after_ins p (act.Fault fault) = refl
    after_ins p act.Set = refl
    after_ins p act.Restart = refl
    after_ins p (act.Expect what) = refl

    pace_time : (from step upto count time : ℕ) →
        end_of time (times_of (record { from = from; step = step; upto = upto; count = count })) ≡ (if count == 0 then time else time_at (record { from = from; step = step; upto = upto; count = count }) count)
    pace_time from step upto zero time = refl
    pace_time from step upto (suc n) time =
        let pace : Pace = record { from = from; step = step; upto = upto; count = suc n } in
        pace_end (time_at pace) 1 n time ∙ ap (time_at pace) (omega arith) ∙ sym (ap (λ (t : Bool). if t then time else time_at pace (suc n)) (some n))

    after_time : (p : Point) (a : Act) → end_of p.time (times_made a) ≡ (point_after p a).time
    after_time p (act.Scans pace) = pace_time pace.from pace.step pace.upto pace.count p.time
    after_time p (act.Fault fault) = refl
    after_time p act.Set = refl
    after_time p act.Restart = refl
    after_time p (act.Expect what) = refl

    -- statements
    gives_statements : (ss : List Statement) (p : Point) → length p.ins ≡ inputs → Passed p.held → Rises p.time (times_in ss) → InTime (later p.base (items_from p.ins ss)) →
        All (λ (s : Statement). IsOneLine s.act) ss →
        Gives (statements_text p ss) (later p.base (items_from p.ins ss)) (p.base + p.time) (p.base + (fold next_point p ss).time)
    gives_statements [] p size held on small each = gives_nothing (p.base + p.time)
    gives_statements (s ∷ ss) p size held on small each =
        let q = point_set p s.settings in
        let next = next_point p s in
        let made = items_made q.ins s.act in
        let more = items_from q.ins ss in
        let one : IsOneLine s.act = each 0 s (omega arith) in
        let split : later p.base (made ++ more) ≡ later p.base made ++ later p.base more = map-append (later_item p.base) made more in
        let times = subst InTime split small in
        let q_size : length q.ins ≡ inputs = set_size s.settings p.ins ∙ size in
        let ins : next.ins ≡ q.ins = after_ins q s.act in
        let base : next.base ≡ p.base = next_base p s in
        let first : Gives (act_text q s.act) (later p.base made) (p.base + p.time) (p.base + next.time) =
        gives_act q s.act q_size held (rises_first p.time (times_made s.act) (times_in ss) on) (in_time_first (later p.base made) (later p.base more) times) one in
        let on_next : Rises next.time (times_in ss) = subst (λ (t : ℕ). Rises t (times_in ss)) (after_time q s.act) (rises_second p.time (times_made s.act) (times_in ss) on) in
        let same : later next.base (items_from next.ins ss) ≡ later p.base more = ap (λ (b : ℕ). later b (items_from next.ins ss)) base ∙ ap (λ (is : List Bool). later p.base (items_from is ss)) ins in
        let rest : Gives (statements_text next ss) (later next.base (items_from next.ins ss)) (next.base + next.time) (next.base + (fold next_point next ss).time) =
        gives_statements ss next (ap (λ (is : List Bool). length is) ins ∙ q_size) (held_passed q s.act held one) on_next
        (subst InTime (sym same) (in_time_second (later p.base made) (later p.base more) times)) (λ k d within. each (suc k) d (omega (arith, within))) in
        let here : Gives (statements_text next ss) (later p.base more) (p.base + next.time) (p.base + (fold next_point next ss).time) =
        subst (λ (b : ℕ). Gives (statements_text next ss) (later p.base more) (b + next.time) (b + (fold next_point next ss).time)) base
        (subst (λ (is : List Item). Gives (statements_text next ss) is (next.base + next.time) (next.base + (fold next_point next ss).time)) same rest) in
        subst (λ (is : List Item). Gives (statements_text p (s ∷ ss)) is (p.base + p.time) (p.base + (fold next_point next ss).time)) (sym split)
        (gives_both (act_text q s.act) (statements_text next ss) (later p.base made) (later p.base more) (p.base + p.time) (p.base + next.time) (p.base + (fold next_point next ss).time) first here)

    -- a case that begins at this time
    gives_case : (base : ℕ) (name : List ℕ) (ss : List Statement) → IsLine (name_line name) → Rises 0 (times_in ss) → InTime (later base (items_from (replicate inputs false) ss)) →
        All (λ (s : Statement). IsOneLine s.act) ss →
        Gives (case_text inputs base name ss) (later base (items_from (replicate inputs false) ss)) base (base + (end_point inputs base ss).time)
    gives_case base name ss one on small each =
        let first : base + 0 ≡ base = omega arith in
        gives_both (name_line name) (statements_text (begin_point inputs base) ss) [] (later base (items_from (replicate inputs false) ss)) base base (base + (end_point inputs base ss).time)
        (name_passed name one base)
        (subst (λ (b : ℕ). Gives (statements_text (begin_point inputs base) ss) (later base (items_from (replicate inputs false) ss)) b (base + (end_point inputs base ss).time)) first
        (gives_statements ss (begin_point inputs base) (length-replicate inputs false) gives_nothing on small each))

-- ---- All cases.

module _ (net : Network) (few : input_count net ≤ 512) (begin : List Statement) where
  abbrev Each : List Case → Type 0
  Each cases =
      All (λ (c : Case). IsRunnable net (begin ++ c.statements)) cases × All (λ (c : Case). IsLine (name_line c.name)) cases
      × All (λ (c : Case). All (λ (s : Statement). IsOneLine s.act) (begin ++ c.statements)) cases

  gives_cases : (cases : List Case) (lead : List ℕ) (leading : List Item) (base : ℕ) → Gives (input_count net) lead leading base base → Each cases → InTime (joined net begin leading base cases) →
      (after : ℕ) × Gives (input_count net) (cases_text (input_count net) begin lead base cases) (joined net begin leading base cases) base after
  gives_cases [] lead leading base leads each small = (base, gives_nothing (input_count net) base)
  gives_cases (c ∷ cases) lead leading base leads each small =
      let n = input_count net in
      let ss = begin ++ c.statements in
      let own = later base (items_of net ss) in
      let next = base + (end_point n base ss).time in
      let more = joined net begin (restart ∷ []) next cases in
      let front = in_time_first (leading ++ own) more small in
      let this : Gives n (case_text n base c.name ss) own base next =
      gives_case n few base c.name ss (each.1 0 c (omega arith)) (rises 0 (times_in ss) (each.0 0 c (omega arith)).rising) (in_time_second leading own front) (each.2 0 c (omega arith)) in
      let behind = gives_cases cases restart_line (restart ∷ []) next (gives_restart n next)
      (λ k d within. each.0 (suc k) d (omega (arith, within)), λ k d within. each.1 (suc k) d (omega (arith, within)), λ k d within. each.2 (suc k) d (omega (arith, within)))
      (in_time_second (leading ++ own) more small) in (
        behind.0,
        gives_both n (lead ++ case_text n base c.name ss) (cases_text n begin restart_line next cases) (leading ++ own) more base next behind.0
            (gives_both n lead (case_text n base c.name ss) leading own base base next leads this) behind.1,
      )

-- ---- The header.

word_of_seen : (bytes : List ℕ) → list_all (λ b. nat_lt 32 b) bytes ≡ true → (list_all (λ b. not (is_blank b)) bytes ≡ true) × (is_plain bytes ≡ true)
word_of_seen [] seen = (refl, refl)
word_of_seen (b ∷ bytes) seen =
    let both = both_hold (nat_lt 32 b) (list_all (λ c. nat_lt 32 c) bytes) seen in
    let first : nat_lt 32 b ≡ true = both.0 in
    let rest = word_of_seen bytes both.1 in
    let words : list_all (λ c. not (is_blank c)) bytes ≡ true = rest.0 in
    let plain : is_plain bytes ≡ true = rest.1 in
    (grind (arith, nat_tests), grind (arith, nat_tests))

has_words : (ns : List (List ℕ)) → All IsSeen ns → All IsWord ns
has_words ns each k d within = let seen = each k d within in record { some = seen.some; plain = (word_of_seen (get_or ns k d) seen.seen).0 }

plain_names : (ss : List Signal) → All IsSeen (map (λ (s : Signal). s.name) ss) → is_plain (flat_map (λ (s : Signal). 32 ∷ s.name) ss) ≡ true
plain_names [] each = refl
plain_names (s ∷ ss) each =
    plain_both (32 ∷ s.name) (flat_map (λ (t : Signal). 32 ∷ t.name) ss) ((word_of_seen s.name (each 0 [] (omega arith)).seen).1)
    (plain_names ss (λ k d within. each (suc k) d (omega (arith, within))))

-- ---- The whole trace.

-- a header, and after it bytes that are read as items
pub read_behind : (net : Network) (bytes : List ℕ) (items : List Item) (after : ℕ) → IsSound net → All IsSeen (input_names net) →
    length (header_line net) ≤ LONGEST_TRACE_LINE + 1 → length (header_line net ++ bytes) ≤ LARGEST_TRACE → Gives (input_count net) bytes items 0 after →
    scans_of (header_line net ++ bytes) net ≡ record { items = items; end = whole }
read_behind net bytes items after sound seen long fits_all gives =
    let n = input_count net in
    let names = flat_map (λ (s : Signal). 32 ∷ s.name) net.inputs in
    let body = codes "time" ++ names in
    let found = range_with_len 0 n in
    let header : header_line net ≡ body ++ codes "\n" = sym (append_assoc (codes "time") names (codes "\n")) in
    let whole_text : header_line net ++ bytes ≡ (body ++ codes "\n") ++ bytes = ap (λ (h : List ℕ). h ++ bytes) header in
    let plain : is_plain body ≡ true = plain_names net.inputs seen in
    let size : length (header_line net) ≡ length (body ++ codes "\n") = ap (λ (h : List ℕ). length h) header in
    let short : length body ≤ LONGEST_TRACE_LINE = omega (arith, long, size, length-append body (codes "\n")) in
    let off = 0 + length (body ++ codes "\n") in
    let fits : 0 + length ((body ++ codes "\n") ++ bytes) ≤ LARGEST_TRACE = omega (arith, fits_all, ap (λ (t : List ℕ). length t) whole_text) in
    let all_lines : lines 0 (header_line net ++ bytes) ≡ Kept body ∷ lines off bytes = ap (lines 0) whole_text ∙ line_front 0 body body bytes (no_feed body plain) short (stripped body plain) fits in
    let said : header_said (input_names net) (fields body) ≡ places found = header_back net sound (has_words (input_names net) seen) in
    let nil : bytes ++ [] ≡ bytes = append-nil bytes in
    let ends : off + length (bytes ++ []) ≤ LARGEST_TRACE = omega (arith, fits, length-append (body ++ codes "\n") bytes, ap (λ (t : List ℕ). length t) nil) in
    let read = gives 2 off [] ends in
    ap (λ (ls : List Line). scans_behind (header_from (input_names net) 1 ls)) all_lines
    ∙ ap (λ (h : Header). scans_behind (onto_headed h 1 2 (lines off bytes) (header_from (input_names net) 2 (lines off bytes)))) said
    ∙ ap (λ (t : List ℕ). scans_at n 2 0 off t) (sym nil)
    ∙ read.1
    ∙ ap (λ (is : List Item). record { items = is; end = whole }) (append-nil items)

pub trace_back : (net : Network) (file : CaseFile) → IsSound net → All (λ (c : Case). IsRunnable net (whole_case file c)) file.cases → IsLegible net file →
    scans_of (expanded net file) net ≡ record { items = items_of_file net file; end = whole }
trace_back net file sound runs legible =
    let n = input_count net in
    let text = cases_text n file.begin [] 0 file.cases in
    let gives = gives_cases net sound.few_inputs file.begin file.cases [] [] 0 (gives_nothing n 0) (runs, legible.names, legible.faults) (in_time (items_of_file net file) legible.times) in
    read_behind net text (items_of_file net file) gives.0 sound legible.inputs legible.header legible.size gives.1
