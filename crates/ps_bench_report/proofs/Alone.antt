-- The trace of one case alone is legible where that of all cases of its file is.
use Rattle.std.proofs.Common.{◌≡◌, ◌≤◌, ◌<◌, ◌+◌, ◌*◌, ◌%◌, ◌^◌, ◌++◌, ◌==◌, ℕ, suc, List, [], ◌∷◌, Bool, true, false, if◌then◌else◌, length, map, codes, decimal, flat_map, refl, sym, subst, pow-suc, arith}
use Rattle.std.specs.List.{All, AllByRecursion}
use Rattle.std.proofs.lemmas.Fmt.{decimal_by_steps, decimal_nonempty, length-decimal-le}
use Rattle.std.proofs.lemmas.List.{length-append, length_push, map-append}
use Rattle.std.proofs.lemmas.List.Elements.{All-from_recursion, recursion_from_All}
use Rattle.ps_base.specs.declared.limits.TheConstants.{LARGEST_TIME}
use Rattle.ps_model.specs.Meaning.{Item}
use Rattle.ps_model.specs.Meaning.Item.{scan, restart}
use Rattle.ps_model.specs.Network.{Network, input_count}
use Rattle.ps_bench_cases.proofs.TraceBack.{InTime, in_time}
use Rattle.ps_bench_cases.specs.Alone.{alone}
use Rattle.ps_bench_cases.specs.Expanded.{act_text, begin_point, case_text, cases_text, end_point, header_line, name_line, point_after, point_set, restart_line, scan_line, statements_text, value_text}
use Rattle.ps_bench_cases.specs.Joined.{items_of_file, joined, later, later_item}
use Rattle.ps_bench_cases.specs.Legible.{IsInTime, IsLegible, IsLine, IsOneLine}
use Rattle.ps_bench_cases.specs.Meant.{items_from, items_made, items_of, times_of, whole_case}
use Rattle.ps_bench_cases.specs.declared.case.Act.{Act}
use Rattle.ps_bench_cases.specs.declared.case.Act.TheVariants as act
use Rattle.ps_bench_cases.specs.declared.case.Case.{Case}
use Rattle.ps_bench_cases.specs.declared.case.CaseFile.{CaseFile}
use Rattle.ps_bench_cases.specs.declared.case.Statement.{Statement}
use Rattle.ps_bench_cases.specs.declared.point.Point.{Point}
use Rattle.ps_bench_report.proofs.Played.{items_alone}

-- ---- An earlier time has no more digits.

below_digits : (n : ℕ) → n < 2 ^ 64 → n < 10 ^ length (decimal n)
below_digits = decimal_by_steps (λ n ds. n < 10 ^ length ds) (λ n small. small)
    (λ n ds large within.
    let tens : 10 ^ suc (length ds) ≡ 10 ^ length ds * 10 = pow-suc 10 (length ds) in
    let more : n < 10 ^ suc (length ds) = omega (arith, within, tens) in
    subst (λ (k : ℕ). n < 10 ^ k) (omega (arith, length_push ds (48 + n % 10))) more)

no_longer : (m n : ℕ) → m ≤ n → n < 2 ^ 64 → length (decimal m) ≤ length (decimal n)
no_longer m n less small =
    length-decimal-le (length (decimal n)) m (decimal_nonempty n small) (omega (arith, less, below_digits n small)) (omega (arith, less, small))

-- ---- Items that come sooner.

first : (xs ys : List Item) → InTime (xs ++ ys) → InTime xs
first [] ys all = tt
first (x ∷ xs) ys all = (all.0, first xs ys all.1)

second : (xs ys : List Item) → InTime (xs ++ ys) → InTime ys
second [] ys all = all
second (x ∷ xs) ys all = second xs ys all.1

sooner : (by : ℕ) (items : List Item) → InTime (later by items) → InTime items
sooner by [] timely = tt
sooner by (scan now ins ∷ items) timely = (omega (arith, timely.0), sooner by items timely.1)
sooner by (restart ∷ items) timely = (tt, sooner by items timely.1)

all_timely : (items : List Item) → InTime items → AllByRecursion IsInTime items
all_timely [] timely = tt
all_timely (item ∷ items) timely = (timely.0, all_timely items timely.1)

-- ---- A case that begins at once has no longer a text than one that begins later.

-- how a trace stands in a case that begins at this time
abbrev from : ℕ → Point → Point
from base p = record { base = base; time = p.time; ins = p.ins; held = p.held }

from_after : (base : ℕ) (p : Point) (a : Act) → point_after (from base p) a ≡ from base (point_after p a)
from_after base p (act.Scans pace) = refl
from_after base p (act.Fault fault) = refl
from_after base p act.Set = refl
from_after base p act.Restart = refl
from_after base p (act.Expect what) = refl

same_ins : (p : Point) (a : Act) → (point_after p a).ins ≡ p.ins
same_ins p (act.Scans pace) = refl
same_ins p (act.Fault fault) = refl
same_ins p act.Set = refl
same_ins p act.Restart = refl
same_ins p (act.Expect what) = refl

shorter_line : (base now : ℕ) (ins : List Bool) → now + base ≤ LARGEST_TIME → length (scan_line (0 + now) ins) ≤ length (scan_line (base + now) ins)
shorter_line base now ins small =
    let rest = flat_map value_text ins ++ codes "\n" in
    omega (arith, no_longer (0 + now) (base + now) (omega arith) (omega (arith, small)), length-append (decimal (0 + now)) rest, length-append (decimal (base + now)) rest)

shorter_lines : (base : ℕ) (ins : List Bool) (ts : List ℕ) → InTime (later base (map (λ now. scan now ins) ts)) →
    length (flat_map (λ now. scan_line (0 + now) ins) ts) ≤ length (flat_map (λ now. scan_line (base + now) ins) ts)
shorter_lines base ins [] timely = omega arith
shorter_lines base ins (t ∷ ts) timely =
    let early = flat_map (λ now. scan_line (0 + now) ins) ts in
    let late = flat_map (λ now. scan_line (base + now) ins) ts in
    omega (arith, shorter_line base t ins timely.0, shorter_lines base ins ts timely.1, length-append (scan_line (0 + t) ins) early, length-append (scan_line (base + t) ins) late)

unless : (none : Bool) (xs ys : List ℕ) → length xs ≤ length ys → length (if none then [] else xs) ≤ length (if none then [] else ys)
unless true xs ys short = omega arith
unless false xs ys short = short

shorter_act : (base : ℕ) (p : Point) (a : Act) → InTime (later base (items_made p.ins a)) → length (act_text (from 0 p) a) ≤ length (act_text (from base p) a)
shorter_act base p (act.Scans pace) timely =
    let early = flat_map (λ now. scan_line (0 + now) p.ins) (times_of pace) in
    let late = flat_map (λ now. scan_line (base + now) p.ins) (times_of pace) in
    unless (pace.count == 0) (p.held ++ early) (p.held ++ late)
    (omega (arith, shorter_lines base p.ins (times_of pace) timely, length-append p.held early, length-append p.held late))
shorter_act base p (act.Fault fault) timely = omega arith
shorter_act base p act.Set timely = omega arith
shorter_act base p act.Restart timely = omega arith
shorter_act base p (act.Expect what) timely = omega arith

shorter_text : (base : ℕ) (p : Point) (ss : List Statement) → InTime (later base (items_from p.ins ss)) →
    length (statements_text (from 0 p) ss) ≤ length (statements_text (from base p) ss)
shorter_text base p [] timely = omega arith
shorter_text base p (s ∷ ss) timely =
    let q : Point = point_set p s.settings in
    let made = items_made q.ins s.act in
    let rest = items_from q.ins ss in
    let both : InTime (later base made ++ later base rest) = subst InTime (map-append (later_item base) made rest) timely in
    let own = shorter_act base q s.act (first (later base made) (later base rest) both) in
    let r : Point = point_after q s.act in
    let left : InTime (later base (items_from r.ins ss)) =
    subst (λ (ins : List Bool). InTime (later base (items_from ins ss))) (sym (same_ins q s.act)) (second (later base made) (later base rest) both) in
    let early : ℕ = length (statements_text (point_after (from 0 q) s.act) ss) in
    let more : early ≤ length (statements_text (point_after (from base q) s.act) ss) =
    subst (λ (x : Point). length (statements_text x ss) ≤ length (statements_text (point_after (from base q) s.act) ss)) (sym (from_after 0 q s.act))
    (subst (λ (x : Point). length (statements_text (from 0 r) ss) ≤ length (statements_text x ss)) (sym (from_after base q s.act)) (shorter_text base r ss left)) in
    omega (arith, own, more, length-append (act_text (from 0 q) s.act) (statements_text (point_after (from 0 q) s.act) ss), length-append (act_text (from base q) s.act) (statements_text (point_after (from base q) s.act) ss))

-- ---- One case of a file.

only : (P : Case → Type 0) (c : Case) → P c → All P (c ∷ [])
only P c is = All-from_recursion P (c ∷ []) (is, tt)

module _ (net : Network) (begin : List Statement) where
  abbrev inputs : ℕ
  inputs = input_count net

  abbrev own : Case → List Statement
  own c = begin ++ c.statements

  -- its text is no longer than this, and no scan of it is too late
  abbrev IsShort : ℕ → Case → Type 0
  IsShort most c = (length (case_text inputs 0 c.name (own c)) ≤ most) × InTime (items_of net (own c))

  shorter_case : (base : ℕ) (c : Case) → InTime (later base (items_of net (own c))) →
      length (case_text inputs 0 c.name (own c)) ≤ length (case_text inputs base c.name (own c))
  shorter_case base c timely =
      let p : Point = begin_point inputs 0 in
      omega (arith, shorter_text base p (own c) timely, length-append (name_line c.name) (statements_text (begin_point inputs 0) (own c)), length-append (name_line c.name) (statements_text (begin_point inputs base) (own c)))

  all_short : (most : ℕ) (cases : List Case) (lead : List ℕ) (items : List Item) (base : ℕ) → length (cases_text inputs begin lead base cases) ≤ most →
      InTime (joined net begin items base cases) → AllByRecursion (IsShort most) cases
  all_short most [] lead items base fits timely = tt
  all_short most (c ∷ cases) lead items base fits timely =
      let text = case_text inputs base c.name (own c) in
      let next : ℕ = base + (end_point inputs base (own c)).time in
      let texts = cases_text inputs begin restart_line next cases in
      let came = later base (items_of net (own c)) in
      let comes = joined net begin (restart ∷ []) next cases in
      let now : InTime came = second items came (first (items ++ came) comes timely) in
      let whole = length-append (lead ++ text) texts in
      let front = length-append lead text in (
        (omega (arith, fits, shorter_case base c now, whole, front), sooner base (items_of net (own c)) now),
        all_short most cases restart_line (restart ∷ []) next (omega (arith, fits, whole)) (second (items ++ came) comes timely),
      )

module _ (net : Network) (file : CaseFile) (legible : IsLegible net file) where
  abbrev most : ℕ
  most = length (cases_text (input_count net) file.begin [] 0 file.cases)

  one_legible : (c : Case) → IsLine (name_line c.name) → All (λ (s : Statement). IsOneLine s.act) (whole_case file c) → IsShort net file.begin most c →
      IsLegible net (alone file c)
  one_legible c name faults short =
      let text = case_text (input_count net) 0 c.name (whole_case file c) in
      record {
        inputs = legible.inputs;
        header = legible.header;
        names = only (λ (d : Case). IsLine (name_line d.name)) c name;
        faults = only (λ (d : Case). All (λ (s : Statement). IsOneLine s.act) (whole_case file d)) c faults;
        size = omega (arith, legible.size, short.0, length-append (header_line net) (cases_text (input_count net) file.begin [] 0 file.cases), length-append (header_line net) (text ++ []), length-append text []);
        times = subst (All IsInTime) (sym (items_alone net file c)) (All-from_recursion IsInTime (items_of net (whole_case file c)) (all_timely (items_of net (whole_case file c)) short.1));
      }

  each_legible : (cases : List Case) → AllByRecursion (λ (c : Case). IsLine (name_line c.name)) cases →
      AllByRecursion (λ (c : Case). All (λ (s : Statement). IsOneLine s.act) (whole_case file c)) cases → AllByRecursion (IsShort net file.begin most) cases →
      AllByRecursion (λ (c : Case). IsLegible net (alone file c)) cases
  each_legible [] names faults short = tt
  each_legible (c ∷ cases) names faults short = (one_legible c names.0 faults.0 short.0, each_legible cases names.1 faults.1 short.1)

  pub cases_legible_alone : AllByRecursion (λ (c : Case). IsLegible net (alone file c)) file.cases
  cases_legible_alone =
      each_legible file.cases
      (recursion_from_All (λ (c : Case). IsLine (name_line c.name)) file.cases legible.names)
      (recursion_from_All (λ (c : Case). All (λ (s : Statement). IsOneLine s.act) (whole_case file c)) file.cases legible.faults)
      (all_short net file.begin most file.cases [] [] 0 (omega arith) (in_time (items_of_file net file) legible.times))
