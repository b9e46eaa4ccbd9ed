-- The value changes of a run are the scans that a reader is to see.
use Rattle.std.proofs.Common.{◌≡◌, ◌∙◌, ◌++◌, ◌<◌, ◌≤◌, ◌^◌, ◌&&◌, ◌||◌, ◌==◌, not, ℕ, zero, suc, Bool, true, false, List, [], ◌∷◌, Option, Some, None, length, map, take, nat_le, nat_lt, if◌then◌else◌, refl, sym, ap, subst, arith}
use Rattle.std.specs.List.{list_all, AllByRecursion}
use Rattle.std.specs.Prelude.{IfSome, IsTrue, option_map}
use Rattle.std.proofs.lemmas.Bool.Decides.{nat_tests}
use Rattle.std.proofs.lemmas.Grind.{common_steps}
use Rattle.std.proofs.lemmas.List.{length-map}
use Rattle.ps_bench_names.specs.declared.name.Name.{Name}
use Rattle.ps_bench_judge.specs.Moments.{Moment}
use Rattle.ps_model.specs.Meaning.{Item}
use Rattle.ps_model.specs.Meaning.Item.{scan, restart}
use Rattle.ps_model.specs.Network.{Network, instance_count, kind_at}
use Rattle.ps_ways.specs.States as states
use Rattle.ps_ways.specs.States.{state_words}
use Rattle.ps_ways.proofs.StateWording.{told_plain}
use Rattle.ps_bench_waves.specs.ReadBack.{HasPlace, IsReadable, is_plain}
use Rattle.ps_bench_waves.specs.Text.{scans_text}
use Rattle.ps_bench_waves.specs.Values.{Held, shortened}
use Rattle.ps_bench_waves.specs.Values.Held.{bit}
use Rattle.ps_bench_waves.specs.declared.value.TheConstants.{LONGEST_WORDS}
use Rattle.ps_bench_waves.specs.Watching.{written_of}
use Rattle.ps_bench_waves.specs.Dumped.{Dumped, dump_text, dump_told, dumped_anew, dumped_then}
use Rattle.ps_bench_waves.specs.Counts.{anew_count, next_count}
use Rattle.ps_bench_waves.specs.Dumping.{wires_held}
use Rattle.ps_bench_waves.specs.Parts.{part_held, parts_of, state_text, text_of}
use Rattle.ps_bench_watch.specs.Reread.{IsInBits, scan_held, scans_held}
use Rattle.ps_bench_waves.specs.declared.count.Count.{Count}
use Rattle.ps_bench_waves.specs.declared.parts.Part.{Part}
use Rattle.ps_bench_waves.specs.declared.parts.Part.TheVariants.{Restart, Trip, Scan, Bit, Code, State}

module _ (net : Network) (names : List Name) where
  -- what is written of items is written of their scans
  pub written_is : (b : Dumped) (items : List Item) (ms : List Moment) →
      written_of (dump_told net names) (dumped_then net names) [] dumped_anew b items ms
      ≡ scans_text b.begun b.last (scans_held net names b.next items ms)
  written_is b [] ms = refl
  written_is b (restart ∷ items) ms = written_is (dumped_anew b) items ms
  written_is b (scan now ins ∷ items) [] = refl
  written_is b (scan now ins ∷ items) (m ∷ ms) =
      ap (λ (rest : List ℕ). dump_told net names b m ++ rest) (written_is (dumped_then net names b m) items ms)

-- ---- Each scan can be read back.

-- what prints of words in a line prints in a dump
plain_byte : (b : ℕ) → states.is_plain b ≡ true → is_plain b ≡ true
plain_byte b plain = grind (arith, nat_tests)

plain_both : (b : ℕ) (bytes : List ℕ) → (states.is_plain b && list_all states.is_plain bytes) ≡ true →
    (states.is_plain b ≡ true) × (list_all states.is_plain bytes ≡ true)
plain_both b bytes is = grind arith

plain_front : (n : ℕ) (bytes : List ℕ) → list_all states.is_plain bytes ≡ true → list_all is_plain (take n bytes) ≡ true
plain_front zero bytes plain = refl
plain_front (suc n) [] plain = refl
plain_front (suc n) (b ∷ bytes) plain =
    let both = plain_both b bytes plain in
    (λ i. plain_byte b both.0 i && plain_front n bytes both.1 i)

plain_words : (told : Option (List ℕ)) → IfSome told (λ w. IsTrue (states.are_plain w)) →
    list_all states.is_plain (text_of told) ≡ true
plain_words None plain = refl
plain_words (Some w) plain = grind arith

map_same : (told : Option (List ℕ)) → option_map (λ (bytes : List ℕ). bytes) told ≡ told
map_same None = refl
map_same (Some w) = refl

kind_words : (net : Network) (i code : ℕ) → list_all states.is_plain (text_of (state_words (kind_at net i) code)) ≡ true
kind_words net i code =
    plain_words (state_words (kind_at net i) code)
    (told_plain (λ (bytes : List ℕ). bytes) (kind_at net i) code (state_words (kind_at net i) code) (map_same (state_words (kind_at net i) code)))

state_plain : (net : Network) (i code : ℕ) → list_all states.is_plain (state_text net i code) ≡ true
state_plain net i code = chosen (nat_lt i (instance_count net)) (kind_words net i code)
  where
    chosen : (has : Bool) → list_all states.is_plain (text_of (state_words (kind_at net i) code)) ≡ true →
        list_all states.is_plain (if has then text_of (state_words (kind_at net i) code) else []) ≡ true
    chosen true plain = plain
    chosen false plain = refl

-- each part of a scan has its place
part_place : (net : Network) (count : Count) (m : Moment) → count.number ≤ 18446744073709551615 → IsInBits net m →
    (part : Part) → HasPlace (part_held net count m part)
part_place net count m few bits Restart = tt
part_place net count m few bits Trip = tt
part_place net count m few bits Scan = omega (arith, few)
part_place net count m few bits (Bit name) = tt
part_place net count m few bits (Code i) = bits.codes i
part_place net count m few bits (State i) = plain_front LONGEST_WORDS (state_text net i _) (state_plain net i _)

parts_placed : (net : Network) (count : Count) (m : Moment) → count.number ≤ 18446744073709551615 → IsInBits net m →
    (parts : List Part) → AllByRecursion HasPlace (map (part_held net count m) parts)
parts_placed net count m few bits [] = tt
parts_placed net count m few bits (part ∷ parts) =
    (part_place net count m few bits part, parts_placed net count m few bits parts)

next_few : (count : Count) → (next_count count).number ≤ 18446744073709551615
next_few count = omega arith

-- each scan can be read
pub scans_readable : (net : Network) (names : List Name) (count : Count) → count.number ≤ 18446744073709551615 →
    (items : List Item) (ms : List Moment) → AllByRecursion (IsInBits net) ms →
    AllByRecursion (IsReadable (length (parts_of names))) (scans_held net names count items ms)
scans_readable net names count few [] ms bits = tt
scans_readable net names count few (restart ∷ items) ms bits = scans_readable net names (anew_count count) few items ms bits
scans_readable net names count few (scan now ins ∷ items) [] bits = tt
scans_readable net names count few (scan now ins ∷ items) (m ∷ ms) bits = (
  record {
    time = bits.0.time;
    wires_are = length-map (parts_of names) (part_held net count m);
    places = parts_placed net count m few bits.0 (parts_of names);
  },
  scans_readable net names (next_count count) (next_few count) items ms bits.1,
)
