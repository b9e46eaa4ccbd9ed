-- Counts that are added and written.
use Rattle.std.proofs.Common.{◌≡◌, inl, inr, ℕ, ◌+◌, Bool, IsTrue, List, [], ◌∷◌, Bor, Option, Some, Result, Ok, Err, length, map, refl, sym, ap, subst, arith}
use Rattle.std.proofs.lemmas.List.Sums.{sum_by-cons}
use Rattle.std.specs.List.{range_with_len}
use Rattle.std.specs.Prelude.{IfErr, IfOk, sum}
use Rattle.ps_bench_frame.specs.Stopping.{Took, TookSome}
use Rattle.ps_bench_frame.specs.declared.ending.Status.{Status}
use Rattle.ps_bench_frame.specs.declared.ending.Status.TheVariants.{Done}
use Rattle.ps_bench_frame.specs.declared.ending.Stop.{Stop}
use Rattle.ps_bench_frame.specs.declared.ending.Stop.TheVariants.{Unwritten}
use Rattle.ps_model.specs.Meaning.{Item}
use Rattle.ps_model.specs.Network.{Network}
use Rattle.ps_bench_trials.proofs.Plain.{all_plain}
use Rattle.ps_bench_trials.specs.Plain.{ArePlain}
use Rattle.ps_bench_trials.specs.Files.{AddsFiles, IsSum, Tells}
use Rattle.ps_bench_trials.specs.Sums.{text_of}
use Rattle.ps_bench_trials.specs.declared.summing.Totals.{Totals}
use Rattle.ps_bench_campaign.proofs.Parts.{parts_are_whole}
use Rattle.ps_bench_campaign.specs.Campaigns.{campaign, result_of}
use Rattle.ps_bench_trials.specs.declared.drawing.Room.{Room}
use Rattle.ps_world.specs.Worlds.{Machines}
use Rattle.ps_bench_campaign.specs.Summing.{AnswersNames, AnswersSum, ArePartsFrom, PartsSumUp, StopsSum, part_text}

-- ---- what is written

-- a sum whose text was written to its end, or up to where its writing stopped
pub told : (names : List (List ℕ)) (reading : Bool) (held : List ℕ → Option (List ℕ)) (total : Totals) (text : List ℕ) (tells : Bool)
    (before after : List ℕ) (ended : Result Status Stop) → (IsTrue reading → IsSum held names total) → text ≡ text_of total →
    IfOk ended (λ status. (status ≡ Done) × Took text tells before after) →
    IfErr ended (λ stop. (stop ≡ Unwritten) × TookSome text tells before after) → AnswersNames names reading held tells before after ended
told names reading held total text tells before after (Ok status) sums is all some =
    inl (total, sums, all.0, subst (λ (t : List ℕ). Took t tells before after) is all.1)
told names reading held total text tells before after (Err stop) sums is all some =
    inr (inl (total, sums, some.0, subst (λ (t : List ℕ). TookSome t tells before after) is some.1))

-- what `sum` answers, and how it stops, by the names as they are given
pub answered : (names given : List (List ℕ)) (reading : Bool) (held : List ℕ → Option (List ℕ)) (tells : Bool) (before after : List ℕ)
    (ended : Result Status Stop) → given ≡ names → AnswersNames given reading held tells before after ended →
    IfOk ended (AnswersSum names reading held tells before after)
answered names given reading held tells before after (Ok status) is answers =
    subst (λ (ns : List (List ℕ)). AnswersSum ns reading held tells before after status) is answers
answered names given reading held tells before after (Err stop) is answers = tt

pub stopped : (names given : List (List ℕ)) (reading : Bool) (held : List ℕ → Option (List ℕ)) (tells : Bool) (before after : List ℕ)
    (ended : Result Status Stop) → given ≡ names → AnswersNames given reading held tells before after ended →
    IfErr ended (StopsSum names reading held tells before after)
stopped names given reading held tells before after (Ok status) is answers = tt
stopped names given reading held tells before after (Err stop) is answers =
    subst (λ (ns : List (List ℕ)). StopsSum ns reading held tells before after stop) is answers

-- ---- names, as the code has them

-- the bytes of names
abbrev pub names_in : List (Bor (List ℕ)) → List (List ℕ)
names_in = map (λ name. name.now)

-- a first name and others
abbrev pub named : (first : List ℕ) → (others : List (Bor (List ℕ))) → List (List ℕ)
named first others = first ∷ names_in others

pub parted : (names : List (Bor (List ℕ))) (first : Bor (List ℕ)) (others : List (Bor (List ℕ))) → names ≡ first ∷ others →
    named first.now others ≡ names_in names
parted names first others is = ap names_in (sym is)

pub none_in : (names : List (Bor (List ℕ))) → length names ≡ 0 → names_in names ≡ []
none_in [] none = refl
none_in (name ∷ names) none = let no : ⊥ = omega (arith, none) in absurd no

-- ---- parts of the trials

module _ (net : Network) (m : Machines) (items : List Item) (room : Room) (app trace : List ℕ) (held : List ℕ → Option (List ℕ)) where
  -- what a campaign counts of so many trials from a number on
  abbrev of_part : (from count : ℕ) → Totals
  of_part from count = record { app = app; trace = trace; tally = campaign net m items room from count }

  part_plain : (from count : ℕ) → ArePlain (campaign net m items room from count)
  part_plain from count = all_plain (map (result_of net m items room) (range_with_len from count))

  part_told : (name : List ℕ) (from count : ℕ) → held name ≡ Some (part_text net m items room app trace from count) →
      Tells (held name) (of_part from count)
  part_told name from count is = (part_text net m items room app trace from count, is, (refl, part_plain from count))

  -- parts after those from a number on
  parts_behind : (from done : ℕ) (names : List (List ℕ)) (counts : List ℕ) →
      ArePartsFrom held (part_text net m items room app trace) (from + done) names counts →
      AddsFiles held names (of_part from done) (of_part from (done + sum counts))
  parts_behind from done [] [] parts = let e : done + 0 ≡ done = omega arith in ap (of_part from) e
  parts_behind from done [] (count ∷ counts) parts = absurd parts
  parts_behind from done (name ∷ names) [] parts = absurd parts
  parts_behind from done (name ∷ names) (count ∷ counts) (is, rest) =
      let on : (from + done) + count ≡ from + (done + count) = omega arith in
      let rest_is : sum (count ∷ counts) ≡ count + sum counts = sum_by-cons (λ (n : ℕ). n) count counts in
      let all : (done + count) + sum counts ≡ done + sum (count ∷ counts) = omega (arith, rest_is) in (
        of_part from (done + count),
        (
          of_part (from + done) count,
          part_told name (from + done) count is,
          record {
            app = (refl, refl);
            trace = (refl, refl);
            counts = parts_are_whole net m items room from done count;
          },
        ),
        subst (λ (n : ℕ). AddsFiles held names (of_part from (done + count)) (of_part from n)) all
            (parts_behind from (done + count) names counts
            (subst (λ (n : ℕ). ArePartsFrom held (part_text net m items room app trace) n names counts) on rest)),
      )

pub parts_sum_up : PartsSumUp
parts_sum_up net m items room app trace held from count counts name names (is, rest) = (
  of_part net m items room app trace held from (count + sum counts),
  (
    of_part net m items room app trace held from count,
    part_told net m items room app trace held name from count is,
    parts_behind net m items room app trace held from count names counts rest,
  ),
  refl,
)
