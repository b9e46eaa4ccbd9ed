-- One list of maps is what runs of a text leave, up to what it does not declare.
use Rattle.std.proofs.Common.{◌≡◌, ℕ, ◌-◌, Bool, List, [], ◌∷◌, refl, sym, ap, subst}
use Rattle.ps_model.specs.Network.{Network}
use Rattle.ps_model.specs.Meaning.{Item, scan, restart, After, nothing, last, left_by, passed}
use Rattle.ps_model.specs.Sound.{IsSound}
use Rattle.ps_names.specs.Names.{entries}
use Rattle.ps_names.specs.Stands.{Stands}
use Rattle.ps_derived.specs.declared.library.Library.{Library}
use Rattle.ps_derived.specs.Flat.{flat}
use Rattle.ps_derived.specs.Texts.{IsLibraryWithin}
use Rattle.ps_offences.specs.BlockRules.{block_offences}
use Rattle.ps_language_laws.specs.Reading.{Values}
use Rattle.ps_language_laws.specs.TextScans.{plain_body}
use Rattle.ps_language_laws.specs.Nested.{Nested, program_of}
use Rattle.ps_language_laws.specs.Runs.{blank, TextRuns}
use Rattle.ps_language_laws.specs.Maps.{AreAlike, AllAlike, text_instances}
use Rattle.ps_language_laws.proofs.Whole.{MeanTheSame, scanned_same, other_way, text_same}
use Rattle.ps_language_laws.proofs.OneMap.{some_map, alike_after}

pub alike_itself : (l : Library) (m : Values) → AreAlike (text_instances l) m m
alike_itself l m = record { signals = λ p. refl; blocks = λ k i at. refl; outputs = λ k j i pin at there. refl }

module _ (depth : ℕ) (l : Library) (net : Network) (within : IsLibraryWithin depth l) (unbroken : block_offences l ≡ []) (stands : Stands (flat l) net) (sound : IsSound net) where
  same : MeanTheSame (entries l.program) (entries (flat l)) (program_of l) (plain_body (flat l))
  same = text_same depth l within unbroken

  -- ---- one scan

  pub one_more : (old : Values) (ins : List Bool) (dt : ℕ) → (new : Values) × Nested l old ins dt new
  one_more old ins dt =
      let r = some_map (flat l) stands.unbroken (subst IsSound stands.is sound) ins dt old in (
        r.0,
        scanned_same (entries (flat l)) (entries l.program) (plain_body (flat l)) (program_of l)
            (other_way (entries l.program) (entries (flat l)) (program_of l) (plain_body (flat l)) same) old ins dt r.0 r.1,
      )

  pub one_alone : (old other : Values) (ins : List Bool) (dt : ℕ) (new another : Values) → AreAlike (text_instances l) old other →
      Nested l old ins dt new → Nested l other ins dt another → AreAlike (text_instances l) new another
  one_alone old other ins dt new another before first second =
      let flatly = scanned_same (entries l.program) (entries (flat l)) (program_of l) (plain_body (flat l)) same in
      subst (λ is. AreAlike is new another) (sym same.instances)
      (alike_after (flat l) stands.unbroken (subst IsSound stands.is sound) ins dt old other new another
      (subst (λ is. AreAlike is old other) same.instances before) (flatly old ins dt new first) (flatly other ins dt another second))

  -- ---- runs

  pub some_run : (past : After Values) (items : List Item) → (ms : List Values) × TextRuns l past items ms
  some_run past [] = ([], refl)
  some_run past (restart ∷ items) = some_run nothing items
  some_run past (scan now ins ∷ items) =
      let one = one_more (left_by blank past) ins (passed past now) in
      let rest = some_run (last now one.0) items in
      (one.0 ∷ rest.0, (one.1, rest.1))

  -- what scans start from alike
  abbrev StartAlike : After Values → After Values → Type 0
  StartAlike nothing nothing = Unit {0}
  StartAlike (last t m) (last u n) = (t ≡ u) × AreAlike (text_instances l) m n
  StartAlike _ _ = ⊥

  maps_before : (past other : After Values) → StartAlike past other → AreAlike (text_instances l) (left_by blank past) (left_by blank other)
  maps_before nothing nothing alike = alike_itself l (left_by blank nothing)
  maps_before nothing (last u n) alike = absurd alike
  maps_before (last t m) nothing alike = absurd alike
  maps_before (last t m) (last u n) alike = alike.1

  time_before : (past other : After Values) (now : ℕ) → StartAlike past other → passed other now ≡ passed past now
  time_before nothing nothing now alike = refl
  time_before nothing (last u n) now alike = absurd alike
  time_before (last t m) nothing now alike = absurd alike
  time_before (last t m) (last u n) now alike = ap (λ z. now - z) (sym alike.0)

  empty_alike : (ms ns : List Values) → ms ≡ [] → ns ≡ [] → AllAlike (text_instances l) ms ns
  empty_alike [] [] a b = tt
  empty_alike [] (n ∷ ns) a b = cc
  empty_alike (m ∷ ms) ns a b = cc

  pub runs_alike : (past other : After Values) → StartAlike past other → (items : List Item) (ms ns : List Values) →
      TextRuns l past items ms → TextRuns l other items ns → AllAlike (text_instances l) ms ns
  runs_alike past other alike [] ms ns first second = empty_alike ms ns first second
  runs_alike past other alike (restart ∷ items) ms ns first second = runs_alike nothing nothing tt items ms ns first second
  runs_alike past other alike (scan now ins ∷ items) [] ns first second = absurd first
  runs_alike past other alike (scan now ins ∷ items) (m ∷ ms) [] first second = absurd second
  runs_alike past other alike (scan now ins ∷ items) (m ∷ ms) (n ∷ ns) first second =
      let here = one_alone (left_by blank past) (left_by blank other) ins (passed past now) m n (maps_before past other alike) first.0
      (subst (λ t. Nested l (left_by blank other) ins t n) (time_before past other now alike) second.0) in
      (here, runs_alike (last now m) (last now n) (refl, here) items ms ns first.1 second.1)
