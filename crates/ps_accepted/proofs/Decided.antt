-- What the bytes that decide of a text give is what the text gives, and so what the file gives that was read.
use Rattle.std.proofs.Common.{◌≡◌, ◌+◌, ℕ, List, Option, Some, IsSome, Result, Ok, Err, IsErrAnd, take, sym, subst}
use Rattle.std.specs.Prelude.{IfOk, OnOk}
use Rattle.ps_base.specs.declared.limits.TheConstants.{LARGEST_SOURCE}
use Rattle.ps_base.specs.declared.failing.Fail.{Fail}
use Rattle.ps_base.specs.declared.failing.Fail.TheVariants.{Memory as NoMemory, Refused as IsRefused}
use Rattle.ps_outside.specs.Failing.{of_rules}
use Rattle.ps_outside.specs.declared.reading.ReadFail.{ReadFail}
use Rattle.ps_model.specs.Network.{Network}
use Rattle.ps_parser.specs.Tree.{SourceTree}
use Rattle.ps_names.specs.Stands.{Stands}
use Rattle.ps_accepted.specs.Source.{Reading, IsProgram, IsResolvedAs, IsAcceptedAs}
use Rattle.ps_accepted.specs.Source.Reading.{stands_for, is_refused}
use Rattle.ps_accepted.specs.Answering.{Decides, IsChecked, GivesApp, GivesAccepted, Reads, IsFrontOf, IsFrontHeld, IsResolution, IsResolved, IsSourcedAcceptance, IsAcceptance, app_of, source_of}
use Rattle.ps_accepted.specs.Demanding.{AreDemands, GivesDemanded, GivesLines, IsDemandableAs, IsDemanding, app_demanded, lines_demanded}
use Rattle.ps_accepted.specs.declared.accepting.Accepted.{Accepted}
use Rattle.ps_accepted.specs.declared.demanding.Demanded.{Demanded}
use Rattle.ps_accepted.proofs.Sourced.{some_of, resolution_of_whole, acceptance_of_whole, demanding_of_whole}

module _ {A : Type 0} (Gives : List ℕ → A → Type 0) (Refuses : List ℕ → Reading → Type 0) where
  decides_whole : (front whole : List ℕ) → ((a : A) → Gives front a → Gives whole a) → ((r : Reading) → Refuses front r → Refuses whole r) → (result : Result A Fail) →
      Decides Gives Refuses front result → Decides Gives Refuses whole result
  decides_whole front whole gives refuses (Ok a) h = gives a h
  decides_whole front whole gives refuses (Err NoMemory) h = tt
  decides_whole front whole gives refuses (Err (IsRefused r)) h = refuses (is_refused r) h

  -- the bytes that decide of a file were read, and the rules give something for them
  pub reads_given : (held : Option (List ℕ)) (front : List ℕ) (a : A) → IsFrontHeld front held → ((whole : List ℕ) → IsFrontOf front whole → Gives whole a) → Reads Gives Refuses held (Ok a)
  reads_given held front a read gives = (read.0, read.1, gives read.0 read.2)

  -- and they give nothing for them
  pub reads_none : (held : Option (List ℕ)) (front : List ℕ) (why : Fail) → IsFrontHeld front held → ((whole : List ℕ) → IsFrontOf front whole → Decides Gives Refuses whole (Err why)) →
      Reads Gives Refuses held (Err (of_rules why))
  reads_none held front NoMemory read gives = tt
  reads_none held front (IsRefused r) read gives = (read.0, read.1, gives read.0 read.2)

-- what was read of a file decides of its text
pub front_held : (held : Option (List ℕ)) (result : Result (List ℕ) ReadFail) → OnOk result (IsSome held) →
    ((text : List ℕ) → held ≡ Some text → IfOk result (λ bytes. bytes ≡ take (LARGEST_SOURCE + 1) text)) → IfOk result (λ front. IsFrontHeld front held)
front_held held (Ok bytes) found is = let text = some_of held found in (text.0, text.1, is text.0 text.1)
front_held held (Err why) found is = tt

-- by the rules L, P, B and N
pub resolved_whole : (front whole : List ℕ) (result : Result Network Fail) → IsFrontOf front whole → IsResolved front result → IsResolved whole result
resolved_whole front whole result is =
    let whole_of = λ (r : Reading) (h : IsResolvedAs front r). resolution_of_whole whole r (subst (λ (t : List ℕ). IsResolvedAs t r) is h) in
    decides_whole GivesApp IsResolvedAs front whole (λ net. whole_of (stands_for net)) whole_of result

pub resolved_given : (front : List ℕ) (tree : SourceTree) (net : Network) → IsResolution front (Ok (tree, net)) → IsResolved front (Ok net)
resolved_given front tree net h = record { tree = tree; program = h.0; stands = h.1 }

none_resolved : (front : List ℕ) (why : Fail) → IsResolution front (Err why) → IsResolved front (Err why)
none_resolved front NoMemory h = tt
none_resolved front (IsRefused r) h = h

pub resolved_none : (front : List ℕ) (why : Fail) (result : Result Network Fail) → IsErrAnd result (λ w. w ≡ why) → IsResolution front (Err why) → IsResolved front result
resolved_none front why (Ok net) is h = absurd is
resolved_none front why (Err w) is h = subst (λ (f : Fail). IsResolved front (Err f)) (sym is) (none_resolved front why h)

-- by these and the rules S
pub accepted_whole : (front whole : List ℕ) (result : Result Accepted Fail) → IsFrontOf front whole → IsAcceptance front result → IsAcceptance whole result
accepted_whole front whole result is =
    let whole_of = λ (r : Reading) (h : IsAcceptedAs front r). acceptance_of_whole whole r (subst (λ (t : List ℕ). IsAcceptedAs t r) is h) in
    decides_whole GivesAccepted IsAcceptedAs front whole (λ a h. (whole_of (stands_for a.app) h.0, h.1)) whole_of result

pub accepted_given : (front : List ℕ) (result : Result Accepted Fail) → IsSourcedAcceptance front result → IsAcceptance front result
accepted_given front (Ok a) h = ((record { tree = a.source; program = h.0; stands = h.1 }, h.2.accepted), h.2)
accepted_given front (Err NoMemory) h = tt
accepted_given front (Err (IsRefused r)) h = h

-- what is accepted with its source was checked
pub sourced_checked : (front : List ℕ) (result : Result Accepted Fail) → IsSourcedAcceptance front result → IfOk result IsChecked
sourced_checked front (Ok a) h = h.2
sourced_checked front (Err why) h = tt

-- its source is the flat source of the text, for which its application stands
pub sourced_stands : (front : List ℕ) (result : Result Accepted Fail) → IsSourcedAcceptance front result → IfOk result (λ a. IsProgram front (source_of a) × Stands (source_of a) (app_of a))
sourced_stands front (Ok a) h = (h.0, h.1)
sourced_stands front (Err why) h = tt

-- what the outputs of an application demand
demands_whole : (front whole : List ℕ) (net : Network) (lines : Result (List ℕ) Fail) → IsFrontOf front whole → AreDemands front net lines → AreDemands whole net lines
demands_whole front whole net lines is =
    let whole_of = λ (r : Reading) (h : IsDemandableAs front r). demanding_of_whole whole r (subst (λ (t : List ℕ). IsDemandableAs t r) is h) in
    decides_whole (GivesLines net) IsDemandableAs front whole (λ ls h. (whole_of (stands_for net) h.0, h.1)) whole_of lines

-- by the rules before M1, with what the outputs demand
pub demanded_whole : (front whole : List ℕ) (result : Result Demanded Fail) → IsFrontOf front whole → IsDemanding front result → IsDemanding whole result
demanded_whole front whole result is =
    let whole_of = λ (r : Reading) (h : IsAcceptedAs front r). acceptance_of_whole whole r (subst (λ (t : List ℕ). IsAcceptedAs t r) is h) in
    decides_whole GivesDemanded IsAcceptedAs front whole
    (λ d h. record {
      accepted = whole_of (stands_for (app_demanded d)) h.accepted;
      checked = h.checked;
      demands = demands_whole front whole (app_demanded d) (lines_demanded d) is h.demands;
    }) whole_of result
