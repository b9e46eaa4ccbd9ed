-- What a text gives, by what the bytes give that decide of it.
use Rattle.std.proofs.Common.{◌≡◌, ◌≤◌, ◌+◌, ◌∙◌, ℕ, List, Option, Result, Ok, Err, IsErrAnd, length, take, sym, subst, arith}
use Rattle.std.proofs.lemmas.List.{length-take, take_all}
use Rattle.ps_base.specs.declared.failing.Fail.{Fail}
use Rattle.ps_base.specs.declared.failing.Fail.TheVariants.{Memory as NoMemory, Refused as IsRefused}
use Rattle.ps_base.specs.declared.limits.TheConstants.{LARGEST_SOURCE}
use Rattle.ps_bench_frame.specs.Opening.{GivesNet}
use Rattle.ps_model.specs.Network.{Network}
use Rattle.ps_outside.specs.declared.text_fail.TextFail.{TextFail}
use Rattle.ps_outside.specs.declared.text_fail.TextFail.TheVariants.{Memory, Fault, Refused}
use Rattle.ps_parser.specs.Tree.{SourceTree}
use Rattle.ps_accepted.specs.Answering.{Decides, IsAcceptance, IsFrontOf, Reads}
use Rattle.ps_accepted.specs.Source.{IsAcceptedAs, IsProgram}
use Rattle.ps_accepted.specs.Source.Reading.{stands_for}
use Rattle.ps_bench_frame.specs.Sourcing.{GivesKept, IsSourced}

-- bytes that have a flat source are all of their text
pub front_all : (front : List ℕ) (tree : SourceTree) → IsProgram front tree → IsFrontOf front front
front_all front tree p =
    let few : length front ≤ LARGEST_SOURCE = p.text.tokens_are.0 in
    sym (take_all (LARGEST_SOURCE + 1) front (omega (arith, few)))

whole_is : (front whole : List ℕ) (tree : SourceTree) → IsProgram front tree → IsFrontOf front whole → front ≡ whole
whole_is front whole tree p is =
    let few : length front ≤ LARGEST_SOURCE = p.text.tokens_are.0 in
    let cut : length front ≡ length (take (LARGEST_SOURCE + 1) whole) = λ i. length (is i) in
    is ∙ take_all (LARGEST_SOURCE + 1) whole (omega (arith, few, cut, length-take (LARGEST_SOURCE + 1) whole))

-- both of a text
pub both_given : (front whole : List ℕ) (tree : SourceTree) (net : Network) → IsProgram front tree → IsFrontOf front whole →
    IsAcceptedAs front (stands_for net) → IsSourced whole (Ok (tree, net))
both_given front whole tree net p is accepted =
    let same = whole_is front whole tree p is in (
      subst (λ (t : List ℕ). IsProgram t tree) same p,
      subst (λ (t : List ℕ). IsAcceptedAs t (stands_for net)) same accepted,
    )

-- they are kept as that text
pub kept_given : (text piece whole : List ℕ) (tree : SourceTree) (net : Network) → piece ≡ text → IsProgram piece tree → IsFrontOf text whole →
    ((w : List ℕ) → IsFrontOf piece w → IsSourced w (Ok (tree, net))) → GivesKept whole (text, tree, net)
kept_given text piece whole tree net same p is given =
    let both = given whole (same ∙ is) in
    (whole_is text whole tree (subst (λ (t : List ℕ). IsProgram t tree) same p) is, both.0, both.1)

-- no application
none_accepted : (whole : List ℕ) (why : Fail) → IsAcceptance whole (Err why) → IsSourced whole (Err why)
none_accepted whole NoMemory none = tt
none_accepted whole (IsRefused r) none = none

pub none_kept : (whole : List ℕ) (why : Fail) → IsSourced whole (Err why) → Decides GivesKept IsAcceptedAs whole (Err why)
none_kept whole NoMemory none = tt
none_kept whole (IsRefused r) none = none

pub accepted_none : (whole : List ℕ) (why : Fail) (result : Result (SourceTree × Network) Fail) → IsErrAnd result (λ w. w ≡ why) →
    IsAcceptance whole (Err why) → IsSourced whole result
accepted_none whole why (Ok r) ends none = absurd ends
accepted_none whole why (Err w) ends none = subst (λ (f : Fail). IsSourced whole (Err f)) (sym ends) (none_accepted whole why none)

-- a file that gives nothing gives no application
pub reads_err : (held : Option (List ℕ)) (why : TextFail) → Reads GivesKept IsAcceptedAs held (Err why) → Reads GivesNet IsAcceptedAs held (Err why)
reads_err held Memory reads = tt
reads_err held Fault reads = tt
reads_err held (Refused refusal) reads = reads
