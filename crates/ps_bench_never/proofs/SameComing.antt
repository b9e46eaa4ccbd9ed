-- How a call ends, by what stood before its parts.
use Rattle.std.proofs.Common.{Result, Ok, Err, ◌≡◌, ◌≤◌, ℕ, suc, Bool, List, ◌∷◌, Any, Option, inr, subst, arith}
use Rattle.std.specs.Prelude.{IfErr, IfOk, IsErrOf, IsTrue}
use Rattle.ps_bench_frame.proofs.Stopped.{rose_since}
use Rattle.ps_bench_frame.specs.Ending.{IsUnread}
use Rattle.ps_bench_frame.specs.declared.ending.Status.{Status}
use Rattle.ps_bench_frame.specs.declared.ending.Stop.{Stop}
use Rattle.ps_bench_frame.specs.declared.ending.Stop.TheVariants.{NoMemory, Unwritten}
use Rattle.ps_bench_never.specs.SameAsking.{AnswersSame, EndsOf, EndsWith, IsApp, IsInOrder, IsOther, StopsAtOther, StopsSame, second_of, two}
use Rattle.ps_bench_never.specs.declared.comparing.OtherApp.{OtherApp}
use Rattle.ps_model.specs.Network.{Network}
use Rattle.ps_names.specs.Stands.{Stands}
use Rattle.ps_outside.specs.Outside.{Rose}
use Rattle.ps_parser.specs.Tree.{SourceTree}
use Rattle.ps_bench_frame.specs.Sourcing.{IsSourceOf}

-- what is so of what stands before a call is so of what stood before another one that changed none of it
pub since : (P : Bool → (List ℕ → Option (List ℕ)) → Bool → List ℕ → Type 0) (r r' : Bool) (h h' : List ℕ → Option (List ℕ)) (t t' : Bool) (b b' : List ℕ) →
    r' ≡ r → h' ≡ h → t' ≡ t → b' ≡ b → P r' h' t' b' → P r h t b
since P r r' h h' t t' b b' r_is h_is t_is b_is p =
    subst (λ (x : Bool). P x h t b) r_is
    (subst (λ (x : List ℕ → Option (List ℕ)). P r' x t b) h_is
    (subst (λ (x : Bool). P r' h' x b) t_is (subst (λ (x : List ℕ). P r' h' t' x) b_is p)))

-- the other application, in the order of the first
pub ordered_other : (reading : Bool) (held : List ℕ → Option (List ℕ)) (name : List ℕ) (first own : Network) (tree : SourceTree) (found : Result OtherApp Stop) →
    IsApp reading held name own → (IsTrue reading → IsSourceOf held name tree) → Stands tree own →
    IfOk found (λ other. IsInOrder first tree own (second_of other)) → IfOk found (λ other. IsOther reading held name first (second_of other))
ordered_other reading held name first own tree (Ok other) app source stands ordered =
    record { own = own; tree = tree; app = app; source = source; stands = stands; ordered = ordered }
ordered_other reading held name first own tree (Err stop) app source stands ordered = tt

-- if memory runs out for it, nothing was written, and no file was not read
module _ (found : Result OtherApp Stop) (wanting : IfErr found (λ stop. stop ≡ NoMemory)) where
  pub stops_wanting : (reading : Bool) (held : List ℕ → Option (List ℕ)) (name : List ℕ) (tells : Bool) (before after : List ℕ) → after ≡ before →
      IfErr found (λ stop. StopsAtOther reading held name stop tells before after)
  stops_wanting reading held name tells before after same = stops_by found wanting
    where
      stops_by : (r : Result OtherApp Stop) → IfErr r (λ stop. stop ≡ NoMemory) → IfErr r (λ stop. StopsAtOther reading held name stop tells before after)
      stops_by (Ok second) h = tt
      stops_by (Err stop) h = (NoMemory, h, λ told. same)

  pub reads_wanting : (P : Type 0) → IfErr found (λ stop. IsUnread stop → P)
  reads_wanting P = reads_by found wanting
    where
      reads_by : (r : Result OtherApp Stop) → IfErr r (λ stop. stop ≡ NoMemory) → IfErr r (λ stop. IsUnread stop → P)
      reads_by (Ok second) h = tt
      reads_by (Err stop) h = λ unread. let is : IsUnread NoMemory = subst IsUnread h unread in let no : ⊥ = cc in absurd no

  pub writes_wanting : (P : Type 0) → IsErrOf found Unwritten → P
  writes_wanting P = writes_by found wanting
    where
      writes_by : (r : Result OtherApp Stop) → IfErr r (λ stop. stop ≡ NoMemory) → IsErrOf r Unwritten → P
      writes_by (Ok second) h e = let no : ⊥ = cc in absurd no
      writes_by (Err stop) h e = let no : ⊥ = cc in absurd no

-- a call that has both applications
pub with_both : (first second : Network) (app other : List ℕ) (rules : Option (List ℕ)) (states : ℕ) (reading : Bool)
    (held : List ℕ → Option (List ℕ)) (tells : Bool) (before after : List ℕ) (ended : Result Status Stop) →
    IsOther reading held other first second → EndsOf (two first second app other states) rules reading held tells before after ended →
    EndsWith first app other rules states reading held tells before after ended
with_both first second app other rules states reading held tells before after (Ok status) is ends = (second, is, ends)
with_both first second app other rules states reading held tells before after (Err stop) is ends = inr (second, is, ends)

-- a call that has the first
pub answered : (first : Network) (app other : List ℕ) (rules : Option (List ℕ)) (states : ℕ) (reading : Bool)
    (held : List ℕ → Option (List ℕ)) (tells : Bool) (before after : List ℕ) (ended : Result Status Stop) →
    IsApp reading held app first → EndsWith first app other rules states reading held tells before after ended →
    IfOk ended (AnswersSame app other rules states reading held tells before after)
answered first app other rules states reading held tells before after (Ok status) is ends = (first, is, ends)
answered first app other rules states reading held tells before after (Err stop) is ends = tt

pub stopped : (first : Network) (app other : List ℕ) (rules : Option (List ℕ)) (states : ℕ) (reading : Bool)
    (held : List ℕ → Option (List ℕ)) (tells : Bool) (before after : List ℕ) (ended : Result Status Stop) →
    IsApp reading held app first → EndsWith first app other rules states reading held tells before after ended →
    IfErr ended (StopsSame app other rules states reading held tells before after)
stopped first app other rules states reading held tells before after (Ok status) is ends = tt
stopped first app other rules states reading held tells before after (Err stop) is ends = inr (first, is, ends)

-- a file of these could not be read, and so of those with one more before them, since before
pub unread_since : (reads mid reads' : List ℕ → ℕ) (name : List ℕ) (names : List (List ℕ)) (ended : Result Status Stop) →
    ((other : List ℕ) → reads other ≤ mid other) →
    IfErr ended (λ stop. IsUnread stop → Any (λ (name : List ℕ). Rose (mid name) (reads' name)) names) →
    IfErr ended (λ stop. IsUnread stop → Any (λ (name : List ℕ). Rose (reads name) (reads' name)) (name ∷ names))
unread_since reads mid reads' name names (Ok status) on unread = tt
unread_since reads mid reads' name names (Err stop) on unread = λ is. further (unread is)
  where
    further : Any (λ (name : List ℕ). Rose (mid name) (reads' name)) names → Any (λ (name : List ℕ). Rose (reads name) (reads' name)) (name ∷ names)
    further any =
        (suc any.0, any.1, omega (arith, any.2), any.3, rose_since (reads any.1) (mid any.1) (reads' any.1) (on any.1) any.4)
