-- Paths, one after the other.
use Rattle.std.proofs.Common.{◌≡◌, ℕ, List, [], ◌∷◌, ◌++◌, Option, Some, None, Ok, Err, refl, ap, ◌∙◌}
use Rattle.ps_vote.specs.declared.faults.VoteFault.{VoteFault}
use Rattle.ps_vote.specs.Worlds.{Machines, World_state, Event}
use Rattle.ps_vote.specs.Steps.{world_step, after}
use Rattle.ps_vote.specs.Orders.{Path, unless_refused, followed, path_answer}

pub after_append : (m : Machines) (es fs : List Event) (x : World_state) → after m (es ++ fs) x ≡ after m fs (after m es x)
after_append m [] fs x = refl
after_append m (e ∷ es) fs x = after_append m es fs (world_step m e x)

-- what answers nothing ends at no fault
pub answers_none : (r : Option VoteFault) → Ok tt ≡ path_answer r → r ≡ None
answers_none None h = refl
answers_none (Some f) h = absurd (cc)

-- what answers a line ends at a fault of that line
pub answers_some : (r : Option VoteFault) (line : ℕ) → Err line ≡ path_answer r → (f : VoteFault) × (r ≡ Some f) × (f.line ≡ line)
answers_some None line h = absurd (cc)
answers_some (Some f) line h = (f, refl, cc)

module _ (m : Machines) (x : World_state) (p : Path) (later : World_state → Path) where
  -- a path that ends at no fault goes on
  pub goes_behind : p.refused ≡ None → after m (followed m x p later).events x ≡ after m (later (after m p.events x)).events (after m p.events x)
  goes_behind none =
      let q = later (after m p.events x) in
      ap (λ (r : Option VoteFault). after m (unless_refused r p.events q).events x) none ∙ after_append m p.events q.events x

  pub refused_behind : p.refused ≡ None → (followed m x p later).refused ≡ (later (after m p.events x)).refused
  refused_behind none = ap (λ (r : Option VoteFault). (unless_refused r p.events (later (after m p.events x))).refused) none

  -- and one that ends at a fault does not
  pub stops : (f : VoteFault) → p.refused ≡ Some f → after m (followed m x p later).events x ≡ after m p.events x
  stops f some = ap (λ (r : Option VoteFault). after m (unless_refused r p.events (later (after m p.events x))).events x) some

  pub refused_there : (f : VoteFault) → p.refused ≡ Some f → (followed m x p later).refused ≡ Some f
  refused_there f some = ap (λ (r : Option VoteFault). (unless_refused r p.events (later (after m p.events x))).refused) some
