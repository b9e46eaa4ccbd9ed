-- What is known of each point after the scans of a trace.
use Rattle.std.proofs.Common.{◌≡◌, ◌∙◌, ◌||◌, ℕ, Bool, false, true, List, [], ◌∷◌, Some, length, slice_get, refl, sym, ap, subst}
use Rattle.std.specs.Prelude.{slice_index_or}
use Rattle.std.specs.List.{list_any}
use Rattle.std.proofs.Math.Bool.{or-false, or_assoc}
use Rattle.ps_model.specs.Meaning.{Past, last, nothing, old_state, passed}
use Rattle.ps_model.specs.Network.{Network}
use Rattle.ps_model.specs.Scanning.{State, Solves}
use Rattle.ps_cover.specs.Applying.{ScanStep}
use Rattle.ps_cover.specs.Covering.{AreScanned, Looks, point_of}
use Rattle.ps_cover.specs.Covers.{IsAt, IsCoverFor, Knows, KnowsOf, Renews, TakesScan, time_of}
use Rattle.ps_cover.specs.Clock.{since}
use Rattle.ps_cover.specs.Points.{shows}
use Rattle.ps_cover.specs.declared.cover.Cover.{Cover}
use Rattle.ps_cover.specs.declared.point.Point.{Point}
use Rattle.ps_machine.specs.declared.signals.Signals.{Signals}
use Rattle.ps_cover.proofs.Standing.{shown_so, stands_first, stands_next}

-- of no scans nothing more is known
nothing_known : (net : Network) (points : List Point) (b : Bool) (seen : List Bool) → KnowsOf net [] points b seen seen
nothing_known net points b seen = record { each = refl; seen = λ n p at. sym (or-false (slice_index_or seen n false)) }

pub none_known : (net : Network) (t : Cover) → Knows net [] t t
none_known net t = record { points = refl; off = nothing_known net t.points.items false t.off.items; on = nothing_known net t.points.items true t.on.items }

-- and of scans one after another what is known of each
more_known : (net : Network) (s : ScanStep) (steps : List ScanStep) (points points' : List Point) (b : Bool) (x y z : List Bool) → points' ≡ points →
    KnowsOf net (s ∷ []) points b x y → KnowsOf net steps points' b y z → KnowsOf net (s ∷ steps) points b x z
more_known net s steps points points' b x y z same first rest = record {
  each = rest.each ∙ first.each;
  seen = λ n p at.
      let here : slice_get points' n ≡ Some p = ap (λ (ps : List Point). slice_get ps n) same ∙ at in
      let one = shows net b (point_of p) s in
      let more = list_any (shows net b (point_of p)) steps in
      rest.seen n p here ∙ ap (λ v. v || more) (first.seen n p at ∙ ap (λ v. slice_index_or x n false || v) (or-false one))
      ∙ or_assoc (slice_index_or x n false) one more;
}

pub both_known : (net : Network) (s : ScanStep) (steps : List ScanStep) (t t' t'' : Cover) → Knows net (s ∷ []) t t' → Knows net steps t' t'' →
    Knows net (s ∷ steps) t t''
both_known net s steps t t' t'' first rest = record {
  points = rest.points ∙ first.points;
  off = more_known net s steps t.points.items t'.points.items false t.off.items t'.off.items t''.off.items first.points first.off rest.off;
  on = more_known net s steps t.points.items t'.points.items true t.on.items t'.on.items t''.on.items first.points first.on rest.on;
}

-- the time that passed is the same
since_is : (past : Past) (now : ℕ) → since (time_of past) now ≡ passed past now
since_is nothing now = refl
since_is (last before w) now = refl

module _ (net : Network) (past : Past) (now : ℕ) (new : State) (t t' : Cover) (is_at : IsAt net past t) (x : Signals)
    (before : x.before.now ≡ (old_state net past).signals) (behind : x.behind.now ≡ new.signals) (takes : TakesScan net t now x t') where
  passes : since t.clock.last now ≡ passed past now
  passes = ap (λ l. since l now) is_at.time ∙ since_is past now

  -- what a scan shows is known after it
  look_known : (b : Bool) (before behind : List Bool) → Looks net x t'.calls.items b t.points.items before behind →
      KnowsOf net (record { old = old_state net past; since = passed past now; new = new } ∷ []) t.points.items b before behind
  look_known b was is looks = record {
    each = looks.each;
    seen = λ n p at.
        looks.seen n p at
        ∙ ap (λ v. slice_index_or was n false || v)
        (shown_so net x (old_state net past) new before behind past now refl t.calls.items t'.calls.items is_at.fits.calls
        (subst (λ d. AreScanned net x d t.calls.items t'.calls.items) passes takes.calls) is_at.stands b p
        ∙ sym (or-false (shows net b (point_of p) (record { old = old_state net past; since = passed past now; new = new }))));
  }

  pub scan_known : Knows net (record { old = old_state net past; since = passed past now; new = new } ∷ []) t t'
  scan_known = record {
    points = takes.points;
    off = look_known false t.off.items t'.off.items takes.off;
    on = look_known true t.on.items t'.on.items takes.on;
  }

  -- and what is kept stands after it
  pub scan_at : (ins : List Bool) → Solves net (old_state net past) ins (passed past now) new → IsCoverFor net t' → IsAt net (last now new) t'
  scan_at ins solves fits = record {
    fits = fits;
    stands = stands_next net x (old_state net past) new before behind past now refl t.calls.items t'.calls.items is_at.fits.calls
        (subst (λ d. AreScanned net x d t.calls.items t'.calls.items) passes takes.calls) is_at.stands ins solves;
    time = takes.last;
  }

-- all begins anew, and what was shown is known still
pub anew_at : (net : Network) (t t' : Cover) → Renews net t t' → IsAt net nothing t'
anew_at net t t' r = record { fits = r.fits; stands = stands_first net t.calls.items t'.calls.items r.begins.calls; time = r.begins.last }

kept_known : (net : Network) (steps : List ScanStep) (points points' : List Point) (b : Bool) (x y z : List Bool) → points' ≡ points → y ≡ x →
    KnowsOf net steps points' b y z → KnowsOf net steps points b x z
kept_known net steps points points' b x y z same kept k = record {
  each = k.each ∙ ap length kept;
  seen = λ n p at.
      k.seen n p (ap (λ (ps : List Point). slice_get ps n) same ∙ at)
      ∙ ap (λ (bs : List Bool). slice_index_or bs n false || list_any (shows net b (point_of p)) steps) kept;
}

pub anew_known : (net : Network) (steps : List ScanStep) (t t' t'' : Cover) → Renews net t t' → Knows net steps t' t'' → Knows net steps t t''
anew_known net steps t t' t'' r k = record {
  points = k.points ∙ r.begins.points;
  off = kept_known net steps t.points.items t'.points.items false t.off.items t'.off.items t''.off.items r.begins.points r.begins.off k.off;
  on = kept_known net steps t.points.items t'.points.items true t.on.items t'.on.items t''.on.items r.begins.points r.begins.on k.on;
}
