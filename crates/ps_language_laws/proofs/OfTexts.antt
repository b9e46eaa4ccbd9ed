-- An accepted text by its own names.
use Rattle.std.proofs.Common.{ℕ, List, refl, subst}
use Rattle.ps_base.specs.declared.limits.TheConstants.{MOST_GROUPS}
use Rattle.ps_model.specs.Network.{Network}
use Rattle.ps_model.specs.Sound.{IsSound}
use Rattle.ps_names.specs.Stands.{Stands}
use Rattle.ps_derived.specs.declared.library.Library.{Library}
use Rattle.ps_derived.specs.Flat.{flat}
use Rattle.ps_derived.specs.Texts.{IsLibraryWithin}
use Rattle.ps_language_laws.specs.Maps.{HasFields}
use Rattle.ps_language_laws.proofs.Whole.{nested_is_flat}
use Rattle.ps_language_laws.proofs.WholeRuns.{nested_runs_are_flat}
use Rattle.ps_language_laws.proofs.OneRun.{one_more, one_alone, some_run, runs_alike}
use Rattle.ps_language_laws.proofs.Reported.{fields_are, reports_are}
use Rattle.ps_accepted.specs.Source.{IsAcceptedAs}
use Rattle.ps_accepted.specs.Source.Reading.{stands_for}
use Rattle.ps_accepted.proofs.Keeping.{resolved_sound}
use Rattle.ps_trace.specs.Scans.{Scans}
use Rattle.ps_model.specs.declared.channel.Cause.{Cause}
use Rattle.ps_model.specs.Meaning.{Item, nothing}
use Rattle.ps_top.specs.Asking.{Answer}
use Rattle.ps_top.specs.Untripped.{Held, AreHeld, TellsScans}
use Rattle.ps_top.proofs.Untripped.{runs_tell_all, faults_tell_trips}
use Rattle.ps_language_laws.specs.Texts.{IsAcceptedText, HasOneMap, HasOneRun, ReportsAreOfMaps, TellsMaps, TextsAreHeld, RunsTellMaps, FaultsTellMaps}

pub is_accepted : (source : List ℕ) (l : Library) (net : Network) → IsAcceptedText source l net → IsAcceptedAs source (stands_for net)
is_accepted source l net is =
    (record { tree = flat l; program = record { library = l; text = is.text; unbroken = is.unbroken; is = refl }; stands = is.stands }, is.accepted)

pub has_library : (source : List ℕ) (net : Network) → IsAcceptedAs source (stands_for net) → (l : Library) × IsAcceptedText source l net
has_library source net is =
    let program = is.0.program in (
      program.library,
      record { text = program.text; unbroken = program.unbroken; stands = subst (λ p. Stands p net) program.is is.0.stands; accepted = is.1 },
    )

module _ (source : List ℕ) (l : Library) (net : Network) (is : IsAcceptedText source l net) where
  within : IsLibraryWithin MOST_GROUPS l
  within = is.text.spelt.within

  sound : IsSound net
  sound = resolved_sound source net (is_accepted source l net is).0

  pub has_one_map : HasOneMap l net
  has_one_map = record {
    some = one_more MOST_GROUPS l net within is.unbroken is.stands sound;
    only = one_alone MOST_GROUPS l net within is.unbroken is.stands sound;
    solution = λ old ins dt new solves. ((nested_is_flat MOST_GROUPS l net within is.unbroken is.stands old ins dt new).0 solves).1;
  }

  pub has_one_run : (items : List Item) → HasOneRun l net items
  has_one_run items =
      let run = some_run MOST_GROUPS l net within is.unbroken is.stands sound nothing items in
      record {
        maps = run.0;
        means = run.1;
        only = λ others meant. runs_alike MOST_GROUPS l net within is.unbroken is.stands sound nothing nothing tt items others run.0 meant run.1;
        states = λ ws means. ((nested_runs_are_flat MOST_GROUPS l net within is.unbroken is.stands items ws).0 means).1;
      }

  pub has_fields : HasFields l net
  has_fields = fields_are MOST_GROUPS l within is.unbroken net is.stands

  pub are_of_maps : ReportsAreOfMaps l net
  are_of_maps = reports_are MOST_GROUPS l within is.unbroken net is.stands sound

  tells_maps : (tripped : List (ℕ × Cause)) (scans : Scans) (said : Answer) → TellsScans net tripped scans said → TellsMaps l net tripped scans said
  tells_maps tripped scans said tells =
      let run = has_one_run scans.items in
      record {
        maps = run.maps;
        meaning = run.means;
        states = tells.states;
        reports = are_of_maps scans.items tells.states run.maps tells.meaning run.means;
        lines = tells.lines;
      }

are_held : (held : Held) (app trace : List ℕ) (l : Library) (net : Network) (text : List ℕ) → TextsAreHeld held app trace l net text → AreHeld held app trace net text
are_held held app trace l net text is =
    record { source = is.source; source_is = is.source_is; accepted = is_accepted is.source l net is.accepted; text_is = is.text_is }

pub runs_tell_maps : RunsTellMaps
runs_tell_maps held app trace l net text said is right =
    tells_maps is.source l net is.accepted _ _ said (runs_tell_all held app trace net text said (are_held held app trace l net text is) right)

pub faults_tell_maps : FaultsTellMaps
faults_tell_maps held app trace name l net setup faults text said is has right =
    tells_maps is.source l net is.accepted _ _ said (faults_tell_trips held app trace name net setup faults text said (are_held held app trace l net text is) has right)
