-- The turns of loops over the scans of a pace and over statements: what is left, and how a rig and its judge came there.
use Rattle.std.proofs.Common.{◌≡◌, ◌≤◌, ◌<◌, ◌+◌, ◌-◌, ◌∙◌, ◌++◌, ℕ, suc, Bool, List, [], ◌∷◌, drop, length, map, refl, sym, ap, subst, append_assoc, arith}
use Rattle.std.specs.Prelude.{slice_set}
use Rattle.std.specs.List.{range_with_len}
use Rattle.std.proofs.lemmas.List.{drop_all, length-set}
use Rattle.ps_model.specs.declared.report.Scan.{Scan}
use Rattle.ps_model.specs.Network.{Network}
use Rattle.ps_bench_cases.specs.declared.case.Pace.{Pace}
use Rattle.ps_bench_names.specs.declared.name.Setting.{Setting}
use Rattle.ps_bench_cases.specs.declared.case.Statement.{Statement}
use Rattle.ps_bench_cases.specs.Meant.{set_by, time_at, times_in, times_made, times_of}
use Rattle.ps_bench_judge.specs.declared.judge.Judge.{Judge}
use Rattle.ps_bench_judge.specs.declared.rig.Rig.{Rig}
use Rattle.ps_bench_judge.specs.CaseRuns.{Task, makes, tasks_by, tasks_from}
use Rattle.ps_bench_judge.specs.Rigs.{Goes, IsRigFor, RiseFrom, last_of, set_through}
use Rattle.ps_bench_judge.proofs.Going.{goes_nowhere, goes_on}
use Rattle.ps_bench_judge.proofs.Tasks.{first_rises, last_of-append, rest_rises}

-- ---- the scans of a pace

-- the times of a pace after so many scans
abbrev pub times_left : Pace → ℕ → List ℕ
times_left pace k = map (time_at pace) (range_with_len (k + 1) (pace.count - k))

pub times_left_all : (pace : Pace) → times_left pace 0 ≡ times_of pace
times_left_all pace = let all : pace.count - 0 ≡ pace.count = omega arith in ap (λ n. map (time_at pace) (range_with_len 1 n)) all

pub times_left_more : (pace : Pace) (k : ℕ) → k < pace.count → times_left pace k ≡ time_at pace (k + 1) ∷ times_left pace (k + 1)
times_left_more pace k lt =
    let more : pace.count - k ≡ suc (pace.count - (k + 1)) = omega (arith, lt) in
    ap (λ n. map (time_at pace) (range_with_len (k + 1) n)) more

pub times_left_none : (pace : Pace) (k : ℕ) → pace.count ≤ k → times_left pace k ≡ []
times_left_none pace k le = let none : pace.count - k ≡ 0 = omega (arith, le) in ap (λ n. map (time_at pace) (range_with_len (k + 1) n)) none

-- the tasks of a line's scans at these times
abbrev pub scans_at : (line : ℕ) → List Bool → List ℕ → List Task
scans_at line ins times = map (λ now. makes line now ins) times

-- Of a line's scans at all these times those at the second ones are left.
pub record ScansLeft (net : Network) (line : ℕ) (all : List ℕ) (rig : Rig) (judge : Judge) (times : List ℕ) (rig' : Rig) (judge' : Judge) : Type 0 where
  pub fits : IsRigFor net rig'
  pub ins : rig'.scan.ins ≡ rig.scan.ins
  pub last : last_of rig'.scan.now times ≡ last_of rig.scan.now all
  pub rising : RiseFrom rig'.scan.now times
  pub goes : (later : List Task) → Goes net (scans_at line rig.scan.ins all ++ later) rig judge (scans_at line rig.scan.ins times ++ later) rig' judge'

pub scans_first : (net : Network) (line : ℕ) (all times : List ℕ) (rig : Rig) (judge : Judge) → times ≡ all → IsRigFor net rig → RiseFrom rig.scan.now all →
    ScansLeft net line all rig judge times rig judge
scans_first net line all times rig judge is fits rising = subst (λ (ts : List ℕ). ScansLeft net line all rig judge ts rig judge) (sym is) (record {
  fits = fits;
  ins = refl;
  last = refl;
  rising = rising;
  goes = λ later. goes_nowhere net (scans_at line rig.scan.ins all ++ later) rig judge;
})

module _ (net : Network) (line : ℕ) (all : List ℕ) (rig : Rig) (judge : Judge) (times : List ℕ) (rig' : Rig) (judge' : Judge)
    (left : ScansLeft net line all rig judge times rig' judge') where
  -- the next one is not before the last one
  pub scan_due : (now : ℕ) (times' : List ℕ) → times ≡ now ∷ times' → rig'.scan.now ≤ now
  scan_due now times' is = (subst (λ (ts : List ℕ). RiseFrom rig'.scan.now ts) is left.rising).0

  pub scans_on : (now : ℕ) (times' : List ℕ) (rig'' : Rig) (judge'' : Judge) → times ≡ now ∷ times' → IsRigFor net rig'' →
      rig''.scan ≡ record { now = now; ins = rig'.scan.ins } →
      ((later : List Task) → Goes net (makes line now rig'.scan.ins ∷ later) rig' judge' later rig'' judge'') →
      ScansLeft net line all rig judge times' rig'' judge''
  scans_on now times' rig'' judge'' is fits scan_is goes =
      let time_is : rig''.scan.now ≡ now = ap (λ (s : Scan). s.now) scan_is in
      record {
        fits = fits;
        ins = ap (λ (s : Scan). s.ins) scan_is ∙ left.ins;
        last = ap (λ (t : ℕ). last_of t times') time_is ∙ ap (λ (ts : List ℕ). last_of rig'.scan.now ts) (sym is) ∙ left.last;
        rising = subst (λ (t : ℕ). RiseFrom t times') (sym time_is) (subst (λ (ts : List ℕ). RiseFrom rig'.scan.now ts) is left.rising).1;
        goes = λ later.
            goes_on net (scans_at line rig.scan.ins all ++ later) rig judge (makes line now rig'.scan.ins ∷ (scans_at line rig.scan.ins times' ++ later)) rig' judge'
            (scans_at line rig.scan.ins times' ++ later) rig'' judge''
            (subst (λ (tasks : List Task). Goes net (scans_at line rig.scan.ins all ++ later) rig judge tasks rig' judge')
            ((λ i. scans_at line rig.scan.ins (is i) ++ later) ∙ (λ i. makes line now (sym left.ins i) ∷ (scans_at line rig.scan.ins times' ++ later)))
            (left.goes later))
            (goes (scans_at line rig.scan.ins times' ++ later));
      }

  pub scans_done : times ≡ [] → (rig'.scan ≡ record { now = last_of rig.scan.now all; ins = rig.scan.ins })
      × ((later : List Task) → Goes net (scans_at line rig.scan.ins all ++ later) rig judge later rig' judge')
  scans_done none = (
    (λ i. record { now = (ap (λ (ts : List ℕ). last_of rig'.scan.now ts) (sym none) ∙ left.last) i; ins = left.ins i }),
    λ later. subst (λ (ts : List ℕ). Goes net (scans_at line rig.scan.ins all ++ later) rig judge (scans_at line rig.scan.ins ts ++ later) rig' judge') none (left.goes later),
  )

-- ---- statements

-- Of statements the second ones are left.
pub record StatementsLeft (net : Network) (all : List Statement) (rig : Rig) (judge : Judge) (rest : List Statement) (rig' : Rig) (judge' : Judge) : Type 0 where
  pub fits : IsRigFor net rig'
  pub last : last_of rig'.scan.now (times_in rest) ≡ last_of rig.scan.now (times_in all)
  pub set : set_through rig'.scan.ins rest ≡ set_through rig.scan.ins all
  pub rising : RiseFrom rig'.scan.now (times_in rest)
  pub goes : (later : List Task) → Goes net (tasks_from rig.scan.ins all ++ later) rig judge (tasks_from rig'.scan.ins rest ++ later) rig' judge'

pub statements_first : (net : Network) (all : List Statement) (rig : Rig) (judge : Judge) → IsRigFor net rig → RiseFrom rig.scan.now (times_in all) →
    StatementsLeft net all rig judge all rig judge
statements_first net all rig judge fits rising = record {
  fits = fits;
  last = refl;
  set = refl;
  rising = rising;
  goes = λ later. goes_nowhere net (tasks_from rig.scan.ins all ++ later) rig judge;
}

module _ (net : Network) (all : List Statement) (rig : Rig) (judge : Judge) (rest : List Statement) (rig' : Rig) (judge' : Judge)
    (left : StatementsLeft net all rig judge rest rig' judge') where
  -- the times of the next line rise
  pub statement_rises : (s : Statement) (rest' : List Statement) → rest ≡ s ∷ rest' → RiseFrom rig'.scan.now (times_made s.act)
  statement_rises s rest' is =
      first_rises rig'.scan.now (times_made s.act) (times_in rest') (subst (λ (ss : List Statement). RiseFrom rig'.scan.now (times_in ss)) is left.rising)

  pub statements_on : (s : Statement) (rest' : List Statement) (rig'' : Rig) (judge'' : Judge) → rest ≡ s ∷ rest' → IsRigFor net rig'' →
      rig''.scan ≡ record { now = last_of rig'.scan.now (times_made s.act); ins = set_by rig'.scan.ins s.settings } →
      ((later : List Task) → Goes net (tasks_by s.line (set_by rig'.scan.ins s.settings) s.act ++ later) rig' judge' later rig'' judge'') →
      StatementsLeft net all rig judge rest' rig'' judge''
  statements_on s rest' rig'' judge'' is fits scan_is goes =
      let time_is : rig''.scan.now ≡ last_of rig'.scan.now (times_made s.act) = ap (λ (c : Scan). c.now) scan_is in
      let ins_is : rig''.scan.ins ≡ set_by rig'.scan.ins s.settings = ap (λ (c : Scan). c.ins) scan_is in
      record {
        fits = fits;
        last = ap (λ (t : ℕ). last_of t (times_in rest')) time_is ∙ sym (last_of-append rig'.scan.now (times_made s.act) (times_in rest'))
            ∙ ap (λ (ss : List Statement). last_of rig'.scan.now (times_in ss)) (sym is) ∙ left.last;
        set = ap (λ (ins : List Bool). set_through ins rest') ins_is ∙ ap (λ (ss : List Statement). set_through rig'.scan.ins ss) (sym is) ∙ left.set;
        rising = subst (λ (t : ℕ). RiseFrom t (times_in rest')) (sym time_is)
            (rest_rises rig'.scan.now (times_made s.act) (times_in rest') (subst (λ (ss : List Statement). RiseFrom rig'.scan.now (times_in ss)) is left.rising));
        goes = λ later.
            goes_on net (tasks_from rig.scan.ins all ++ later) rig judge
            (tasks_by s.line (set_by rig'.scan.ins s.settings) s.act ++ (tasks_from rig''.scan.ins rest' ++ later)) rig' judge'
            (tasks_from rig''.scan.ins rest' ++ later) rig'' judge''
            (subst (λ (tasks : List Task). Goes net (tasks_from rig.scan.ins all ++ later) rig judge tasks rig' judge')
            ((λ i. tasks_from rig'.scan.ins (is i) ++ later)
            ∙ (λ i. (tasks_by s.line (set_by rig'.scan.ins s.settings) s.act ++ tasks_from (sym ins_is i) rest') ++ later)
            ∙ append_assoc (tasks_by s.line (set_by rig'.scan.ins s.settings) s.act) (tasks_from rig''.scan.ins rest') later)
            (left.goes later))
            (goes (tasks_from rig''.scan.ins rest' ++ later));
      }

  pub statements_done : rest ≡ [] → (rig'.scan ≡ record { now = last_of rig.scan.now (times_in all); ins = set_through rig.scan.ins all })
      × ((later : List Task) → Goes net (tasks_from rig.scan.ins all ++ later) rig judge later rig' judge')
  statements_done none = (
    (λ i. record {
      now = (ap (λ (ss : List Statement). last_of rig'.scan.now (times_in ss)) (sym none) ∙ left.last) i;
      ins = (ap (λ (ss : List Statement). set_through rig'.scan.ins ss) (sym none) ∙ left.set) i;
    }),
    λ later. subst (λ (ss : List Statement). Goes net (tasks_from rig.scan.ins all ++ later) rig judge (tasks_from rig'.scan.ins ss ++ later) rig' judge') none (left.goes later),
  )

-- after all of a list nothing is left
pub none_left : {X : Type 0} (xs : List X) (i : ℕ) → length xs ≤ i → drop i xs ≡ []
none_left xs i le = drop_all i xs le

-- ---- settings

-- settings change no number of inputs
pub length-set_by : (ins : List Bool) (settings : List Setting) → length (set_by ins settings) ≡ length ins
length-set_by ins [] = refl
length-set_by ins (s ∷ settings) = length-set_by (slice_set ins s.input s.value) settings ∙ length-set ins s.input s.value

pub fits_set : (net : Network) (rig : Rig) (ins : List Bool) → length ins ≡ length rig.scan.ins → IsRigFor net rig →
    IsRigFor net (record rig { scan = record { now = rig.scan.now; ins = ins } })
fits_set net rig ins same fits = record {
  performer = fits.performer;
  due = fits.due;
  inputs = same ∙ fits.inputs;
  outputs = fits.outputs;
  diagnoses = fits.diagnoses;
  before = fits.before;
  signals = fits.signals;
}
