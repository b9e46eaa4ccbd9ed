-- A released report is that of the meaning, and without a Spoil each is released.
use Rattle.std.proofs.Common.{◌≡◌, ℕ, false, List, [], ◌∷◌, ◌++◌, length, refl, sym, ap, ◌∙◌}
use Rattle.ps_model.specs.declared.channel.Channel.{Channel}
use Rattle.ps_model.specs.declared.channel.Channel.TheVariants.{A, B}
use Rattle.ps_model.specs.declared.channel.Progress.TheVariants.{Done}
use Rattle.ps_model.specs.declared.channel.Verdict.TheVariants.{Released}
use Rattle.ps_model.specs.declared.report.Report.{Report}
use Rattle.ps_model.specs.Fields.{blank_report}
use Rattle.ps_model.specs.Network.{Network, input_count, instance_count}
use Rattle.ps_model.specs.Scanning.{State}
use Rattle.ps_model.specs.Meaning.{Past, nothing, old_state, Meaning, Runs, report}
use Rattle.ps_model.specs.PastAfter.{past_after}
use Rattle.ps_machine.specs.Keeping.{Keeps}
use Rattle.ps_world.specs.Worlds.{Machines, World_state, Event, Begin, Turn, Spoil, Compare, Restart, machine, channel, world_0}
use Rattle.ps_machine.specs.Outcomes.{gives, outcome_by, outcome, GivesSized}
use Rattle.ps_machine.proofs.Sized.{outcome_sized}
use Rattle.ps_world.specs.Verdicts.{judged, verdict, is_trip, report_or, given_with, report_given}
use Rattle.ps_world.specs.Steps.{world_step, after, May, Lawful}
use Rattle.ps_world.specs.Lists.{IsSpared, items_of}
use Rattle.ps_world.specs.Laws.{Compares, report_meant, ReleasedIsRight, NeverTrips}
use Rattle.ps_world.proofs.Compared.{Agree, released_agree, agree_released, not_down, up_verdict}
use Rattle.ps_world.proofs.Standing.{Holds, beginning_holds, step_holds, after_holds, is_over}

pub lawful_front : (m : Machines) (n : ℕ) (es : List Event) (e : Event) (x : World_state) → Lawful m n (es ++ e ∷ []) x → Lawful m n es x
lawful_front m n [] e x law = tt
lawful_front m n (d ∷ es) e x law = (law.0, lawful_front m n es e (world_step m d x) law.1)

pub lawful_last : (m : Machines) (n : ℕ) (es : List Event) (e : Event) (x : World_state) → Lawful m n (es ++ e ∷ []) x → May m n e (after m es x)
lawful_last m n [] e x law = law.0
lawful_last m n (d ∷ es) e x law = lawful_last m n es e (world_step m d x) law.1

-- the report that is given where the channels agree
given_agreed : (m : Machines) (outputs instances : ℕ) (x : World_state) (agree : Agree (outcome m.a x.a.cells) (outcome m.b x.b.cells)) → verdict m x ≡ Released →
    report_given m outputs instances x ≡ agree.report
given_agreed m outputs instances x agree released =
    ap (λ v. given_with v outputs instances (outcome m.a x.a.cells)) released ∙ ap (report_or (blank_report outputs instances)) agree.a_gives

outcome_is : (m : Machines) (x : World_state) (ch : Channel) (agree : Agree (outcome m.a x.a.cells) (outcome m.b x.b.cells)) → outcome (machine ch m) (channel ch x).cells ≡ gives agree.report
outcome_is m x A agree = agree.a_gives
outcome_is m x B agree = agree.b_gives

module _ (net : Network) (m : Machines) (ch : Channel) (Stands : State → ℕ → List ℕ → Type 0) (keeps : Keeps net (machine ch m) Stands) where
  -- at a Compare of a world that is not tripped a channel that stands for the meaning gives its report
  pub meant_outcome : (x : World_state) (past : Past) → Holds net m ch Stands keeps x past → May m (input_count net) Compare x → x.tripped ≡ false →
      outcome (machine ch m) (channel ch x).cells ≡ gives (report net (old_state net past))
  meant_outcome x past h may up =
      let over = is_over net m ch Stands keeps x past h may up in
      ap (λ p. outcome_by p ((machine ch m).report (channel ch x).cells)) over.done ∙ ap (outcome_by Done) over.reports

  -- so does a channel that no Spoil names, after a lawful list
  pub spared_outcome : (es : List Event) (ws : List State) → Compares net m es → IsSpared ch es → Meaning net (items_of es) ws → (after m es (world_0 m)).tripped ≡ false →
      outcome (machine ch m) (channel ch (after m es (world_0 m))).cells ≡ gives (report_meant net es ws)
  spared_outcome es ws law spared means up =
      let x = after m es (world_0 m) in
      let front = lawful_front m (input_count net) es Compare (world_0 m) law in
      let h = after_holds net m ch Stands keeps es (world_0 m) nothing ws (beginning_holds net m ch Stands keeps) front spared means in
      meant_outcome x (past_after nothing (items_of es) ws) h (lawful_last m (input_count net) es Compare (world_0 m) law) up

module _ (net : Network) (m : Machines) (StandsA StandsB : State → ℕ → List ℕ → Type 0) (ka : Keeps net m.a StandsA) (kb : Keeps net m.b StandsB)
    (sized_a : GivesSized m.a (length net.outputs) (instance_count net)) (sized_b : GivesSized m.b (length net.outputs) (instance_count net)) where
  abbrev outputs : ℕ
  outputs = length net.outputs

  abbrev instances : ℕ
  instances = instance_count net

  agree_where_released : (x : World_state) → verdict m x ≡ Released → Agree (outcome m.a x.a.cells) (outcome m.b x.b.cells)
  agree_where_released x released =
      let up = not_down x.tripped (judged (outcome m.a x.a.cells) (outcome m.b x.b.cells)) released in
      released_agree outputs instances (outcome m.a x.a.cells) (outcome m.b x.b.cells) (outcome_sized m.a outputs instances x.a.cells sized_a) (outcome_sized m.b outputs instances x.b.cells sized_b)
      (sym (up_verdict m x up) ∙ released)

  -- at a Compare that releases, the report that is given is the one that a channel has which stands for the meaning
  pub released_report : (x : World_state) (r : Report) (ch : Channel) → outcome (machine ch m) (channel ch x).cells ≡ gives r → verdict m x ≡ Released → report_given m outputs instances x ≡ r
  released_report x r ch meant released =
      let agree = agree_where_released x released in
      let both : gives agree.report ≡ gives r = sym (outcome_is m x ch agree) ∙ meant in
      let same : agree.report ≡ r = cc in
      given_agreed m outputs instances x agree released ∙ same

  pub released_is_right : ReleasedIsRight net m
  released_is_right es ws law one means released = by_channel one.spared one.is_spared
    where
      x : World_state
      x = after m es (world_0 m)

      up : x.tripped ≡ false
      up = not_down x.tripped (judged (outcome m.a x.a.cells) (outcome m.b x.b.cells)) released

      by_channel : (ch : Channel) → IsSpared ch es → report_given m outputs instances x ≡ report_meant net es ws
      by_channel A spared = released_report x (report_meant net es ws) A (spared_outcome net m A StandsA ka es ws law spared means up) released
      by_channel B spared = released_report x (report_meant net es ws) B (spared_outcome net m B StandsB kb es ws law spared means up) released

  -- in a world whose channels both stand for the meaning a Compare releases
  pub releases : (x : World_state) (past : Past) → Holds net m A StandsA ka x past → Holds net m B StandsB kb x past → May m (input_count net) Compare x → x.tripped ≡ false →
      verdict m x ≡ Released
  releases x past ha hb may up =
      up_verdict m x up
      ∙ agree_released (outcome m.a x.a.cells) (outcome m.b x.b.cells) (record {
        report = report net (old_state net past);
        a_gives = meant_outcome net m A StandsA ka x past ha may up;
        b_gives = meant_outcome net m B StandsB kb x past hb may up;
      })

  stays_up : (es : List Event) (x : World_state) (past : Past) (ws : List State) → Holds net m A StandsA ka x past → Holds net m B StandsB kb x past → x.tripped ≡ false →
      Lawful m (input_count net) es x → IsSpared A es → IsSpared B es → Runs net past (items_of es) ws → (after m es x).tripped ≡ false
  stays_up [] x past ws ha hb up law na nb runs = up
  stays_up (Begin now ins ∷ es) x past [] ha hb up law na nb runs = absurd runs
  stays_up (Begin now ins ∷ es) x past (w ∷ ws) ha hb up law na nb runs =
      stays_up es (world_step m (Begin now ins) x) (past_after past (items_of (Begin now ins ∷ [])) (w ∷ [])) ws
      (step_holds net m A StandsA ka (Begin now ins) x past (w ∷ []) ha law.0 tt (runs.0, refl)) (step_holds net m B StandsB kb (Begin now ins) x past (w ∷ []) hb law.0 tt (runs.0, refl)) up law.1 na nb runs.1
  stays_up (Turn o ∷ es) x past ws ha hb up law na nb runs =
      stays_up es (world_step m (Turn o) x) past ws (step_holds net m A StandsA ka (Turn o) x past [] ha law.0 tt refl) (step_holds net m B StandsB kb (Turn o) x past [] hb law.0 tt refl) up law.1 na nb runs
  stays_up (Spoil o region at bytes ∷ es) x past ws ha hb up law na nb runs =
      stays_up es (world_step m (Spoil o region at bytes) x) past ws (step_holds net m A StandsA ka (Spoil o region at bytes) x past [] ha law.0 (na.0, tt) refl)
      (step_holds net m B StandsB kb (Spoil o region at bytes) x past [] hb law.0 (nb.0, tt) refl) up law.1 na.1 nb.1 runs
  stays_up (Compare ∷ es) x past ws ha hb up law na nb runs =
      stays_up es (world_step m Compare x) past ws (step_holds net m A StandsA ka Compare x past [] ha law.0 tt refl) (step_holds net m B StandsB kb Compare x past [] hb law.0 tt refl)
      (ap is_trip (releases x past ha hb law.0 up)) law.1 na nb runs
  stays_up (Restart ∷ es) x past ws ha hb up law na nb runs =
      stays_up es (world_step m Restart x) nothing ws (step_holds net m A StandsA ka Restart x past [] ha law.0 tt refl) (step_holds net m B StandsB kb Restart x past [] hb law.0 tt refl) refl law.1 na nb runs

  pub never_trips : NeverTrips net m
  never_trips es ws law none means =
      let x = after m es (world_0 m) in
      let front = lawful_front m (input_count net) es Compare (world_0 m) law in
      let may = lawful_last m (input_count net) es Compare (world_0 m) law in
      let ha0 = beginning_holds net m A StandsA ka in
      let hb0 = beginning_holds net m B StandsB kb in
      let up = stays_up es (world_0 m) nothing ws ha0 hb0 refl front none.a none.b means in
      let ha = after_holds net m A StandsA ka es (world_0 m) nothing ws ha0 front none.a means in
      let hb = after_holds net m B StandsB kb es (world_0 m) nothing ws hb0 front none.b means in
      let released = releases x (past_after nothing (items_of es) ws) ha hb may up in
      (released, released_is_right es ws law (record { spared = A; is_spared = none.a }) means released)
