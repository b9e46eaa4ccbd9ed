-- What a verdict says of the outcomes of the two channels.
use Rattle.std.proofs.Common.{◌⊎◌, inl, inr, ◌≡◌, ℕ, Bool, true, false, cond, Option, Some, None, refl, sym, ap, ◌∙◌}
use Rattle.ps_model.specs.declared.channel.Channel.TheVariants.{A, B}
use Rattle.ps_model.specs.declared.channel.Cause.{Cause}
use Rattle.ps_model.specs.declared.channel.Cause.TheVariants.{Differ}
use Rattle.ps_model.specs.declared.channel.Verdict.{Verdict}
use Rattle.ps_model.specs.declared.channel.Verdict.TheVariants.{Released, Tripped, Down}
use Rattle.ps_model.specs.declared.report.Report.{Report}
use Rattle.ps_model.specs.Fields.{first_difference}
use Rattle.ps_model.proofs.FieldPlaces.{equal_from_no_difference, no_difference_from_equal}
use Rattle.ps_world.specs.Worlds.{Machines, World_state}
use Rattle.ps_machine.specs.Outcomes.{Outcome, gives, lacks, outcome, GivesSized}
use Rattle.ps_machine.proofs.Sized.{IsSized, outcome_sized}
use Rattle.ps_world.specs.Verdicts.{cause_of, agreed, judged, verdict}
use Rattle.ps_world.specs.Laws.{Disagree, TripsExactly}

-- both outcomes are this report
pub record Agree (a b : Outcome) : Type 0 where
  pub report : Report
  pub a_gives : a ≡ gives report
  pub b_gives : b ≡ gives report

not_released : (d : Option ℕ) → agreed d ≡ Released → d ≡ None
not_released None h = refl
not_released (Some f) h = absurd (cc)

-- a released report is that of both channels
pub released_agree : (outputs instances : ℕ) (a b : Outcome) → IsSized outputs instances a → IsSized outputs instances b → judged a b ≡ Released → Agree a b
released_agree outputs instances (lacks c) b sa sb h = absurd (cc)
released_agree outputs instances (gives r) (lacks c) sa sb h = absurd (cc)
released_agree outputs instances (gives r) (gives q) sa sb h =
    let same : r ≡ q = equal_from_no_difference r q (sa.outs r refl ∙ sym (sb.outs q refl)) (sa.diags r refl ∙ sym (sb.diags q refl)) (not_released (first_difference r q) h) in
    record { report = r; a_gives = refl; b_gives = ap gives (sym same) }

-- and channels that agree are released
pub agree_released : (a b : Outcome) → Agree a b → judged a b ≡ Released
agree_released a b agree =
    ap (λ o. judged o b) agree.a_gives ∙ ap (judged (gives agree.report)) agree.b_gives
    ∙ ap agreed (no_difference_from_equal agree.report agree.report refl)

pub not_down : (t : Bool) (v : Verdict) → cond t Down v ≡ Released → t ≡ false
not_down true v h = absurd (cc)
not_down false v h = refl

pub up_verdict : (m : Machines) (x : World_state) → x.tripped ≡ false → verdict m x ≡ judged (outcome m.a x.a.cells) (outcome m.b x.b.cells)
up_verdict m x up = ap (λ t. cond t Down (judged (outcome m.a x.a.cells) (outcome m.b x.b.cells))) up

-- ---- Trips exactly.

-- a judgement is Released or Tripped
judged_is : (a b : Outcome) → (judged a b ≡ Released) ⊎ ((cause : Cause) × (judged a b ≡ Tripped cause))
judged_is (lacks f) b = inr (cause_of A f, refl)
judged_is (gives r) (lacks f) = inr (cause_of B f, refl)
judged_is (gives r) (gives q) = by_difference (first_difference r q)
  where
    by_difference : (d : Option ℕ) → (agreed d ≡ Released) ⊎ ((cause : Cause) × (agreed d ≡ Tripped cause))
    by_difference None = inl refl
    by_difference (Some f) = inr (Differ f, refl)

pub trips_exactly : (m : Machines) (outputs instances : ℕ) → GivesSized m.a outputs instances → GivesSized m.b outputs instances → TripsExactly m
trips_exactly m outputs instances ga gb x up = (disagree, trips)
  where
    a : Outcome
    a = outcome m.a x.a.cells

    b : Outcome
    b = outcome m.b x.b.cells

    disagree : ((cause : Cause) × (verdict m x ≡ Tripped cause)) → Disagree m x
    disagree h = record {
      none_equal = λ r ea eb.
          let released : judged a b ≡ Released = agree_released a b (record { report = r; a_gives = ea; b_gives = eb }) in
          let both : Released ≡ Tripped h.0 = sym released ∙ sym (up_verdict m x up) ∙ h.1 in
          cc;
    }

    trips : Disagree m x → (cause : Cause) × (verdict m x ≡ Tripped cause)
    trips d = elim (judged_is a b) [
      | inl released ↦
          let agree = released_agree outputs instances a b (outcome_sized m.a outputs instances x.a.cells ga) (outcome_sized m.b outputs instances x.b.cells gb) released in
          absurd (d.none_equal agree.report agree.a_gives agree.b_gives)
      | inr tripped ↦ (tripped.0, up_verdict m x up ∙ tripped.1)
    ]
