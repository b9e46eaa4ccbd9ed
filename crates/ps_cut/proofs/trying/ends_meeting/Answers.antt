use Rattle.std.proofs.Common.{◌≡◌, ◌+◌, Bool, [], get_or, length, map, IfSome, arith, refl, sym, ap, subst, ◌∙◌}
use Rattle.std.proofs.lemmas.List.{length-map}
use Rattle.std.proofs.lemmas.Option.{slice_get_read}
use Rattle.ps_reach.specs.Tracing.{inputs_in}
use Rattle.ps_cut.specs.Trying.{GoesOn}
use Rattle.ps_cut.proofs.Copied.{at_map}
use Rattle.ps_cut.proofs.Trials.{goes_on, tried_all}
use Rattle.ps_cut.proofs.trying.ends_meeting.Goals as goal

pub loop-k-preserved : goal.loop-k-preserved
loop-k-preserved c =
    let net = c.args.app.now in
    let q = c.args.asked.now in
    let rule = c.args.rule in
    let scans = c.args.scans.now in
    let k = c.loop-k.k in
    let t = c.loop-k.trial in
    let t' = c.scan.new.self in
    let ins = c.as_slice.result.now in
    let here : get_or (map inputs_in scans) k [] ≡ ins =
    at_map inputs_in scans k c.index-scans-k.result [] (slice_get_read scans (length scans) k c.index-scans-k.result refl c.loop-k-test.true c.index-scans-k.is)
    ∙ ap inputs_in c.index-scans-k.is ∙ sym c.as_slice.ensures.value in
    record {
      fits = c.in_ok-is_met.ensures.fits;
      tried = goes_on net q rule (map inputs_in scans) k c.loop-k.met c.in-Some.is_met t t' ins c.loop-k.invariant.tried
          (omega (arith, c.loop-k-test.true, length-map scans inputs_in)) here
          (λ past pins stands. subst (λ o. IfSome o (λ (m : Bool). (t'.now ≡ t.now + q.every) × GoesOn net q rule past pins t.now ins m t')) c.in-Some.is
          (c.in_ok-is_met.ensures.goes past pins stands));
    }

pub returns : goal.returns
returns c =
    let scans = c.args.scans.now in
    tried_all c.args.app.now c.args.asked.now c.args.rule (map inputs_in scans) c.loop-k.k c.loop-k.met c.loop-k.trial c.loop-k.invariant.tried
    (omega (arith, c.loop-k-test.false, length-map scans inputs_in))
