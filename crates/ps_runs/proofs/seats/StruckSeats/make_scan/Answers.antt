use Rattle.std.proofs.Common.{◌≡◌, ◌≤◌, ◌<◌, ◌∙◌, ◌++◌, ◌⊎◌, OnOk, ℕ, suc, false, [], List, Result, take, drop, length, refl, sym, ap, subst, arith}
use Rattle.std.specs.Prelude.{All}
use Rattle.std.specs.List.Sorted.{IsNonDecreasingBy}
use Rattle.std.proofs.lemmas.List.{drop-drop, take-append-drop, length-drop}
use Rattle.std.proofs.lemmas.List.Sorted.{IsNonDecreasingBy-drop}
use Rattle.ps_vote.specs.declared.faults.VoteFault.{VoteFault}
use Rattle.ps_vote.specs.declared.seat.Vote.{Vote}
use Rattle.ps_vote.specs.Orders.{at_vote, path_of_scan, scan_answer}
use Rattle.ps_vote.specs.Votes.{vote, report_given}
use Rattle.ps_vote.specs.Worlds.{World_state}
use Rattle.ps_vote.specs.Whole.{Whole, machines_in, after_events, IsSetupOf}
use Rattle.ps_runs.specs.Seats.{to_come, due, next_path, voted_at, vote_taken}
use Rattle.ps_runs.proofs.SeatFaults.{counted_are_due}
use Rattle.ps_runs.proofs.SeatScans.{vote_comes, refusal_comes}
use Rattle.ps_runs.proofs.seats.StruckSeats.make_scan.Goals as goal

pub returns-in-Ok-clause-votes : goal.returns-in-Ok-clause-votes
returns-in-Ok-clause-votes c =
    let p = c.args.self.now in
    let now = c.args.scan.now.now in
    let ins = c.args.scan.now.ins in
    let m = machines_in p.world.setup in
    let k = c.count_upto-due.result in
    let number = c.number_behind-number.result in
    let same : c.faults_from-to_come.result.now ≡ to_come p = c.faults_from-to_come.ensures ∙ ap (λ (fs : List VoteFault). drop c.args.self.now.next fs) c.as_slice.ensures in
    let counts : (to_come p ≡ []) ⊎ (number ≡ suc p.scans) = subst (λ (fs : List VoteFault). (fs ≡ []) ⊎ (number ≡ suc p.scans)) same c.number_behind-number.ensures in
    let struck : take k c.faults_from-to_come.result.now ≡ due p =
    ap (λ (fs : List VoteFault). take k fs) same
    ∙ counted_are_due p number k c.requires.fits.later counts (subst (λ (fs : List VoteFault). All (λ f. f.scan ≤ number) (take k fs)) same c.count_upto-due.ensures.upto)
    (subst (λ (fs : List VoteFault). All (λ f. number < f.scan) (drop k fs)) same c.count_upto-due.ensures.later) in
    let at : World_state = at_vote p.heals m (take k c.faults_from-to_come.result.now) now ins p.world.state in
    let given = subst (λ (r : Result Vote ℕ). OnOk r (c.make_scan-answer.new.into ≡ report_given m p.world.setup.sizes.outputs p.world.setup.sizes.instances at)) c.in-Ok.is c.make_scan-answer.ensures.report in
    record {
      comes = vote_comes (next_path p now ins).refused c.in-Ok.vote (vote m (voted_at p now ins)) now _ _
          (sym c.in-Ok.is ∙ c.make_scan-answer.ensures.answer
          ∙ (λ i. scan_answer (path_of_scan p.heals m (struck i) now ins p.world.state).refused (vote m (at_vote p.heals m (struck i) now ins p.world.state))))
          (given ∙ (λ j. report_given m (c.requires.fits.setup.sizes.outputs j) (c.requires.fits.setup.sizes.instances j) (at_vote p.heals m (struck j) now ins p.world.state)));
      happens = c.make_scan-answer.ensures.events ∙ ap (λ (fs : List VoteFault). after_events (path_of_scan p.heals m fs now ins p.world.state).events p.world) struck;
      leaves = sym (take-append-drop k (to_come p)) ∙ (λ i. (sym (ap (λ (fs : List VoteFault). take k fs) same) ∙ struck) i ++ drop-drop k p.next p.faults i);
      counts = counts;
      same_way = refl;
      healed = c.healed_by-self.ensures;
      again = c.first_again-self.ensures;
    }

pub returns-in-Ok-clause-fits : goal.returns-in-Ok-clause-fits
returns-in-Ok-clause-fits c =
    let p = c.args.self.now in
    let k = c.count_upto-due.result in
    let same : c.faults_from-to_come.result.now ≡ to_come p = c.faults_from-to_come.ensures ∙ ap (λ (fs : List VoteFault). drop c.args.self.now.next fs) c.as_slice.ensures in
    record {
      setup = subst (λ (w : Whole). IsSetupOf c.args.app.now w.setup) (sym c.make_scan-answer.ensures.events) c.requires.fits.setup;
      rest = subst (λ (r : Result Vote ℕ). OnOk r (c.make_scan-answer.new.self.state.begun ≡ false)) c.in-Ok.is c.make_scan-answer.ensures.rest;
      within = omega (arith, c.count_upto-due.ensures.within, ap length same, length-drop p.next p.faults, c.requires.fits.within);
      ordered = subst (λ (fs : List VoteFault). IsNonDecreasingBy (λ (f : VoteFault). f.scan) fs) (drop-drop k p.next p.faults) (IsNonDecreasingBy-drop (λ (f : VoteFault). f.scan) k (to_come p) c.requires.fits.ordered);
      later = subst (λ (fs : List VoteFault). All (λ f. c.number_behind-number.result < f.scan) fs) (ap (λ (fs : List VoteFault). drop k fs) same ∙ drop-drop k p.next p.faults) c.count_upto-due.ensures.later;
    }

pub returns-in-Err-clause-votes : goal.returns-in-Err-clause-votes
returns-in-Err-clause-votes c =
    let p = c.args.self.now in
    let now = c.args.scan.now.now in
    let ins = c.args.scan.now.ins in
    let m = machines_in p.world.setup in
    let k = c.count_upto-due.result in
    let number = c.number_behind-number.result in
    let same : c.faults_from-to_come.result.now ≡ to_come p = c.faults_from-to_come.ensures ∙ ap (λ (fs : List VoteFault). drop c.args.self.now.next fs) c.as_slice.ensures in
    let counts : (to_come p ≡ []) ⊎ (number ≡ suc p.scans) = subst (λ (fs : List VoteFault). (fs ≡ []) ⊎ (number ≡ suc p.scans)) same c.number_behind-number.ensures in
    let struck : take k c.faults_from-to_come.result.now ≡ due p =
    ap (λ (fs : List VoteFault). take k fs) same
    ∙ counted_are_due p number k c.requires.fits.later counts (subst (λ (fs : List VoteFault). All (λ f. f.scan ≤ number) (take k fs)) same c.count_upto-due.ensures.upto)
    (subst (λ (fs : List VoteFault). All (λ f. number < f.scan) (drop k fs)) same c.count_upto-due.ensures.later) in
    record {
      comes = refusal_comes (next_path p now ins).refused c.in-Err.line c.at_line.result (vote m (voted_at p now ins)) (vote_taken c.args.app.now m now (voted_at p now ins))
          (sym c.in-Err.is ∙ c.make_scan-answer.ensures.answer
          ∙ (λ i. scan_answer (path_of_scan p.heals m (struck i) now ins p.world.state).refused (vote m (at_vote p.heals m (struck i) now ins p.world.state))))
          c.at_line.ensures;
      happens = c.make_scan-answer.ensures.events ∙ ap (λ (fs : List VoteFault). after_events (path_of_scan p.heals m fs now ins p.world.state).events p.world) struck;
      leaves = sym (take-append-drop k (to_come p)) ∙ (λ i. (sym (ap (λ (fs : List VoteFault). take k fs) same) ∙ struck) i ++ drop-drop k p.next p.faults i);
      counts = counts;
      same_way = refl;
      healed = refl;
      again = refl;
    }
