use Rattle.std.proofs.Common.{◌≡◌, ◌∙◌, [], Bool, IsTrue, Ok, Err, length, inl, inr, refl, sym, ap, subst, arith}
use Rattle.ps_lines.specs.Lines.{HasNoLineFeed}
use Rattle.ps_bench_watch.specs.Feeding.{Gives, lines_left, waiting}
use Rattle.ps_bench_watch.specs.declared.feed.Fed.{Fed}
use Rattle.ps_runs.specs.Cutting.{cut_of}
use Rattle.ps_runs.specs.declared.items.Cut.TheVariants.{Unread}
use Rattle.ps_bench_watch.proofs.Stops.{cut_unread, leaves_cut, leaves_stopped, leaves_whole}
use Rattle.ps_bench_watch.proofs.Going.{due_on, went_first, went_fed, fed_answers, all_answers, stop_answers}
use Rattle.ps_bench_watch.proofs.answering.answer_lines.Goals as goal

pub lines-init : goal.lines-init
lines-init g c = record {
  fits = c.requires.fits;
  due = c.requires.due;
  inputs = c.requires.inputs;
  places = refl;
  went = λ told number shown. went_first _ _ _ c.args.feed.now number _ _ _ _ _ shown;
  reads = omega arith;
  telling = refl;
  handed_on = λ none. none;
  writes = omega arith;
  still_telling = refl;
}

pub returns-in-Err : goal.returns-in-Err
returns-in-Err g c =
    let inv = c.lines.invariant in
    let stop = c.in-Err.stop in
    rw c.from.ensures
    (record {
      answers = λ told number shown.
          let here : IsTrue (g.I.Stream.tells c.lines.input) = subst (λ (b : Bool). IsTrue b) (sym inv.telling) told in
          stop_answers _ _ _ c.args.feed.now number _ _ _ _ _ c.lines._count c.lines.feed _ _ _ _ (inv.went told number shown) (ap (λ v. v.items) inv.places) _ _
          (λ refusal e. c.next_item.ensures.refuses here refusal (c.in-Err.is ∙ ap Err e))
          (λ e. c.next_item.ensures.same_line here (c.in-Err.is ∙ ap Err e));
      all_came = λ is.
          let at : cut_of stop ≡ Unread = cc in
          c.next_item.ensures.all_came (c.in-Err.is ∙ ap Err (cut_unread stop at));
      leaves = leaves_stopped stop _ refl _ _ _ _ _ inv.reads (λ is. c.next_item.ensures.fault (c.in-Err.is ∙ ap Err is)) inv.handed_on inv.writes inv.still_telling;
    })

pub returns-then-is_over : goal.returns-then-is_over
returns-then-is_over g c =
    let inv = c.lines.invariant in
    let coming = g.I.Stream.coming in
    record {
      answers = λ told number shown.
          let here : IsTrue (g.I.Stream.tells c.lines.input) = subst (λ (b : Bool). IsTrue b) (sym inv.telling) told in
          let gives = subst (λ (fed : Fed). Gives fed c.lines.feed c.next_item.new.self c.lines.runner.scan c.next_item.new.into
          (lines_left c.lines.feed (coming c.lines.input)) (lines_left c.next_item.new.self (coming c.next_item.new.input)))
          (c.is_over.ensures.over c.if-is_over.true) (c.in-Ok.ensures.gives here) in
          all_answers _ _ _ c.args.feed.now number _ _ _ _ _ c.lines._count c.lines.feed _ _ _ _ (inv.went told number shown) (ap (λ v. v.items) inv.places) tt [] (inl gives.0);
      all_came = λ is. cc;
      leaves = leaves_whole _ refl _ _ _ _ inv.writes inv.still_telling;
    }

pub answer_fed-requires : goal.answer_fed-requires
answer_fed-requires g c =
    let inv = c.lines.invariant in
    let next = c.in-Ok.ensures in
    record {
      fits = record { performer = inv.fits.performer; taker = inv.fits.taker; inputs = next.fits ∙ inv.fits.inputs; outputs = inv.fits.outputs; diagnoses = inv.fits.diagnoses };
      due = λ is. let time = c.next_item.ensures.time (c.in-Ok.is ∙ ap Ok is) in omega (arith, inv.due, next.rises, time);
    }

pub returns-in-Err-answer_fed : goal.returns-in-Err-answer_fed
returns-in-Err-answer_fed g c =
    let inv = c.lines.invariant in
    let next = c.in-Ok.ensures in
    let did = c.in-Err-answer_fed.ensures in
    record {
      answers = λ told number shown.
          let here : IsTrue (g.I.Stream.tells c.lines.input) = subst (λ (b : Bool). IsTrue b) (sym inv.telling) told in
          fed_answers _ _ _ c.args.feed.now number _ _ _ _ _ c.lines._count c.lines.feed _ _ _ _ (inv.went told number shown) (ap (λ v. v.items) inv.places)
          c.in-Ok.fed c.next_item.new.self c.lines.runner.scan c.next_item.new.into _ (next.gives here) next.rises _ _ _ _ _ inv.still_telling did.does _;
      all_came = λ is. absurd {A = HasNoLineFeed (waiting c.next_item.new.self)} (did.hands_on.no_read is);
      leaves = leaves_cut _ _ _ _ _ _ inv.writes inv.still_telling did.hands_on;
    }

pub lines-preserved : goal.lines-preserved
lines-preserved g c =
    let inv = c.lines.invariant in
    let next = c.in-Ok.ensures in
    let did = c.in-Ok-answer_fed.ensures in
    let fed = c.in-Ok.fed in
    record {
      fits = did.fits;
      due = let limit = due_on fed _ c.next_item.new.into.now c.lines.feed.last c.next_item.new.self.last inv.due next.rises
          (λ is. c.next_item.ensures.time (c.in-Ok.is ∙ ap Ok is)) in omega (arith, did.due, limit);
      inputs = ap (λ v. length v.items) next.places ∙ inv.inputs;
      places = next.places ∙ inv.places;
      went = λ told number shown.
          went_fed _ _ _ c.args.feed.now number _ _ _ _ _ c.lines._count c.lines.feed _ _ _ _ (inv.went told number shown) (ap (λ v. v.items) inv.places)
          fed (c.is_over.ensures.more c.if-is_over.false) c.next_item.new.self c.lines.runner.scan c.next_item.new.into _
          (next.gives (subst (λ (b : Bool). IsTrue b) (sym inv.telling) told)) next.rises tt _ _ _ _ inv.still_telling did.does;
      reads = omega (arith, inv.reads, c.next_item.ensures.counts);
      telling = next.telling ∙ inv.telling;
      handed_on = λ none. did.hands_on.handed_on (inv.handed_on none);
      writes = omega (arith, inv.writes, did.hands_on.writes);
      still_telling = did.hands_on.telling ∙ inv.still_telling;
    }

pub returns : goal.returns
returns g c =
    let inv = c.lines.invariant in
    record {
      answers = λ told number shown.
          all_answers _ _ _ c.args.feed.now number _ _ _ _ _ c.lines._count c.lines.feed _ _ _ _ (inv.went told number shown) (ap (λ v. v.items) inv.places) tt [] (inr (omega arith));
      all_came = λ is. cc;
      leaves = leaves_whole _ refl _ _ _ _ inv.writes inv.still_telling;
    }
