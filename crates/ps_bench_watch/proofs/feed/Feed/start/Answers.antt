use Rattle.std.proofs.Common.{◌≡◌, ◌∙◌, ◌≤◌, ℕ, Result, Err, IsErrOf, IsTrue, refl, sym, ap, subst, arith}
use Rattle.ps_base.specs.declared.failing.Refusal.{Refusal}
use Rattle.ps_model.specs.Network.{input_count}
use Rattle.ps_outside.specs.Outside.{Rose}
use Rattle.ps_outside.specs.declared.text_fail.TextFail.{TextFail}
use Rattle.ps_outside.specs.declared.text_fail.TextFail.TheVariants.{Memory, Fault, Refused}
use Rattle.ps_bench_watch.specs.Reading.{line_of}
use Rattle.ps_trace.specs.Header.{input_names}
use Rattle.ps_trace.specs.Header.Header.{no_header, places, wrong}
use Rattle.ps_trace.specs.HeaderSays.{IsSized, header_by}
use Rattle.ps_trace.specs.declared.header.HeaderSays.{HeaderSays}
use Rattle.ps_bench_watch.specs.Came.{header_came}
use Rattle.ps_bench_watch.specs.declared.feed.Feed.{Feed}
use Rattle.ps_bench_watch.proofs.WatchSaying.{behind_header, counts_line, headless, skipped_none, skipped_on}
use Rattle.ps_bench_watch.proofs.feed.Feed.start.Goals as goal

-- if memory runs out nothing is refused, and no read failed
abbrev wanting : Result Feed TextFail
wanting = Err Memory

no_refusal : {A : Type 0} (refusal : Refusal) → wanting ≡ Err (Refused refusal) → A
no_refusal refusal is = cc

no_fault : {A : Type 0} → IsErrOf wanting Fault → A
no_fault is = cc

-- a count that stays is not below
stays : {before after : ℕ} → after ≡ before → before ≤ after
stays {before} {after} is = omega (arith, is)

pub lines-init : goal.lines-init
lines-init g c = record {
  skipped = λ tells. skipped_none (input_names c.args.app.now) c.in-Ok.lines (g.S.Stream.coming c.args.input.now) c.in-Ok.ensures.longest c.in-Ok.ensures.fresh;
  longest = c.in-Ok.ensures.longest;
  exact = refl;
  telling = refl;
}

pub lines-preserved : goal.lines-preserved
lines-preserved g c =
    let inv = c.lines.invariant in
    let says : header_came (input_names c.args.app.now) c.in-Ok-next_line.came (line_of c.next_line.new.self) ≡ no_header = sym c.in-Ok-Nothing.ensures.says ∙ ap header_by c.in-Ok-Nothing.field-0-is in
    record {
      skipped = λ tells. skipped_on (input_names c.args.app.now) _ _ _ c.lines.number c.number_behind-number.result c.in-Ok-next_line.came (line_of c.next_line.new.self) (inv.skipped tells)
          (c.in-Ok-next_line.ensures.gives (subst IsTrue (sym inv.telling) tells)) says (counts_line _ _ c.in-Ok-next_line.came c.number_behind-number.ensures);
      longest = c.in-Ok-next_line.ensures.longest ∙ inv.longest;
      exact = c.in-Ok-next_line.ensures.exact ∙ inv.exact;
      telling = c.in-Ok-next_line.ensures.telling ∙ inv.telling;
    }

pub invariant_of-result : goal.invariant_of-result
invariant_of-result g c = record { one_each = c.in-Ok-vec.ensures.len ∙ c.len.ensures }

pub returns-in-Ok-Broken : goal.returns-in-Ok-Broken
returns-in-Ok-Broken g c =
    let inv = c.lines.invariant in
    record {
      begins = λ tells. tt;
      refuses = λ tells refusal is.
          let says : header_came (input_names c.args.app.now) c.in-Ok-next_line.came (line_of c.next_line.new.self) ≡ wrong c.in-Ok-Broken.rule = sym c.in-Ok-Broken.ensures.says ∙ ap header_by c.in-Ok-Broken.field-0-is in
          headless c.args.app.now _ _ _ c.lines.number c.in-Ok-next_line.came (line_of c.next_line.new.self) (inv.skipped tells)
          (c.in-Ok-next_line.ensures.gives (subst IsTrue (sym inv.telling) tells)) c.in-Ok-Broken.rule says refusal cc;
      sizes = tt;
      fresh = tt;
      fault = λ is. cc;
      exact = λ no. c.in-Ok-next_line.ensures.exact ∙ inv.exact;
      counts = stays (c.in-Ok-next_line.ensures.exact ∙ inv.exact);
      telling = c.next_line.ensures.telling ∙ inv.telling;
    }

pub returns-in-Ok-Places : goal.returns-in-Ok-Places
returns-in-Ok-Places g c =
    let inv = c.lines.invariant in
    let sized = subst (λ (says : HeaderSays). IsSized (input_count c.args.app.now) says) c.in-Ok-Places.field-0-is c.in-Ok-Places.ensures.sized in
    record {
      begins = λ tells.
          let says : header_came (input_names c.args.app.now) c.in-Ok-next_line.came (line_of c.next_line.new.self) ≡ places c.in-Ok-Places.places.items = sym c.in-Ok-Places.ensures.says ∙ ap header_by c.in-Ok-Places.field-0-is in
          behind_header c.args.app.now _ _ _ c.lines.number c.number_behind.result c.in-Ok-next_line.came (line_of c.next_line.new.self) (inv.skipped tells)
          (c.in-Ok-next_line.ensures.gives (subst IsTrue (sym inv.telling) tells)) c.in-Ok-Places.places.items says (counts_line _ _ c.in-Ok-next_line.came c.number_behind.ensures)
          c.is_last.result c.is_last.ensures _ refl refl refl;
      refuses = λ tells refusal is. cc;
      sizes = omega (arith, sized);
      fresh = refl;
      fault = λ is. cc;
      exact = λ no. c.in-Ok-next_line.ensures.exact ∙ inv.exact;
      counts = stays (c.in-Ok-next_line.ensures.exact ∙ inv.exact);
      telling = c.next_line.ensures.telling ∙ inv.telling;
    }

pub returns : goal.returns
returns g c =
    let inv = c.lines.invariant in
    record {
      begins = λ tells. tt;
      refuses = λ tells refusal is. no_refusal refusal is;
      sizes = tt;
      fresh = tt;
      fault = no_fault;
      exact = λ no. inv.exact;
      counts = stays inv.exact;
      telling = inv.telling;
    }

pub returns-in-Err : goal.returns-in-Err
returns-in-Err g c =
    record {
      begins = λ tells. tt;
      refuses = λ tells refusal is. no_refusal refusal is;
      sizes = tt;
      fresh = tt;
      fault = no_fault;
      exact = λ no. refl;
      counts = stays refl;
      telling = refl;
    }

pub returns-in-Err-header_of : goal.returns-in-Err-header_of
returns-in-Err-header_of g c =
    let inv = c.lines.invariant in
    record {
      begins = λ tells. tt;
      refuses = λ tells refusal is. no_refusal refusal is;
      sizes = tt;
      fresh = tt;
      fault = no_fault;
      exact = λ no. c.in-Ok-next_line.ensures.exact ∙ inv.exact;
      counts = stays (c.in-Ok-next_line.ensures.exact ∙ inv.exact);
      telling = c.next_line.ensures.telling ∙ inv.telling;
    }

pub returns-in-Err-vec : goal.returns-in-Err-vec
returns-in-Err-vec g c =
    let inv = c.lines.invariant in
    record {
      begins = λ tells. tt;
      refuses = λ tells refusal is. no_refusal refusal is;
      sizes = tt;
      fresh = tt;
      fault = no_fault;
      exact = λ no. c.in-Ok-next_line.ensures.exact ∙ inv.exact;
      counts = stays (c.in-Ok-next_line.ensures.exact ∙ inv.exact);
      telling = c.next_line.ensures.telling ∙ inv.telling;
    }

pub returns-in-Err-next_line : goal.returns-in-Err-next_line
returns-in-Err-next_line g c =
    let inv = c.lines.invariant in
    record {
      begins = λ tells. tt;
      refuses = λ tells refusal is. cc;
      sizes = tt;
      fresh = tt;
      fault = λ is. subst (λ (n : ℕ). Rose n (g.S.Stream.faults c.next_line.new.input)) inv.exact c.in-Err-next_line.ensures.failed;
      exact = λ no. absurd (no refl);
      counts = subst (λ (n : ℕ). n ≤ g.S.Stream.faults c.next_line.new.input) inv.exact c.next_line.ensures.counts;
      telling = c.next_line.ensures.telling ∙ inv.telling;
    }
