use Rattle.std.proofs.Common.{◌≡◌, ◌≤◌, ◌∙◌, ℕ, List, Option, Result, Ok, Err, Some, IsTrue, length, subst, sym, ap, arith}
use Rattle.std.specs.Result.{IsErrOf}
use Rattle.ps_base.specs.declared.failing.Refusal.{Refusal}
use Rattle.ps_trace.specs.Reading.{Comes, Fills, items_left, last_of}
use Rattle.ps_trace.specs.Scans.{Scans}
use Rattle.ps_trace.specs.declared.trace.Next.{Next}
use Rattle.ps_model.specs.declared.report.Scan.{Scan}
use Rattle.ps_trace.specs.declared.trace.Next.TheVariants.{Scan as NextScan, Restart as NextRestart, End as NextEnd}
use Rattle.ps_trace.specs.declared.trace.TraceReader.{TraceReader}
use Rattle.ps_trace.specs.declared.trace.TraceStop.{TraceStop}
use Rattle.ps_trace.specs.declared.trace.TraceStop.TheVariants.{Fault, Refused}
use Rattle.ps_trace.proofs.GoingOn.{goes_on_from}
use Rattle.ps_trace.proofs.trace.TraceReader.next_scan.Goals as goal

abbrev answered : Next → Result Next TraceStop
answered next = Ok next

abbrev tried : Option Next → Result (Option Next) TraceStop
tried next = Ok next

-- an item is no refusal
item_unrefused : (next : Next) (refusal : Refusal) → answered next ≡ Err (Refused refusal) → ⊥
item_unrefused next refusal same = cc

-- an answer is no failed read
next_no_fault : (next : Option Next) → IsErrOf (tried next) Fault → ⊥
next_no_fault next failed = cc

-- an item fills from an earlier reader on that has the same time, and from an equal scan
fills_from : (next : Next) (old mid new : TraceReader) (held before after : Scan) → last_of mid ≡ last_of old → held ≡ before →
    Fills next mid new held after → Fills next old new before after
fills_from NextScan old mid new held before after time same fills =
    (fills.0 ∙ ap (λ (s : Scan). length s.ins) same, subst (λ (n : ℕ). n ≤ after.now) time fills.1, fills.2)
fills_from NextRestart old mid new held before after time same fills = (fills.0 ∙ same, fills.1 ∙ time)
fills_from NextEnd old mid new held before after time same fills = (fills.0 ∙ same, fills.1 ∙ time)

-- a file that is held under a name is held after each step that keeps both
held_on : (held kept : List ℕ → Option (List ℕ)) (name same text : List ℕ) → kept ≡ held → same ≡ name → held name ≡ Some text → kept same ≡ Some text
held_on held kept name same text alike named is = ap (λ (h : List ℕ → Option (List ℕ)). h same) alike ∙ ap held named ∙ is

pub lines-preserved : goal.lines-preserved
lines-preserved g c =
    let before = c.lines.invariant in
    let after = c.next_line.ensures in
    let nothing = c.in_ok-next.was ∙ ap Ok c.in_default-2.is in
    record {
      reads = λ tells text held is. after.reads (subst IsTrue (sym before.telling) tells) text (held_on _ _ _ _ text before.kept before.name held) (before.reads tells text held is);
      left = λ tells text held is. after.skips (subst IsTrue (sym before.telling) tells) text (held_on _ _ _ _ text before.kept before.name held) (before.reads tells text held is) nothing
          ∙ before.left tells text held is;
      unrefused = c.in_ok-next.ensures.open;
      ahead = omega (arith, before.ahead, after.moves nothing);
      into = after.skipped nothing ∙ before.into;
      time = after.skipped_time nothing ∙ before.time;
      exact = λ other. c.in_ok-next.ensures.exact (next_no_fault _) other ∙ before.exact other;
      kept = after.kept ∙ before.kept;
      telling = after.telling ∙ before.telling;
      name = after.name ∙ before.name;
      places = after.places ∙ before.places;
    }

pub lines-smaller : goal.lines-smaller
lines-smaller g c = omega (arith, c.next_line.new.self.near, c.next_line.ensures.moves (c.in_ok-next.was ∙ ap Ok c.in_default-2.is))

pub returns-in_err-next-clause-reads : goal.returns-in_err-next-clause-reads
returns-in_err-next-clause-reads g c = λ tells text held is.
    let before = c.lines.invariant in
    c.next_line.ensures.reads (subst IsTrue (sym before.telling) tells) text (held_on _ _ _ _ text before.kept before.name held) (before.reads tells text held is)

pub returns-in_err-next-clause-counts : goal.returns-in_err-next-clause-counts
returns-in_err-next-clause-counts g c = λ other. omega (arith, c.lines.invariant.exact other, c.next_line.ensures.counts other)

pub returns-in_err-next-clause-kept : goal.returns-in_err-next-clause-kept
returns-in_err-next-clause-kept g c = c.next_line.ensures.kept ∙ c.lines.invariant.kept

pub returns-in_err-next-clause-telling : goal.returns-in_err-next-clause-telling
returns-in_err-next-clause-telling g c = c.next_line.ensures.telling ∙ c.lines.invariant.telling

pub returns-in_err-next-clause-name : goal.returns-in_err-next-clause-name
returns-in_err-next-clause-name g c = c.next_line.ensures.name ∙ c.lines.invariant.name

pub returns-in-Some-2-clause-reads : goal.returns-in-Some-2-clause-reads
returns-in-Some-2-clause-reads g c = λ tells text held is.
    let before = c.lines.invariant in
    c.next_line.ensures.reads (subst IsTrue (sym before.telling) tells) text (held_on _ _ _ _ text before.kept before.name held) (before.reads tells text held is)

pub returns-in-Some-2-clause-comes : goal.returns-in-Some-2-clause-comes
returns-in-Some-2-clause-comes g c = λ tells text held is.
    let before = c.lines.invariant in
    subst (λ (items : Scans). Comes items c.in-Some-2.next c.next_line.new.into (items_left c.next_line.new.self text)) (before.left tells text held is)
    (c.next_line.ensures.comes (subst IsTrue (sym before.telling) tells) text (held_on _ _ _ _ text before.kept before.name held) (before.reads tells text held is)
    c.in-Some-2.next (c.in_ok-next.was ∙ ap Ok c.in-Some-2.is))

pub returns-in-Some-2-clause-goes_on : goal.returns-in-Some-2-clause-goes_on
returns-in-Some-2-clause-goes_on g c =
    goes_on_from c.in-Some-2.next c.args.self.now c.lines.self c.next_line.new.self c.lines.invariant.ahead
    (c.next_line.ensures.goes_on c.in-Some-2.next (c.in_ok-next.was ∙ ap Ok c.in-Some-2.is))

pub returns-in-Some-2-clause-counts : goal.returns-in-Some-2-clause-counts
returns-in-Some-2-clause-counts g c = λ other. omega (arith, c.lines.invariant.exact other, c.next_line.ensures.counts other)

pub returns-in-Some-2-clause-kept : goal.returns-in-Some-2-clause-kept
returns-in-Some-2-clause-kept g c = c.next_line.ensures.kept ∙ c.lines.invariant.kept

pub returns-in-Some-2-clause-telling : goal.returns-in-Some-2-clause-telling
returns-in-Some-2-clause-telling g c = c.next_line.ensures.telling ∙ c.lines.invariant.telling

pub returns-in-Some-2-clause-name : goal.returns-in-Some-2-clause-name
returns-in-Some-2-clause-name g c = c.next_line.ensures.name ∙ c.lines.invariant.name

pub returns-in-Some-2-clause-refuses : goal.returns-in-Some-2-clause-refuses
returns-in-Some-2-clause-refuses g c = λ tells text held is refusal same. absurd (item_unrefused _ refusal same)

pub returns-in-Some-2-clause-again : goal.returns-in-Some-2-clause-again
returns-in-Some-2-clause-again g c = λ refusal refused. absurd (c.in_default.not-Some refusal refused)

pub returns-in-Some-2-clause-stays_refused : goal.returns-in-Some-2-clause-stays_refused
returns-in-Some-2-clause-stays_refused g c = λ refusal same. absurd (item_unrefused _ refusal same)

pub returns-in-Some-2-clause-fills : goal.returns-in-Some-2-clause-fills
returns-in-Some-2-clause-fills g c =
    fills_from c.in-Some-2.next c.args.self.now c.lines.self c.next_line.new.self c.lines.into c.args.into.now c.next_line.new.into c.lines.invariant.time
    c.lines.invariant.into (c.next_line.ensures.fills c.in-Some-2.next (c.in_ok-next.was ∙ ap Ok c.in-Some-2.is))
