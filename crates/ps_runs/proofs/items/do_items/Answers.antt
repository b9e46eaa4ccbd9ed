use Rattle.std.proofs.Common.{◌≡◌, ◌∙◌, ℕ, List, Bool, IsTrue, Some, Err, refl, sym, ap, subst, arith}
use Rattle.std.proofs.lemmas.Result.{err_from_is_err_and}
use Rattle.ps_trace.specs.Reading.{Comes, Fills, file_of, items_left}
use Rattle.ps_trace.specs.declared.trace.Next.{Next}
use Rattle.ps_runs.proofs.Cutting.{same_reason, all_tell, stop_tells, item_tells}
use Rattle.ps_runs.proofs.Doing.{leads_first, leads_on, item_cut, all_done, no_item}
use Rattle.ps_runs.proofs.items.do_items.Goals as goal

pub items-init : goal.items-init
items-init g c = record {
  fits = c.requires.fits;
  due = c.requires.due;
  inputs = c.requires.inputs;
  name = refl;
  reads = λ ft text is reading. reading;
  leads = λ ft text is reading. leads_first _ _ _ _ _ _ _ _ _;
  all_read = λ name. refl;
  kept = refl;
  telling = refl;
  all_written = refl;
  still_telling = refl;
}

pub returns-in_err-next_scan-clause-does : goal.returns-in_err-next_scan-clause-does
returns-in_err-next_scan-clause-does g c = λ ft text is reading.
    let inv = c.items.invariant in
    let held = g.F.Files.held in
    let here : held c.items.files (file_of c.items.trace) ≡ Some text = ap (λ (h : List ℕ → _). h (file_of c.items.trace)) inv.kept ∙ ap (held c.args.files.now) inv.name ∙ is in
    let ft' : IsTrue (g.F.Files.tells c.items.files) = subst (λ (b : Bool). IsTrue b) (sym inv.telling) ft in
    let p = err_from_is_err_and c.from_residual.result c.from_residual.ensures.1 in
    rw (p.1, p.2)
    (no_item _ _ _ _ _ _ _ _ _ _ _ _ _ _ (inv.leads ft text is reading) _
    (λ refusal e. c.next_scan.ensures.refuses ft' text here (inv.reads ft text is reading) refusal (c.in_err-next_scan.was ∙ ap Err e)))

pub items-preserved-in-Continue-branch-3 : goal.items-preserved-in-Continue-branch-3
items-preserved-in-Continue-branch-3 g c =
    let inv = c.items.invariant in
    let fills = subst (λ (n : Next). Fills n c.items.trace c.next_scan.new.self c.items.runner.scan c.next_scan.new.into) c.in-Scan.is c.in_ok-next_scan.ensures.fills in
    record {
      fits = c.in_ok-do_scan-in-Scan.ensures.fits;
      due = omega (arith, fills.2, c.in_ok-do_scan-in-Scan.ensures.due);
      inputs = c.in_ok-next_scan.ensures.inputs ∙ inv.inputs;
      name = c.in_ok-next_scan.ensures.name ∙ inv.name;
      reads = λ ft text is reading.
          let held = g.F.Files.held in
          let here : held c.items.files (file_of c.items.trace) ≡ Some text = ap (λ (h : List ℕ → _). h (file_of c.items.trace)) inv.kept ∙ ap (held c.args.files.now) inv.name ∙ is in
          let ft' : IsTrue (g.F.Files.tells c.items.files) = subst (λ (b : Bool). IsTrue b) (sym inv.telling) ft in
          c.in_ok-next_scan.ensures.reads ft' text here (inv.reads ft text is reading);
      leads = λ ft text is reading.
          let held = g.F.Files.held in
          let here : held c.items.files (file_of c.items.trace) ≡ Some text = ap (λ (h : List ℕ → _). h (file_of c.items.trace)) inv.kept ∙ ap (held c.args.files.now) inv.name ∙ is in
          let ft' : IsTrue (g.F.Files.tells c.items.files) = subst (λ (b : Bool). IsTrue b) (sym inv.telling) ft in
          let comes = subst (λ (n : Next). Comes (items_left c.items.trace text) n c.next_scan.new.into (items_left c.next_scan.new.self text)) c.in-Scan.is
          (c.in_ok-next_scan.ensures.comes ft' text here (inv.reads ft text is reading)) in
          leads_on _ _ _ _ _ _ _ _ _ _ _ _ _ _ (inv.leads ft text is reading) _ _ _ _ _ _ _ _ inv.still_telling comes fills.1 fills.2 c.in_ok-do_scan-in-Scan.ensures.does;
      all_read = λ name. c.in_ok-next_scan.ensures.exact (λ is. cc) name ∙ inv.all_read name;
      kept = c.in_ok-next_scan.ensures.kept ∙ inv.kept;
      telling = c.in_ok-next_scan.ensures.telling ∙ inv.telling;
      all_written = c.in_ok-do_scan-in-Scan.ensures.all_written (λ is. cc) ∙ inv.all_written;
      still_telling = c.in_ok-do_scan-in-Scan.ensures.telling ∙ inv.still_telling;
    }

pub returns-in_err-do_scan-in-Scan-clause-does : goal.returns-in_err-do_scan-in-Scan-clause-does
returns-in_err-do_scan-in-Scan-clause-does g c = λ ft text is reading.
    let inv = c.items.invariant in
    let held = g.F.Files.held in
    let here : held c.items.files (file_of c.items.trace) ≡ Some text = ap (λ (h : List ℕ → _). h (file_of c.items.trace)) inv.kept ∙ ap (held c.args.files.now) inv.name ∙ is in
    let ft' : IsTrue (g.F.Files.tells c.items.files) = subst (λ (b : Bool). IsTrue b) (sym inv.telling) ft in
    let comes = subst (λ (n : Next). Comes (items_left c.items.trace text) n c.next_scan.new.into (items_left c.next_scan.new.self text)) c.in-Scan.is
    (c.in_ok-next_scan.ensures.comes ft' text here (inv.reads ft text is reading)) in
    let fills = subst (λ (n : Next). Fills n c.items.trace c.next_scan.new.self c.items.runner.scan c.next_scan.new.into) c.in-Scan.is c.in_ok-next_scan.ensures.fills in
    let p = err_from_is_err_and c.from_residual-in_err-do_scan-in-Scan.result c.from_residual-in_err-do_scan-in-Scan.ensures.1 in
    rw (p.1, p.2)
    (item_cut _ _ _ _ _ _ _ _ _ _ _ _ _ _ (inv.leads ft text is reading) _ _ _ _ _ _ _ inv.still_telling comes fills.1 c.in_err-do_scan-in-Scan.ensures.does)

pub items-preserved : goal.items-preserved
items-preserved g c =
    let inv = c.items.invariant in
    let fills = subst (λ (n : Next). Fills n c.items.trace c.next_scan.new.self c.items.runner.scan c.next_scan.new.into) c.in-Restart.is c.in_ok-next_scan.ensures.fills in
    record {
      fits = c.in_ok-do_restart-in-Restart.ensures.fits;
      due = omega (arith, fills.1, inv.due, c.in_ok-do_restart-in-Restart.ensures.due);
      inputs = c.in_ok-next_scan.ensures.inputs ∙ inv.inputs;
      name = c.in_ok-next_scan.ensures.name ∙ inv.name;
      reads = λ ft text is reading.
          let held = g.F.Files.held in
          let here : held c.items.files (file_of c.items.trace) ≡ Some text = ap (λ (h : List ℕ → _). h (file_of c.items.trace)) inv.kept ∙ ap (held c.args.files.now) inv.name ∙ is in
          let ft' : IsTrue (g.F.Files.tells c.items.files) = subst (λ (b : Bool). IsTrue b) (sym inv.telling) ft in
          c.in_ok-next_scan.ensures.reads ft' text here (inv.reads ft text is reading);
      leads = λ ft text is reading.
          let held = g.F.Files.held in
          let here : held c.items.files (file_of c.items.trace) ≡ Some text = ap (λ (h : List ℕ → _). h (file_of c.items.trace)) inv.kept ∙ ap (held c.args.files.now) inv.name ∙ is in
          let ft' : IsTrue (g.F.Files.tells c.items.files) = subst (λ (b : Bool). IsTrue b) (sym inv.telling) ft in
          let comes = subst (λ (n : Next). Comes (items_left c.items.trace text) n c.next_scan.new.into (items_left c.next_scan.new.self text)) c.in-Restart.is
          (c.in_ok-next_scan.ensures.comes ft' text here (inv.reads ft text is reading)) in
          leads_on _ _ _ _ _ _ _ _ _ _ _ _ _ _ (inv.leads ft text is reading) _ _ _ _ _ _ _ _ inv.still_telling comes tt fills.1 c.in_ok-do_restart-in-Restart.ensures.does;
      all_read = λ name. c.in_ok-next_scan.ensures.exact (λ is. cc) name ∙ inv.all_read name;
      kept = c.in_ok-next_scan.ensures.kept ∙ inv.kept;
      telling = c.in_ok-next_scan.ensures.telling ∙ inv.telling;
      all_written = c.in_ok-do_restart-in-Restart.ensures.all_written (λ is. cc) ∙ inv.all_written;
      still_telling = c.in_ok-do_restart-in-Restart.ensures.telling ∙ inv.still_telling;
    }

pub returns-in_err-do_restart-in-Restart-clause-does : goal.returns-in_err-do_restart-in-Restart-clause-does
returns-in_err-do_restart-in-Restart-clause-does g c = λ ft text is reading.
    let inv = c.items.invariant in
    let held = g.F.Files.held in
    let here : held c.items.files (file_of c.items.trace) ≡ Some text = ap (λ (h : List ℕ → _). h (file_of c.items.trace)) inv.kept ∙ ap (held c.args.files.now) inv.name ∙ is in
    let ft' : IsTrue (g.F.Files.tells c.items.files) = subst (λ (b : Bool). IsTrue b) (sym inv.telling) ft in
    let comes = subst (λ (n : Next). Comes (items_left c.items.trace text) n c.next_scan.new.into (items_left c.next_scan.new.self text)) c.in-Restart.is
    (c.in_ok-next_scan.ensures.comes ft' text here (inv.reads ft text is reading)) in
    let p = err_from_is_err_and c.from_residual-in_err-do_restart-in-Restart.result c.from_residual-in_err-do_restart-in-Restart.ensures.1 in
    rw (p.1, p.2)
    (item_cut _ _ _ _ _ _ _ _ _ _ _ _ _ _ (inv.leads ft text is reading) _ _ _ _ _ _ _ inv.still_telling comes tt c.in_err-do_restart-in-Restart.ensures.does)

pub returns-in-End-clause-does : goal.returns-in-End-clause-does
returns-in-End-clause-does g c = λ ft text is reading.
    let inv = c.items.invariant in
    let held = g.F.Files.held in
    let here : held c.items.files (file_of c.items.trace) ≡ Some text = ap (λ (h : List ℕ → _). h (file_of c.items.trace)) inv.kept ∙ ap (held c.args.files.now) inv.name ∙ is in
    let ft' : IsTrue (g.F.Files.tells c.items.files) = subst (λ (b : Bool). IsTrue b) (sym inv.telling) ft in
    let comes = subst (λ (n : Next). Comes (items_left c.items.trace text) n c.next_scan.new.into (items_left c.next_scan.new.self text)) c.in-End.is
    (c.in_ok-next_scan.ensures.comes ft' text here (inv.reads ft text is reading)) in
    all_done _ _ _ _ _ _ _ _ _ _ _ _ _ _ (inv.leads ft text is reading) _ comes.0

pub returns-in_err-next_scan-clause-failures : goal.returns-in_err-next_scan-clause-failures
returns-in_err-next_scan-clause-failures g c =
    let inv = c.items.invariant in
    let p = err_from_is_err_and c.from_residual.result c.from_residual.ensures.1 in
    rw (p.1, p.2)
    (stop_tells _ _ _ _ _ _ inv.all_read inv.all_written _ (file_of c.items.trace) inv.name
    (λ e. c.next_scan.ensures.fault (c.in_err-next_scan.was ∙ ap Err e))
    (λ not. c.next_scan.ensures.exact (λ e. not (same_reason _ _ _ c.in_err-next_scan.was e)))
    c.next_scan.ensures.counts)

pub returns-in_err-do_scan-in-Scan-clause-failures : goal.returns-in_err-do_scan-in-Scan-clause-failures
returns-in_err-do_scan-in-Scan-clause-failures g c =
    let inv = c.items.invariant in
    let p = err_from_is_err_and c.from_residual-in_err-do_scan-in-Scan.result c.from_residual-in_err-do_scan-in-Scan.ensures.1 in
    rw (p.1, p.2)
    (item_tells _ _ _ _ _ _ inv.all_read inv.all_written _ _
    c.in_err-do_scan-in-Scan.ensures.no_read
    (c.in_ok-next_scan.ensures.exact (λ is. cc))
    c.in_err-do_scan-in-Scan.ensures.unwritten c.in_err-do_scan-in-Scan.ensures.all_written c.in_err-do_scan-in-Scan.ensures.counts)

pub returns-in_err-do_restart-in-Restart-clause-failures : goal.returns-in_err-do_restart-in-Restart-clause-failures
returns-in_err-do_restart-in-Restart-clause-failures g c =
    let inv = c.items.invariant in
    let p = err_from_is_err_and c.from_residual-in_err-do_restart-in-Restart.result c.from_residual-in_err-do_restart-in-Restart.ensures.1 in
    rw (p.1, p.2)
    (item_tells _ _ _ _ _ _ inv.all_read inv.all_written _ _
    c.in_err-do_restart-in-Restart.ensures.no_read
    (c.in_ok-next_scan.ensures.exact (λ is. cc))
    c.in_err-do_restart-in-Restart.ensures.unwritten c.in_err-do_restart-in-Restart.ensures.all_written c.in_err-do_restart-in-Restart.ensures.counts)

pub returns-in-End-clause-failures : goal.returns-in-End-clause-failures
returns-in-End-clause-failures g c =
    let inv = c.items.invariant in
    all_tell _ _ _ _ _ _ inv.all_read inv.all_written _ (c.in_ok-next_scan.ensures.exact (λ is. cc))
