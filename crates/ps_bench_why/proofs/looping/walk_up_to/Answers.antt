use Rattle.std.proofs.Common.{◌≡◌, ◌∙◌, ◌≤◌, ℕ, List, Bool, IsTrue, Some, refl, sym, ap, subst, arith}
use Rattle.ps_model.specs.Meaning.{Item}
use Rattle.ps_trace.specs.Reading.{Comes, Fills, file_of, items_left, last_of}
use Rattle.ps_trace.specs.Scans.{Scans}
use Rattle.ps_trace.specs.declared.trace.Next.{Next}
use Rattle.ps_bench_why.specs.Scanned.{last_upto, scans_of}
use Rattle.ps_bench_why.specs.declared.walker.Walker.{Walker}
use Rattle.ps_bench_why.proofs.Going.{Standing, rescanned, taken}
use Rattle.ps_bench_why.proofs.looping.walk_up_to.Goals as goal

pub items-preserved-in-Ok-Scan : goal.items-preserved-in-Ok-Scan
items-preserved-in-Ok-Scan g c =
    let inv = c.items.invariant in
    let held = g.F.Files.held in
    let into = c.next_scan.new.into in
    let fills = subst (λ (n : Next). Fills n c.items.trace c.next_scan.new.self c.items.walker.scan into) c.in-Ok-Scan.field-0-is c.in-Ok-Scan.ensures.fills in
    record {
      fits = c.take.ensures.fits;
      due = omega (arith, fills.2, c.take.ensures.due);
      inputs = c.in-Ok-Scan.ensures.inputs ∙ inv.inputs;
      name = c.in-Ok-Scan.ensures.name ∙ inv.name;
      reads = λ ft text is reading.
          let here : held c.items.files (file_of c.items.trace) ≡ Some text = ap (λ (h : List ℕ → _). h (file_of c.items.trace)) inv.kept ∙ ap (held c.args.files.now) inv.name ∙ is in
          let ft' : IsTrue (g.F.Files.tells c.items.files) = subst (λ (b : Bool). IsTrue b) (sym inv.telling) ft in
          c.in-Ok-Scan.ensures.reads ft' text here (inv.reads ft text is reading);
      stands = λ ft text is reading states means.
          let here : held c.items.files (file_of c.items.trace) ≡ Some text = ap (λ (h : List ℕ → _). h (file_of c.items.trace)) inv.kept ∙ ap (held c.args.files.now) inv.name ∙ is in
          let ft' : IsTrue (g.F.Files.tells c.items.files) = subst (λ (b : Bool). IsTrue b) (sym inv.telling) ft in
          let comes = subst (λ (n : Next). Comes (items_left c.items.trace text) n into (items_left c.next_scan.new.self text)) c.in-Ok-Scan.field-0-is
          (c.in-Ok-Scan.ensures.comes ft' text here (inv.reads ft text is reading)) in
          let picked = last_upto c.args.time (scans_of (items_left c.args.trace.now text).items states) in
          let items = (items_left c.items.trace text).items in
          let rest = (items_left c.next_scan.new.self text).items in
          subst (λ n. Standing c.args.app.now c.args.time picked c.take.new.self n rest) (sym fills.2)
          (taken c.args.app.now c.args.time picked (record c.items.walker { scan = into }) c.take.new.self (last_of c.items.trace) items rest into.now into.ins
          (ap (λ (s : Scans). s.items) comes) (omega (arith, c.if-walker-time.false)) fills.1
          (rescanned c.args.app.now c.args.time picked c.items.walker into (last_of c.items.trace) items (inv.stands ft text is reading states means))
          c.take.ensures.look c.take.ensures.stands);
      ends = λ ft text is reading.
          let here : held c.items.files (file_of c.items.trace) ≡ Some text = ap (λ (h : List ℕ → _). h (file_of c.items.trace)) inv.kept ∙ ap (held c.args.files.now) inv.name ∙ is in
          let ft' : IsTrue (g.F.Files.tells c.items.files) = subst (λ (b : Bool). IsTrue b) (sym inv.telling) ft in
          let comes = subst (λ (n : Next). Comes (items_left c.items.trace text) n into (items_left c.next_scan.new.self text)) c.in-Ok-Scan.field-0-is
          (c.in-Ok-Scan.ensures.comes ft' text here (inv.reads ft text is reading)) in
          sym (ap (λ (s : Scans). s.end) comes) ∙ inv.ends ft text is reading;
      all_read = λ name. c.in-Ok-Scan.ensures.exact (λ is. cc) name ∙ inv.all_read name;
      kept = c.in-Ok-Scan.ensures.kept ∙ inv.kept;
      telling = c.in-Ok-Scan.ensures.telling ∙ inv.telling;
    }
