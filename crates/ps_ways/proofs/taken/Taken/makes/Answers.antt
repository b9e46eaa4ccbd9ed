use Rattle.std.proofs.Common.{◌∙◌}
use Rattle.std.proofs.lemmas.Bool.{le-ltb}
use Rattle.ps_ways.proofs.Marking.{made_entering, made_past, made_taking}
use Rattle.ps_ways.proofs.taken.Taken.makes.Goals as goal

pub returns-then-mark-ways : goal.returns-then-mark-ways
returns-then-mark-ways c =
    let m = c.args.self.now in
    c.takes.ensures ∙ made_taking m.kind m.from m.number m.to c.args.mark c.ways-ways.result.now c.ways-ways.ensures
    c.if-mark-ways.true _

pub returns-then-mark-ways-2 : goal.returns-then-mark-ways-2
returns-then-mark-ways-2 c =
    let m = c.args.self.now in
    c.enters.ensures ∙ made_entering m.kind m.from m.number m.to c.args.mark c.ways-ways.result.now c.ways-ways.ensures
    c.if-mark-ways.false c.if-mark-ways-2.true _

pub returns-else-mark-ways-2 : goal.returns-else-mark-ways-2
returns-else-mark-ways-2 c =
    let m = c.args.self.now in
    le-ltb _ _ c.if-mark-ways-2.false ∙ made_past m.kind m.from m.number m.to c.args.mark c.ways-ways.result.now c.ways-ways.ensures
    c.if-mark-ways.false c.if-mark-ways-2.false
