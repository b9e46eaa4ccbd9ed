use Rattle.std.proofs.Common.{◌≡◌, ◌∙◌, Some, sym, ap}
use Rattle.ps_trace.specs.FaultSays.{struck_by, targets_by}
use Rattle.ps_trace.specs.Faults.{struck_of}
use Rattle.ps_trace.specs.Faults.Struck.{skipped, strikes, broken}
use Rattle.ps_trace.specs.Found.{line_got}
use Rattle.ps_trace.proofs.FoundLemmas.{broken_gives, no_fault_in, skip_came, skip_few, skip_in, strike_are, strike_came, strike_says}
use Rattle.ps_trace.proofs.fault_file.take_line.Goals as goal

pub returns-in-Nothing : goal.returns-in-Nothing
returns-in-Nothing g c =
    let t = (targets_by g.W.Target.named_by g.W.Target.is_same g.W.Target.length_of g.W.Target.made c.args.sizes.now c.args.one_alone) in
    let old = c.args.found.now in
    let says : struck_of t old.before old.number (line_got c.args.got c.args.line.now) ≡ skipped = c.in-Ok.ensures ∙ ap struck_by c.in-Nothing.is in
    record {
      says = λ lines rest gives. skip_in t c.args.got old _ c.args.line.now lines rest c.number_behind-found.ensures says gives;
      are = record {
        few = skip_few t c.args.got old.before old.number _ c.args.line.now c.number_behind-found.ensures says;
        ordered = c.requires.are.ordered;
        one = c.requires.are.one;
        upto = c.requires.are.upto;
      };
      came = skip_came t c.args.got old.before old.number c.args.line.now says;
      no_fault = λ failed. cc;
    }

pub returns-in-Strikes : goal.returns-in-Strikes
returns-in-Strikes g c =
    let t = (targets_by g.W.Target.named_by g.W.Target.is_same g.W.Target.length_of g.W.Target.made c.args.sizes.now c.args.one_alone) in
    let old = c.args.found.now in
    let new = c.strike.new.found in
    let line = c.in-Strikes.line in
    let says : struck_of t old.before old.number (line_got c.args.got c.args.line.now) ≡ strikes line = c.in-Ok.ensures ∙ ap struck_by c.in-Strikes.is in
    record {
      says = λ lines rest gives. strike_says t c.args.got old new c.args.line.now line lines rest c.strike.result c.strike.ensures.answer c.strike.ensures.number c.strike.ensures.before c.strike.ensures.faults says gives;
      are = strike_are t g.met.W.Target.same_are_equal g.W.Target.parts g.met.W.Target.keeps_parts c.args.got old new c.args.line.now line c.strike.result c.strike.ensures.number c.strike.ensures.before c.strike.ensures.faults says c.requires.are;
      came = strike_came t c.args.got old.before old.number c.args.line.now line c.strike.result says;
      no_fault = no_fault_in t c.strike.result c.strike.ensures.answer;
    }

pub returns-in-Broken : goal.returns-in-Broken
returns-in-Broken g c =
    let t = (targets_by g.W.Target.named_by g.W.Target.is_same g.W.Target.length_of g.W.Target.made c.args.sizes.now c.args.one_alone) in
    let old = c.args.found.now in
    let rule = c.in-Broken.rule in
    let says : struck_of t old.before old.number (line_got c.args.got c.args.line.now) ≡ broken rule = c.in-Ok.ensures ∙ ap struck_by c.in-Broken.is in
    record {
      says = λ lines rest gives. broken_gives t c.args.got old.before old.number c.args.line.now lines rest rule c.requires.more gives says ∙ ap Some (sym c.at_line.ensures);
      are = tt;
      came = tt;
      no_fault = λ failed. cc;
    }
