use Rattle.std.proofs.Common.{subst, sym, drop}
use Rattle.ps_base.specs.declared.limits.TheConstants.{MOST_GROUPS}
use Rattle.ps_parser.specs.Symbol.{symbols}
use Rattle.ps_parser.specs.Grammar.{a_source}
use Rattle.ps_parser.specs.Phrase.{Refuses}
use Rattle.ps_parser.specs.Parses.{Stopped}
use Rattle.ps_parser.specs.Parsing.{IsRefusedFrom}
use Rattle.ps_parser.proofs.Answering.{tail_of, from_proper, from_left, from_ok, from_err}
use Rattle.ps_parser.proofs.read_source.parse_from.Goals as goal

pub source-requires : goal.source-requires
source-requires c = from_proper _ _ _ c.as_slice-all.ensures.items c.as_slice-all.ensures.tokens

pub overflow_sub-result : goal.overflow_sub-result
overflow_sub-result c = from_left c.as_slice-all.result.now c.in-Ok.rest.now c.args.at ((a_source c.args.heads).spell c.in-Ok.source) c.in-Ok.ensures.spelled

pub overflow_sub-all : goal.overflow_sub-all
overflow_sub-all c =
    let r : Refuses (a_source c.args.heads) MOST_GROUPS c.in-Err-Refused.flaw (symbols (tail_of c.as_slice-all.result.now c.args.at)) (symbols c.in-Err-Refused.left.now) =
    subst (λ d. Stopped (a_source c.args.heads) MOST_GROUPS (symbols (tail_of c.as_slice-all.result.now c.args.at)) d) c.in-Err-Refused.field-0-is c.in-Err-Refused.ensures in
    from_left c.as_slice-all.result.now c.in-Err-Refused.left.now c.args.at r.front r.split

pub returns-in-Ok : goal.returns-in-Ok
returns-in-Ok c = from_ok c.args.heads c.as_slice-all.result.now c.args.tokens.now.list c.args.at c.in-Ok.source c.in-Ok.rest.now c.as_slice-all.ensures.items c.as_slice-all.ensures.tokens c.requires c.in-Ok.ensures

pub returns-in-Err-Refused : goal.returns-in-Err-Refused
returns-in-Err-Refused c =
    let r : Refuses (a_source c.args.heads) MOST_GROUPS c.in-Err-Refused.flaw (symbols (tail_of c.as_slice-all.result.now c.args.at)) (symbols c.in-Err-Refused.left.now) =
    subst (λ d. Stopped (a_source c.args.heads) MOST_GROUPS (symbols (tail_of c.as_slice-all.result.now c.args.at)) d) c.in-Err-Refused.field-0-is c.in-Err-Refused.ensures in
    subst (λ r. IsRefusedFrom c.args.heads (drop c.args.at c.args.tokens.now.list) c.args.tokens.now.end (record { rule = r; place = c.place.result })) (sym c.rule.ensures)
    (from_err c.args.heads c.in-Err-Refused.flaw c.as_slice-all.result.now c.args.tokens.now.list c.args.at c.in-Err-Refused.left.now c.args.tokens.now.end c.place.result c.as_slice-all.ensures.items c.as_slice-all.ensures.tokens c.requires r c.place.ensures)
