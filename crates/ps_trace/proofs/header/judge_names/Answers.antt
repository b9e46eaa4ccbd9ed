use Rattle.std.proofs.Common.{◌∙◌, drop, arith}
use Rattle.std.proofs.lemmas.Grind.{common_steps}
use Rattle.ps_model.specs.Network.{input_count}
use Rattle.ps_trace.specs.Words.{words}
use Rattle.ps_trace.specs.Header.{input_names, inputs_named}
use Rattle.ps_trace.proofs.HeaderLemmas.{input_names-length, once_each, places_are, said_T2, said_T3, said_places}
use Rattle.ps_trace.proofs.header.judge_names.Goals as goal

pub returns-then-not-read_names : goal.returns-then-not-read_names
returns-then-not-read_names c = said_T2 (input_names c.args.app.now) (words (drop c.args.at c.args.line.now)) (grind (arith, common_steps))

pub returns-then-not-are_once : goal.returns-then-not-are_once
returns-then-not-are_once c =
    let names = input_names c.args.app.now in
    let ws = words (drop c.args.at c.args.line.now) in
    let counts = once_each c.read_names.new.times (inputs_named names ws) (input_count c.args.app.now) (grind (arith, common_steps)) (c.read_names.ensures.times (grind (arith, common_steps))) in
    said_T3 names ws (input_count c.args.app.now) (input_names-length c.args.app.now) (grind (arith, common_steps)) (counts ∙ grind (arith, common_steps))

pub returns : goal.returns
returns c =
    let names = input_names c.args.app.now in
    let ws = words (drop c.args.at c.args.line.now) in
    let inputs = input_count c.args.app.now in
    let counts = once_each c.read_names.new.times (inputs_named names ws) inputs (grind (arith, common_steps)) (c.read_names.ensures.times (grind (arith, common_steps))) in
    said_places names ws inputs c.read_names.new.places (input_names-length c.args.app.now) (grind (arith, common_steps)) (counts ∙ grind (arith, common_steps))
    (places_are c.read_names.new.times c.read_names.new.places (inputs_named names ws) inputs (grind (arith, common_steps)) (grind (arith, common_steps)) (grind (arith, common_steps)) (c.read_names.ensures.places (grind (arith, common_steps))))
