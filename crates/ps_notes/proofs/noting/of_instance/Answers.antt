use Rattle.std.proofs.Common.{◌≡◌, ◌+◌, ◌-◌, ◌<◌, ◌||◌, true, false, None, Some, ap, sym, ◌∙◌, arith, if◌then◌else◌}
use Rattle.std.specs.List.{list_any, range_with_len}
use Rattle.std.specs.Option.{is_some}
use Rattle.ps_model.specs.Blocks.{output_count}
use Rattle.ps_model.specs.FirstSteps.{step_noted}
use Rattle.ps_model.specs.Network.{first_pin, kind_at, signal_count}
use Rattle.ps_model.proofs.OneSolution.{first_pin_range}
use Rattle.ps_notes.specs.declared.note.Note.TheVariants.{Unused}
use Rattle.ps_notes.specs.Notes.{has_reader}
use Rattle.ps_notes.proofs.Walking.{any_from}
use Rattle.ps_notes.proofs.noting.of_instance.Goals as goal

pub overflow_add-first : goal.overflow_add-first
overflow_add-first c = omega (arith, first_pin_range c.args.app.now c.sound.ensures c.args.instance c.requires.instance, c.sound.ensures.few_signals)

pub returns-then-is_some : goal.returns-then-is_some
returns-then-is_some c =
    let net = c.args.app.now in
    let i = c.args.instance in
    let first = first_pin net i in
    let count = output_count (kind_at net i) in
    let j = c.loop-j.j in
    let outputs : output_count c.instance_kind.result ≡ count = ap output_count c.instance_kind.ensures in
    let range = first_pin_range net c.sound.ensures i c.requires.instance in
    let below : first + j < signal_count net = omega arith in
    let place : first + j ≡ c.first_pin-first.result + c.from.result = omega arith in
    let has : has_reader net (first + j) ≡ true =
    sym (ap is_some (c.requires.readers.first (first + j) below)) ∙ ap (λ s. is_some (step_noted c.args.readers.now s)) place
    ∙ sym c.is_some.ensures ∙ c.if-is_some.true in
    let whole : list_any (has_reader net) (range_with_len first count) ≡ true =
    c.loop-j.invariant ∙ any_from (has_reader net) first count j (omega arith)
    ∙ ap (λ b. b || list_any (has_reader net) (range_with_len (first + (j + 1)) (count - (j + 1)))) has in
    sym (ap (λ b. if b then None else Some (Unused i)) whole)

pub loop-j-preserved : goal.loop-j-preserved
loop-j-preserved c =
    let net = c.args.app.now in
    let i = c.args.instance in
    let first = first_pin net i in
    let count = output_count (kind_at net i) in
    let j = c.loop-j.j in
    let outputs : output_count c.instance_kind.result ≡ count = ap output_count c.instance_kind.ensures in
    let range = first_pin_range net c.sound.ensures i c.requires.instance in
    let below : first + j < signal_count net = omega arith in
    let place : first + j ≡ c.first_pin-first.result + c.from.result = omega arith in
    let has : has_reader net (first + j) ≡ false =
    sym (ap is_some (c.requires.readers.first (first + j) below)) ∙ ap (λ s. is_some (step_noted c.args.readers.now s)) place
    ∙ sym c.is_some.ensures ∙ c.if-is_some.false in
    c.loop-j.invariant ∙ any_from (has_reader net) first count j (omega arith)
    ∙ ap (λ b. b || list_any (has_reader net) (range_with_len (first + (j + 1)) (count - (j + 1)))) has
