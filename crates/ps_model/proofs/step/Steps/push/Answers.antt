use Rattle.std.proofs.Common.{◌≡◌, ℕ, Bool, [], ◌∷◌, ◌++◌, length, map, take, Option, sym, ap, ◌∙◌, subst, arith}
use Rattle.std.proofs.lemmas.List.{map-append, length-map, take-append-le, take_all}
use Rattle.std.proofs.lemmas.Grind.{common_steps}
use Rattle.ps_model.specs.declared.step.Step.{Step}
use Rattle.ps_model.specs.Action.{Action}
use Rattle.ps_model.specs.Steps.{action, KeepsBeside}
use Rattle.ps_model.specs.FirstSteps.{step_noted, with_step, NotesFirst, is_assignment_to, is_call}
use Rattle.ps_model.proofs.Noting.{notes_one_more, notes_kept}
use Rattle.ps_model.proofs.step.Steps.push.Goals as goal

pub invariant_of-self : goal.invariant_of-self
invariant_of-self c =
    subst (λ xs. KeepsBeside (map action xs) c.self.inside.nodes.items c.self.inside.assigning.items c.self.inside.calling.items) (sym c.in_err-push.ensures.items) c.self.invariant

pub invariant_of-self-in-Ok : goal.invariant_of-self-in-Ok
invariant_of-self-in-Ok c =
    let old = c.self.inside.items.items in
    let steps = map action old in
    let step = c.args.step in
    let place = c.len-place.result in
    let steps_are : map action c.push.new.self.items ≡ steps ++ action step ∷ [] = ap (map action) c.in_ok-push.ensures.items ∙ map-append action old (step ∷ []) in
    let last : c.index.result.now ≡ step = grind (arith, common_steps) in
    let behind : place ≡ length steps = omega (arith, length-map old action) in
    let noted_with : (has : ℕ → Action → Bool) (n : ℕ) (before : Option ℕ) →
    with_step (has n (action c.index.result.now)) place before ≡ with_step (has n (action step)) place before =
    λ has n before. ap (λ (x : Step). with_step (has n (action x)) place before) last in
    record {
      nodes = grind (arith, common_steps);
      first_assignments = subst (λ xs. NotesFirst is_assignment_to xs c.write_beside.new.assigning.items) (sym steps_are)
          (notes_one_more is_assignment_to steps (action step) place c.self.inside.assigning.items c.write_beside.new.assigning.items behind
          c.self.invariant.first_assignments
          (λ n. c.in-Ok.ensures.assigning n ∙ noted_with is_assignment_to n (step_noted c.self.inside.assigning.items n)));
      first_calls = subst (λ xs. NotesFirst is_call xs c.write_beside.new.calling.items) (sym steps_are)
          (notes_one_more is_call steps (action step) place c.self.inside.calling.items c.write_beside.new.calling.items behind
          c.self.invariant.first_calls
          (λ n. c.in-Ok.ensures.calling n ∙ noted_with is_call n (step_noted c.self.inside.calling.items n)));
    }

pub invariant_of-self-in-Err : goal.invariant_of-self-in-Err
invariant_of-self-in-Err c =
    let old = c.self.inside.items.items in
    let place = c.len-place.result in
    let all : place ≡ length old = grind (arith, common_steps) in
    let back : c.truncate.new.self.items ≡ old =
    c.truncate.ensures.items ∙ ap (take place) c.in_ok-push.ensures.items
    ∙ take-append-le place old (c.args.step ∷ []) (omega arith) ∙ take_all place old (omega arith) in
    subst (λ xs. KeepsBeside (map action xs) c.write_beside.new.list.items c.write_beside.new.assigning.items c.write_beside.new.calling.items) (sym back)
    (record {
      nodes = c.in-Err.ensures.list_kept ∙ c.self.invariant.nodes;
      first_assignments = notes_kept is_assignment_to (map action old) c.self.inside.assigning.items c.write_beside.new.assigning.items c.self.invariant.first_assignments c.in-Err.ensures.assigning_kept;
      first_calls = notes_kept is_call (map action old) c.self.inside.calling.items c.write_beside.new.calling.items c.self.invariant.first_calls c.in-Err.ensures.calling_kept;
    })
