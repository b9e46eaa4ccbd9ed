-- How a loop over the items of a trace comes to do them all.
use Rattle.std.proofs.Common.{◌≡◌, ◌∙◌, ◌++◌, [], ℕ, List, Bool, IsTrue, Result, Ok, Err, take, refl, sym, ap, subst, append_assoc, append-nil}
use Rattle.ps_base.specs.declared.failing.Refusal.{Refusal}
use Rattle.ps_model.specs.Meaning.{Item}
use Rattle.ps_trace.specs.Scans.{Scans}
use Rattle.ps_trace.specs.Reading.{Begins, only_refused}
use Rattle.ps_trace.specs.declared.trace.TraceStop.{TraceStop}
use Rattle.ps_trace.specs.declared.trace.TraceStop.TheVariants.{Refused as IsRefused, Fault as IsFault}
use Rattle.ps_runs.specs.Outcomes.{Outcome}
use Rattle.ps_runs.specs.Cutting.{cut_of}
use Rattle.ps_runs.specs.Doing.{IsDue, time_behind, no_items, DoesItem, Did, all, refused, unread, refused_item, unwritten, next, DoesItems}
use Rattle.ps_runs.specs.declared.items.Cut.{Cut}
use Rattle.ps_runs.specs.declared.items.Cut.TheVariants.{Refused, Unread, Unwritten}

-- So far these bytes were written, and what is done of the items that are left ends the whole.
pub record Leads {P T V : Type 0} (performs : P → Item → Outcome V → P → Type 0) (said : T → P → Outcome V → List ℕ)
    (takes : T → P → Outcome V → T → Type 0)
    (time : ℕ) (p : P) (t : T) (items : Scans) (tells : Bool) (before : List ℕ) (time' : ℕ) (p' : P) (t' : T) (rest : Scans) (now : List ℕ) : Type 0 where
  pub bytes : List ℕ
  pub written : IsTrue tells → now ≡ before ++ bytes
  pub ends : (more : List ℕ) (ended : Result (Unit {0}) Cut) (p'' : P) (t'' : T) → Did performs said takes time' p' t' rest more ended p'' t'' →
      Did performs said takes time p t items (bytes ++ more) ended p'' t''

-- at first all is left
pub leads_first : {P T V : Type 0} (performs : P → Item → Outcome V → P → Type 0) (said : T → P → Outcome V → List ℕ)
    (takes : T → P → Outcome V → T → Type 0)
    (time : ℕ) (p : P) (t : T) (items : Scans) (tells : Bool) (before : List ℕ) → Leads performs said takes time p t items tells before time p t items before
leads_first performs said takes time p t items tells before = record {
  bytes = [];
  written = λ on. sym (append-nil before);
  ends = λ more ended p'' t'' did. did;
}

module _ {P T V : Type 0} (performs : P → Item → Outcome V → P → Type 0) (said : T → P → Outcome V → List ℕ)
    (takes : T → P → Outcome V → T → Type 0)
    (time : ℕ) (p : P) (t : T) (items : Scans) (tells : Bool) (before : List ℕ) (time' : ℕ) (p' : P) (t' : T) (rest : Scans) (now : List ℕ)
    (leads : Leads performs said takes time p t items tells before time' p' t' rest now) where
  -- one more item was done
  pub leads_on : (x : Unit {0}) (tells' : Bool) (item : Item) (rest' : Scans) (time'' : ℕ) (p'' : P) (t'' : T) (after : List ℕ) → tells' ≡ tells →
      Begins rest item rest' → IsDue time' item → time'' ≡ time_behind time' item → DoesItem performs said takes item p' p'' t' t'' tells' now after (Ok x) →
      Leads performs said takes time p t items tells before time'' p'' t'' rest' after
  leads_on x tells' item rest' time'' p'' t'' after telling begins due same does = record {
    bytes = leads.bytes ++ said t' p'' does.outcome;
    written = λ on. does.written (subst (λ (b : Bool). IsTrue b) (sym telling) on) ∙ ap (λ (bytes : List ℕ). bytes ++ said t' p'' does.outcome) (leads.written on)
        ∙ append_assoc before leads.bytes (said t' p'' does.outcome);
    ends = λ more ended last_p last_t did.
        subst (λ (bytes : List ℕ). Did performs said takes time p t items bytes ended last_p last_t) (sym (append_assoc leads.bytes (said t' p'' does.outcome) more))
        (leads.ends (said t' p'' does.outcome ++ more) ended last_p last_t
        (next time' p' t' rest item rest' does.outcome p'' t'' more ended last_p last_t begins due does.done does.taken
        (subst (λ (n : ℕ). Did performs said takes n p'' t'' rest' more ended last_p last_t) same did)));
  }

  -- the rest was done
  pub rest_done : (more : List ℕ) (ended : Result (Unit {0}) Cut) (p'' : P) (t'' : T) (after : List ℕ) → Did performs said takes time' p' t' rest more ended p'' t'' →
      (IsTrue tells → after ≡ now ++ more) → DoesItems performs said takes time p t items tells before after ended p'' t''
  rest_done more ended p'' t'' after did wrote = record {
    bytes = leads.bytes ++ more;
    did = leads.ends more ended p'' t'' did;
    written = λ on. wrote on ∙ ap (λ (bytes : List ℕ). bytes ++ more) (leads.written on) ∙ append_assoc before leads.bytes more;
  }

  -- an item cut the run short
  pub item_cut : (cut : Cut) (tells' : Bool) (item : Item) (rest' : Scans) (p'' : P) (t'' : T) (after : List ℕ) → tells' ≡ tells → Begins rest item rest' → IsDue time' item →
      DoesItem performs said takes item p' p'' t' t'' tells' now after (Err cut) → DoesItems performs said takes time p t items tells before after (Err cut) p'' t''
  item_cut Unwritten tells' item rest' p'' t'' after telling begins due does =
      rest_done (take does.size (said t' p'' does.outcome)) (Err Unwritten) p'' t'' after
      (unwritten time' p' t' rest item rest' does.outcome p'' t'' does.size begins due does.done)
      (λ on. does.written (subst (λ (b : Bool). IsTrue b) (sym telling) on))
  item_cut (Refused refusal) tells' item rest' p'' t'' after telling begins due does =
      rest_done [] (Err (Refused refusal)) p'' t'' after
      (subst (λ (u : T). Did performs said takes time' p' t' rest [] (Err (Refused refusal)) p'' u) (sym does.untaken)
      (refused_item time' p' t' rest item rest' refusal p'' begins due does.done))
      (λ on. does.unwritten ∙ sym (append-nil now))
  item_cut Unread tells' item rest' p'' t'' after telling begins due does = absurd does

  -- all were done
  pub all_done : (x : Unit {0}) → rest ≡ no_items → DoesItems performs said takes time p t items tells before now (Ok x) p' t'
  all_done x is = rest_done [] (Ok x) p' t' now (all time' p' t' rest is) (λ on. sym (append-nil now))

  -- no item came
  pub no_item : (stop : TraceStop) → ((refusal : Refusal) → stop ≡ IsRefused refusal → rest ≡ only_refused refusal) →
      DoesItems performs said takes time p t items tells before now (Err (cut_of stop)) p' t'
  no_item (IsRefused refusal) is = rest_done [] (Err (Refused refusal)) p' t' now (refused time' p' t' rest refusal (is refusal refl)) (λ on. sym (append-nil now))
  no_item IsFault is = rest_done [] (Err Unread) p' t' now (unread time' p' t' rest) (λ on. sym (append-nil now))
