-- What a call does in memory.
use Rattle.std.proofs.Common.{◌≡◌, ◌⊎◌, ℕ, Bool, true, false, List, refl, subst, inl, inr, ⊎_elim}
use Rattle.ps_outside.specs.InMemory.{FilesInMemory, SinkInMemory}
use Rattle.ps_top.specs.Meets.{AppendsNothing, AppendsPart}
use Rattle.ps_top.specs.declared.Status.{Status}
use Rattle.ps_top.specs.declared.Status.TheVariants.{ReadFault, WriteFault, Memory}
use Rattle.ps_top.specs.declared.left.Left.{Left}
use Rattle.ps_edge.specs.Doing.{Does, IsRight}
use Rattle.ps_edge.specs.Heard.{IsHeard}
use Rattle.ps_edge.specs.Hearing.{ListenerSeen}
use Rattle.ps_edge.specs.InMemory.{DoesInMemory, GaveBeginning, files_in, output_in}
use Rattle.ps_edge.specs.Telling.{IsTold, takes_memory}

module _ (words : List (List ℕ)) (files files' : FilesInMemory) (out out' : SinkInMemory) (left : Left) where
  -- an output in memory took nothing, or a beginning
  begun : AppendsNothing true out.taken out'.taken ⊎ AppendsPart (IsRight words (files_in files)) true out.taken out'.taken →
      (out'.taken ≡ out.taken) ⊎ GaveBeginning words files out out'
  begun took =
      ⊎_elim (λ (none : AppendsNothing true out.taken out'.taken). inl (none refl))
      (λ (part : AppendsPart (IsRight words (files_in files)) true out.taken out'.taken).
      inr (part.answer, part.right, part.written, part.owed, part.whole, part.appended refl)) took

  -- the clauses of a call in memory
  pub in_memory : (who : ListenerSeen) (after : List ℕ) (ended : Status) →
      Does words (files_in files) (files_in files') (output_in out) (output_in out') left ended →
      IsHeard false (IsTold words who left ended) (takes_memory words ended) who after → DoesInMemory words files files' out out' who after left ended
  in_memory who after ended does hears = record {
    answers = λ not. let all = does.whole refl not in (all.answer, all.right, all.ended, all.appended refl);
    begins = λ cut.
        ⊎_elim (λ (is : ended ≡ ReadFault). begun (does.unread refl is))
        (λ (other : (ended ≡ WriteFault) ⊎ (ended ≡ Memory)).
        ⊎_elim (λ (is : ended ≡ WriteFault). begun (does.stopped refl is)) (λ (is : ended ≡ Memory). inl (does.memory is refl)) other) cut;
    memory = λ is. does.memory is refl;
    not_held = λ name asked none. (does.not_held refl name asked none, does.nothing_written refl name asked none refl);
    completes = λ reads none.
        ⊎_elim (λ is. inl is) (λ all. inr (all.answer, all.right, all.ended, all.appended refl)) (does.completes refl reads none);
    hears = hears;
    does = does;
  }

-- where it is known whether the output is closed, what is heard by that is heard
pub heard_by : (is_closed known : Bool) (IsText : List ℕ → Type 0) (takes_memory : Bool) (who : ListenerSeen) (after : List ℕ) →
    is_closed ≡ known → IsHeard is_closed IsText takes_memory who after → IsHeard known IsText takes_memory who after
heard_by is_closed known IsText takes_memory who after same heard =
    subst (λ (closed : Bool). IsHeard closed IsText takes_memory who after) same heard
