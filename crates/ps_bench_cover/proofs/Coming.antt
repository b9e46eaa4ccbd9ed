-- What is written of what a call comes to: the clauses of `cover` from what it comes to and how it ends.
use Rattle.std.proofs.Common.{◌≡◌, ◌≢◌, ◌∙◌, ℕ, Bool, List, [], Result, Ok, Err, inl, inr, refl, sym, ap, subst, append-nil}
use Rattle.std.proofs.lemmas.Bool.{false≢true}
use Rattle.std.specs.Prelude.{IfErr, IfOk}
use Rattle.ps_bench_frame.specs.Answering.{Ends, EndsBy, stop_text}
use Rattle.ps_bench_frame.specs.Coming.{IsWhyNoApp, OfApp}
use Rattle.ps_bench_frame.specs.Ending.{stop_at}
use Rattle.ps_bench_frame.specs.Opening.{IsOfApp, Source, source_in}
use Rattle.ps_bench_frame.specs.Seen.{Texts}
use Rattle.ps_bench_frame.specs.Stopping.{Took, TookNothing, TookSome}
use Rattle.ps_bench_frame.specs.declared.answering.Answer.{Answer}
use Rattle.ps_bench_frame.specs.declared.ending.Status.{Status}
use Rattle.ps_bench_frame.specs.declared.ending.Stop.{Stop}
use Rattle.ps_bench_frame.specs.declared.ending.Stop.TheVariants.{App, Cases, UnreadApp, UnreadCases, Input, Unwritten, NoMemory}
use Rattle.ps_bench_trace.specs.Coming.{IsWhyAtWord}
use Rattle.ps_bench_trace.specs.Refusing.{StopsAtWord}
use Rattle.ps_model.specs.Network.{Network}
use Rattle.ps_model.specs.declared.channel.ImageSizes.{ImageSizes}
use Rattle.ps_bench_cover.specs.Asking.{AnswersCover, StopsCover, StopsIn, Wanted}
use Rattle.ps_bench_cover.specs.Coming.{CoverOf, IsWhyAmong}

-- no text was taken
no_text : (tells : Bool) (before after : List ℕ) → Took [] tells before after → TookNothing tells before after
no_text tells before after took = λ told. took told ∙ append-nil before

module _ (app : List ℕ) (wanted : Wanted) (texts : Texts) (tells : Bool) (before after : List ℕ) where
  -- what `cover` says of how a call ended
  abbrev Says : Result Status Stop → Type 0
  Says (Ok status) = AnswersCover app wanted texts.tells texts.held tells before after status
  Says (Err stop) = StopsCover app wanted texts.tells texts.held tells before after stop

  -- memory ran out, and nothing was written
  none_left : (ended : Result Status Stop) → ended ≡ Err NoMemory → TookNothing tells before after → Says ended
  none_left ended is nothing = subst Says (sym is) (inl nothing)

  -- a call got no application
  of_none : (stop : Stop) → IsWhyNoApp texts app stop → (ended : Result Status Stop) → Ends (Err stop) tells before after ended → Says ended
  of_none (App refusal) why ended (inl (inl whole)) = subst Says (sym whole.0) (inl (why, whole.1))
  of_none (App refusal) why ended (inl (inr part)) = subst Says (sym part.0) (inl (refusal, why, part.2))
  of_none (App refusal) why ended (inr none) = none_left ended none.0 none.2
  of_none UnreadApp why ended (inl (inl whole)) = subst Says (sym whole.0) (inl (no_text tells before after whole.1))
  of_none UnreadApp why ended (inl (inr part)) = absurd (part.1 refl)
  of_none UnreadApp why ended (inr none) = none_left ended none.0 none.2
  of_none NoMemory why ended (inl (inl whole)) = none_left ended whole.0 (no_text tells before after whole.1)
  of_none NoMemory why ended (inl (inr part)) = absurd (part.1 refl)
  of_none NoMemory why ended (inr none) = none_left ended none.0 none.2
  of_none (Cases place refusal) why ended ends = absurd why
  of_none (UnreadCases place) why ended ends = absurd why
  of_none (Input why_input) why ended ends = absurd why
  of_none Unwritten why ended ends = absurd why

  -- ---- with an application

  module _ (net : Network) (sizes : ImageSizes) (of : IsOfApp (source_in net sizes texts) app) where
    abbrev from : Source
    from = source_in net sizes texts

    -- how it stops with its application
    stops_in : (ended : Result Status Stop) (stop : Stop) → ended ≡ Err stop → StopsIn from app wanted tells before after stop → Says ended
    stops_in ended stop is stops = subst Says (sym is) (inr (net, sizes, of, stops))

    -- what was told of an answer
    of_answer : (answer : Answer) → CoverOf from app wanted (Ok answer) → (ended : Result Status Stop) → Ends (Ok answer) tells before after ended → Says ended
    of_answer answer (inl told) ended (inl (inl whole)) =
        subst Says (sym whole.0) (net, sizes, of, inl (told.0, told.1, told.2, subst (λ (t : List ℕ). Took t tells before after) told.3 whole.1))
    of_answer answer (inl told) ended (inl (inr part)) =
        stops_in ended Unwritten part.0 (inr (inl (told.0, told.1, refl, subst (λ (t : List ℕ). TookSome t tells before after) told.3 part.2)))
    of_answer answer (inr usage) ended (inl (inl whole)) =
        subst Says (sym whole.0)
        (net, sizes, of, inr (usage.0, usage.1, no_text tells before after (subst (λ (t : List ℕ). Took t tells before after) usage.2 whole.1)))
    of_answer answer (inr usage) ended (inl (inr part)) = absurd (part.1 usage.2)
    of_answer answer told ended (inr none) = absurd (false≢true none.1)

    -- the line of what stops at a word was written
    at_word : (word : List ℕ) (place : ℕ) (why : Stop) → IsWhyAtWord from word why → Took (stop_text (stop_at place why)) tells before after →
        StopsAtWord from word why tells before after
    at_word word place (Cases other refusal) (inl refused) took = inl (refused, took)
    at_word word place (UnreadCases other) (inl none) took = inl (no_text tells before after took)
    at_word word place NoMemory (inl none) took = inl (no_text tells before after took)
    at_word word place (App refusal) (inl none) took = absurd none
    at_word word place UnreadApp (inl none) took = absurd none
    at_word word place (Input why) (inl none) took = absurd none
    at_word word place Unwritten (inl none) took = absurd none
    at_word word place why (inr stops) took = inr (record {
      of_run = stops.of_run;
      refuses = λ refusal is. (
        stops.refuses refusal is,
        subst (λ (t : List ℕ). Took t tells before after) (ap (λ (s : Stop). stop_text (stop_at place s)) is) took,
      );
    })

    -- a beginning of it was written
    in_word : (word : List ℕ) (place : ℕ) (why : Stop) → IsWhyAtWord from word why → stop_text (stop_at place why) ≢ [] →
        TookSome (stop_text (stop_at place why)) tells before after → StopsAtWord from word Unwritten tells before after
    in_word word place (Cases other refusal) (inl refused) some took = inl (refusal, refused, took)
    in_word word place (UnreadCases other) (inl none) some took = absurd (some refl)
    in_word word place NoMemory (inl none) some took = absurd (some refl)
    in_word word place (App refusal) (inl none) some took = absurd none
    in_word word place UnreadApp (inl none) some took = absurd none
    in_word word place (Input why) (inl none) some took = absurd none
    in_word word place Unwritten (inl none) some took = absurd none
    in_word word place why (inr stops) some took = inr (record { of_run = tt; refuses = λ refusal is. cc })

    -- a call stopped among its words
    of_among : (stop : Stop) → IsWhyAmong from wanted.traces stop → (ended : Result Status Stop) → Ends (Err stop) tells before after ended → Says ended
    of_among stop among ended (inl (inl whole)) =
        stops_in ended stop whole.0 (inl (record {
          place = among.place;
          word = among.word;
          named = among.named;
          done = among.done;
          why = among.why;
          stops = at_word among.word among.place among.why among.at (subst (λ (s : Stop). Took (stop_text s) tells before after) among.is whole.1);
          is = among.is;
        }))
    of_among stop among ended (inl (inr part)) =
        stops_in ended Unwritten part.0 (inl (record {
          place = among.place;
          word = among.word;
          named = among.named;
          done = among.done;
          why = Unwritten;
          stops = in_word among.word among.place among.why among.at (λ empty. part.1 (ap stop_text among.is ∙ empty))
              (subst (λ (s : Stop). TookSome (stop_text s) tells before after) among.is part.2);
          is = refl;
        }))
    of_among stop among ended (inr none) = none_left ended none.0 none.2

    -- a call that came to this with its application
    pub with_app : (came : Result Answer Stop) → CoverOf from app wanted came → (ended : Result Status Stop) → Ends came tells before after ended → Says ended
    with_app (Ok answer) comes ended ends = of_answer answer comes ended ends
    with_app (Err stop) (inl none) ended ends =
        of_none NoMemory tt ended (subst (λ (s : Stop). Ends (Err s) tells before after ended) none ends)
    with_app (Err stop) (inr among) ended ends = of_among stop among ended ends

  -- what `cover` says of a call that came to something
  says : (came : Result Answer Stop) → OfApp (λ from. CoverOf from app wanted) texts app came → (ended : Result Status Stop) →
      Ends came tells before after ended → Says ended
  says (Ok answer) (inl none) ended ends = absurd none
  says (Err stop) (inl why) ended ends = of_none stop why ended ends
  says came (inr (net, sizes, of, comes)) ended ends = with_app net sizes of came comes ended ends

  pub answers : (ended : Result Status Stop) → EndsBy (OfApp (λ from. CoverOf from app wanted) texts app) tells before after ended →
      IfOk ended (AnswersCover app wanted texts.tells texts.held tells before after)
  answers (Ok status) by = says by.0 by.1 (Ok status) by.2
  answers (Err stop) by = tt

  pub stops : (ended : Result Status Stop) → EndsBy (OfApp (λ from. CoverOf from app wanted) texts app) tells before after ended →
      IfErr ended (StopsCover app wanted texts.tells texts.held tells before after)
  stops (Ok status) by = tt
  stops (Err stop) by = says by.0 by.1 (Err stop) by.2
