-- How far a server is by the methods that it read, and how it ends by them.
use Rattle.std.proofs.Common.{◌≡◌, ◌∙◌, ℕ, List, [], ◌∷◌, ◌++◌, Bool, true, false, ◌||◌, ◌&&◌, Option, Some, None, codes, sym, ap, subst, refl, inl, inr, if◌then◌else◌}
use Rattle.ps_lsp_rpc.specs.declared.reading.Frame.{Frame}
use Rattle.ps_lsp_rpc.specs.declared.reading.Frame.TheVariants.{Message, End, Headless, TooLong, Cut}
use Rattle.ps_lsp_text.specs.Stages.{ended_by, stage_after}
use Rattle.ps_lsp_text.specs.declared.server.Stage.{Stage}
use Rattle.ps_lsp_text.specs.declared.server.Stage.TheVariants.{Fresh, Running, Shut, Ended}
use Rattle.ps_lsp_main.specs.Endings.{EndsBy, ExitsAfter, HaveMethods, IsEndOf, IsMethodOf, Leads, ending_after, ending_in, ends_input, is_among, is_method, is_shut_by}
use Rattle.ps_lsp_main.specs.declared.serving.Ending.{Ending}
use Rattle.ps_lsp_main.specs.Streaming.{IsFailed}
use Rattle.ps_lsp_main.specs.declared.serving.Ending.TheVariants.{Exit, Broken, Unread, Unwritten, Memory}

-- whether a stage comes after `initialize`
abbrev pub is_begun : Stage → Bool
is_begun Fresh = false
is_begun Running = true
is_begun Shut = true
is_begun (Ended orderly) = true

-- whether a stage comes after `shutdown`
abbrev pub is_shut : Stage → Bool
is_shut Fresh = false
is_shut Running = false
is_shut Shut = true
is_shut (Ended orderly) = false

-- the stage by whether a method is `exit`, `initialize` or `shutdown`
abbrev pub by_tests : Stage → (exit initialize shutdown : Bool) → Stage
by_tests Fresh x i d = if x then Ended false else if i then Running else Fresh
by_tests Running x i d = if x then Ended false else if d then Shut else Running
by_tests Shut x i d = if x then Ended true else Shut
by_tests (Ended orderly) x i d = if x then Ended false else Ended orderly

-- a server that has not ended is in this stage by these methods
pub record Standing (methods : List (Option (List ℕ))) (stage : Stage) : Type 0 where
  pub going : is_among (codes "exit") methods ≡ false
  pub begun : is_among (codes "initialize") methods ≡ is_begun stage
  pub shut : is_shut_by methods ≡ is_shut stage
  pub goes : ended_by stage ≡ None

-- and it is in this stage by the methods of what it read
pub record Stands (frames : List Frame) (stage : Stage) : Type 0 where
  pub methods : List (Option (List ℕ))
  pub are : HaveMethods frames methods
  pub standing : Standing methods stage

-- a last test of several
test_last : (a b : Bool) → (a || (b || false)) ≡ (a || b)
test_last true b = refl
test_last false true = refl
test_last false false = refl

-- one test more than these
more_tests : (a b c : Bool) → (a || (b || c)) ≡ ((a || b) || c)
more_tests true b c = refl
more_tests false b c = refl

-- one method more
among_more : (name : List ℕ) (methods : List (Option (List ℕ))) (method : Option (List ℕ)) →
    is_among name (methods ++ method ∷ []) ≡ (is_among name methods || is_method name method)
among_more name [] method = test_last false (is_method name method)
among_more name (first ∷ more) method =
    ap (λ (b : Bool). is_method name first || b) (among_more name more method)
    ∙ more_tests (is_method name first) (is_among name more) (is_method name method)

-- whether `shutdown` is among them after `initialize`, by the first of them
shut_by_first : (first among method rest more begun : Bool) → more ≡ (rest || (begun && method)) →
    (if first then among || method else more) ≡ ((if first then among else rest) || ((first || begun) && method))
shut_by_first true among method rest more begun is = refl
shut_by_first false among method rest more begun is = is

-- nothing is among none
none_before : (first : Bool) → (if first then false else false) ≡ false
none_before true = refl
none_before false = refl

-- one method more
shut_more : (methods : List (Option (List ℕ))) (method : Option (List ℕ)) →
    is_shut_by (methods ++ method ∷ [])
    ≡ (is_shut_by methods || (is_among (codes "initialize") methods && is_method (codes "shutdown") method))
shut_more [] method = none_before (is_method (codes "initialize") method)
shut_more (first ∷ more) method =
    ap (λ (b : Bool). if is_method (codes "initialize") first then b else is_shut_by (more ++ method ∷ [])) (among_more (codes "shutdown") more method)
    ∙ shut_by_first (is_method (codes "initialize") first) (is_among (codes "shutdown") more) (is_method (codes "shutdown") method) (is_shut_by more)
    (is_shut_by (more ++ method ∷ [])) (is_among (codes "initialize") more) (shut_more more method)

-- the stage after a method is that by its tests
by_method : (stage : Stage) (method : Option (List ℕ)) →
    stage_after stage method
    ≡ by_tests stage (is_method (codes "exit") method) (is_method (codes "initialize") method) (is_method (codes "shutdown") method)
by_method Fresh None = refl
by_method Running None = refl
by_method Shut None = refl
by_method (Ended orderly) None = refl
by_method Fresh (Some method) = refl
by_method Running (Some method) = refl
by_method Shut (Some method) = refl
by_method (Ended orderly) (Some method) = refl

-- what is known of a stage that does not end the server
steps : (stage : Stage) (x i d : Bool) → ended_by (by_tests stage x i d) ≡ None →
    (x ≡ false) × ((is_begun stage || i) ≡ is_begun (by_tests stage x i d))
    × ((is_shut stage || (is_begun stage && d)) ≡ is_shut (by_tests stage x i d))
steps Fresh true i d goes = cc
steps Fresh false true d goes = (refl, refl, refl)
steps Fresh false false d goes = (refl, refl, refl)
steps Running true i d goes = cc
steps Running false i true goes = (refl, refl, refl)
steps Running false i false goes = (refl, refl, refl)
steps Shut true i d goes = cc
steps Shut false i d goes = (refl, refl, refl)
steps (Ended orderly) true i d goes = cc
steps (Ended orderly) false i d goes = cc

-- what is known of one that does
exits : (stage : Stage) (x i d orderly : Bool) → ended_by stage ≡ None → ended_by (by_tests stage x i d) ≡ Some orderly →
    (x ≡ true) × (is_shut stage ≡ orderly)
exits Fresh true i d orderly goes ends = (refl, cc)
exits Fresh false true d orderly goes ends = cc
exits Fresh false false d orderly goes ends = cc
exits Running true i d orderly goes ends = (refl, cc)
exits Running false i true orderly goes ends = cc
exits Running false i false orderly goes ends = cc
exits Shut true i d orderly goes ends = (refl, cc)
exits Shut false i d orderly goes ends = cc
exits (Ended so) x i d orderly goes ends = cc

-- nothing was read yet
pub stands_first : (stage : Stage) → stage ≡ Fresh → Stands [] stage
stands_first stage fresh = record {
  methods = [];
  are = refl;
  standing = record {
    going = refl;
    begun = ap is_begun (sym fresh);
    shut = ap is_shut (sym fresh);
    goes = ap ended_by fresh;
  };
}

-- the method of one more that was read
methods_more : (frames : List Frame) (methods : List (Option (List ℕ))) (frame : Frame) (method : Option (List ℕ)) →
    HaveMethods frames methods → IsMethodOf frame method → HaveMethods (frames ++ frame ∷ []) (methods ++ method ∷ [])
methods_more [] methods frame method are is = (method, [], ap (λ (t : List (Option (List ℕ))). t ++ method ∷ []) are, is, refl)
methods_more (first ∷ more) methods frame method are is =
    (are.0, are.1 ++ method ∷ [], ap (λ (t : List (Option (List ℕ))). t ++ method ∷ []) are.2, are.3, methods_more more are.1 frame method are.4 is)

-- a stage in which the server does not end
goes_still : (stage : Stage) → None ≡ ending_in (ended_by stage) → ended_by stage ≡ None
goes_still Fresh none = refl
goes_still Running none = refl
goes_still Shut none = refl
goes_still (Ended true) none = cc
goes_still (Ended false) none = cc

-- what leads to no ending leads to a stage in which the server does not end
goes_on : (frame : Frame) (stage : Stage) → None ≡ ending_after frame stage → ended_by stage ≡ None
goes_on (Message body) stage none = goes_still stage none
goes_on Headless stage none = goes_still stage none
goes_on TooLong stage none = cc
goes_on End stage none = cc
goes_on Cut stage none = cc

-- the server goes on in the next stage
pub stands_next : (frames : List Frame) (frame : Frame) (stage next : Stage) → Stands frames stage → Leads frame stage next None →
    Stands (frames ++ frame ∷ []) next
stands_next frames frame stage next stands leads =
    let method : Option (List ℕ) = leads.0 in
    let exit : Bool = is_method (codes "exit") method in
    let initialize : Bool = is_method (codes "initialize") method in
    let shutdown : Bool = is_method (codes "shutdown") method in
    let same : by_tests stage exit initialize shutdown ≡ next = sym (by_method stage method) ∙ sym leads.2 in
    let goes : ended_by next ≡ None = goes_on frame next leads.3 in
    let tests = steps stage exit initialize shutdown (ap ended_by same ∙ goes) in
    let was = stands.standing in
    record {
      methods = stands.methods ++ method ∷ [];
      are = methods_more frames stands.methods frame method stands.are leads.1;
      standing = record {
        going = among_more (codes "exit") stands.methods method ∙ ap (λ (b : Bool). b || exit) was.going ∙ tests.0;
        begun = among_more (codes "initialize") stands.methods method ∙ ap (λ (b : Bool). b || initialize) was.begun ∙ tests.1 ∙ ap is_begun same;
        shut = shut_more stands.methods method ∙ ap (λ (b : Bool). b || (is_among (codes "initialize") stands.methods && shutdown)) was.shut
            ∙ ap (λ (b : Bool). is_shut stage || (b && shutdown)) was.begun ∙ tests.2 ∙ ap is_shut same;
        goes = goes;
      };
    }

-- a stage ends the server in an orderly way or not
ending_is : (ended : Option Bool) (ending : Ending) → Some ending ≡ ending_in ended →
    (orderly : Bool) × (ended ≡ Some orderly) × (ending ≡ (if orderly then Exit else Broken))
ending_is None ending is = cc
ending_is (Some true) ending is = (true, refl, cc)
ending_is (Some false) ending is = (false, refl, cc)

-- the ending after `exit`
end_of : (orderly : Bool) (frames : List Frame) (methods : List (Option (List ℕ))) → ExitsAfter orderly methods →
    IsEndOf (if orderly then Exit else Broken) frames methods
end_of true frames methods after = after
end_of false frames methods after = inl after

-- the server ended by a method
exited : (frames : List Frame) (frame : Frame) (stage next : Stage) (ending : Ending) (method : Option (List ℕ)) → Stands frames stage →
    IsMethodOf frame method → next ≡ stage_after stage method → Some ending ≡ ending_in (ended_by next) →
    EndsBy ending (frames ++ frame ∷ [])
exited frames frame stage next ending method stands of leads is =
    let found = ending_is (ended_by next) ending is in
    let same : by_tests stage (is_method (codes "exit") method) (is_method (codes "initialize") method) (is_method (codes "shutdown") method) ≡ next =
    sym (by_method stage method) ∙ sym leads in
    let tests = exits stage (is_method (codes "exit") method) (is_method (codes "initialize") method) (is_method (codes "shutdown") method) found.0
    stands.standing.goes (ap ended_by same ∙ found.1) in
    let after : ExitsAfter found.0 (stands.methods ++ method ∷ []) = record {
      before = stands.methods;
      last = method;
      are = refl;
      exits = tests.0;
      first = stands.standing.going;
      shut = stands.standing.shut ∙ tests.1;
    } in
    record {
      methods = stands.methods ++ method ∷ [];
      are = methods_more frames stands.methods frame method stands.are of;
      ends = subst (λ (e : Ending). IsEndOf e (frames ++ frame ∷ []) (stands.methods ++ method ∷ [])) (sym found.2)
          (end_of found.0 (frames ++ frame ∷ []) (stands.methods ++ method ∷ []) after);
    }

-- the server ended with its input
spent : (frames : List Frame) (frame : Frame) (stage next : Stage) (ending : Ending) → Stands frames stage → ends_input frame ≡ true →
    ending ≡ Broken → Leads frame stage next (Some ending) → EndsBy ending (frames ++ frame ∷ [])
spent frames frame stage next ending stands last is leads = record {
  methods = stands.methods ++ leads.0 ∷ [];
  are = methods_more frames stands.methods frame leads.0 stands.are leads.1;
  ends = subst (λ (e : Ending). IsEndOf e (frames ++ frame ∷ []) (stands.methods ++ leads.0 ∷ [])) (sym is) (inr (frames, frame, refl, last));
}

-- the server ended by what was read last
pub ended : (frames : List Frame) (frame : Frame) (stage next : Stage) (ending : Ending) → Stands frames stage →
    Leads frame stage next (Some ending) → EndsBy ending (frames ++ frame ∷ [])
ended frames (Message body) stage next ending stands leads =
    exited frames (Message body) stage next ending leads.0 stands leads.1 leads.2 leads.3
ended frames Headless stage next ending stands leads = exited frames Headless stage next ending leads.0 stands leads.1 leads.2 leads.3
ended frames TooLong stage next ending stands leads =
    let is : Some ending ≡ Some Broken = leads.3 in spent frames TooLong stage next ending stands refl (cc) leads
ended frames End stage next ending stands leads =
    let is : Some ending ≡ Some Broken = leads.3 in spent frames End stage next ending stands refl (cc) leads
ended frames Cut stage next ending stands leads =
    let is : Some ending ≡ Some Broken = leads.3 in spent frames Cut stage next ending stands refl (cc) leads

-- the server failed after what it read
pub failed : (frames : List Frame) (stage : Stage) (ending : Ending) → Stands frames stage → IsFailed ending → EndsBy ending frames
failed frames stage Exit stands fails = elim fails [ ]
failed frames stage Broken stands fails = elim fails [ ]
failed frames stage Unread stands fails = record { methods = stands.methods; are = stands.are; ends = stands.standing.going }
failed frames stage Unwritten stands fails = record { methods = stands.methods; are = stands.are; ends = stands.standing.going }
failed frames stage Memory stands fails = record { methods = stands.methods; are = stands.are; ends = stands.standing.going }

-- whether an ending is one of a server that failed at nothing
abbrev pub IsWhole : Ending → Type 0
IsWhole Exit = Unit {0}
IsWhole Broken = Unit {0}
IsWhole Unread = ⊥
IsWhole Unwritten = ⊥
IsWhole Memory = ⊥

-- an ending in a stage is one of these
whole_in : (stage : Stage) (ending : Ending) → Some ending ≡ ending_in (ended_by stage) → IsWhole ending
whole_in Fresh ending is = cc
whole_in Running ending is = cc
whole_in Shut ending is = cc
whole_in (Ended true) ending is = let same : ending ≡ Exit = cc in subst (λ (e : Ending). IsWhole e) (sym same) tt
whole_in (Ended false) ending is = let same : ending ≡ Broken = cc in subst (λ (e : Ending). IsWhole e) (sym same) tt

-- an ending with the input is one of these
whole_last : (ending : Ending) → Some ending ≡ Some Broken → IsWhole ending
whole_last ending is = let same : ending ≡ Broken = cc in subst (λ (e : Ending). IsWhole e) (sym same) tt

-- an ending after what was read is one of these
pub whole_after : (frame : Frame) (stage : Stage) (ending : Ending) → Some ending ≡ ending_after frame stage → IsWhole ending
whole_after (Message body) stage ending is = whole_in stage ending is
whole_after Headless stage ending is = whole_in stage ending is
whole_after TooLong stage ending is = whole_last ending is
whole_after End stage ending is = whole_last ending is
whole_after Cut stage ending is = whole_last ending is
