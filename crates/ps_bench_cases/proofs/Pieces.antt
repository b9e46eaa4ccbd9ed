-- Texts that are written piece by piece.
use Rattle.std.proofs.Common.{◌≡◌, ◌≤◌, ◌<◌, ◌+◌, ◌++◌, ◌∙◌, ℕ, List, [], Bool, flat_map, take, drop, get_or, length, IsTrue, Result, Ok, Err, refl, sym, ap, subst}
use Rattle.std.proofs.lemmas.List.{append-nil, append_assoc, drop_more, take-append-drop}
use Rattle.ps_outside.specs.Outside.{Rose}
use Rattle.ps_bench_cases.specs.declared.expanding.ExpandFail.{ExpandFail}
use Rattle.ps_bench_cases.specs.declared.expanding.ExpandFail.TheVariants.{Memory as NoMemory, Fault as IsFault}
use Rattle.ps_bench_cases.specs.Writing.{TookBeginning, WroteAll, WroteSome, FailedIn, Wrote}

module _ {S : Type 0} (tells : S → Bool) (taken : S → List ℕ) (faults : S → ℕ) where
  -- of a text all was written but this rest
  pub record LeftOf (text rest : List ℕ) (old new : S) : Type 0 where
    pub done : List ℕ
    pub wrote : WroteAll tells taken faults done old new
    pub whole : done ++ rest ≡ text

  -- nothing was written
  pub left_all : (text : List ℕ) (s : S) → LeftOf text text s s
  left_all text s = record { done = []; wrote = record { bytes = λ tell. sym (append-nil (taken s)); exact = refl; telling = refl }; whole = refl }

  -- one piece more
  pub left_more : (text piece rest : List ℕ) (s t u : S) → LeftOf text (piece ++ rest) s t → WroteAll tells taken faults piece t u → LeftOf text rest s u
  left_more text piece rest s t u left more = record {
    done = left.done ++ piece;
    wrote = record {
      bytes = λ tell. more.bytes (subst IsTrue (sym left.wrote.telling) tell) ∙ ap (λ (bytes : List ℕ). bytes ++ piece) (left.wrote.bytes tell) ∙ append_assoc (taken s) left.done piece;
      exact = more.exact ∙ left.wrote.exact;
      telling = more.telling ∙ left.wrote.telling;
    };
    whole = append_assoc left.done piece rest ∙ left.whole;
  }

  -- nothing is left
  pub left_none : (text : List ℕ) (s t : S) → LeftOf text [] s t → WroteAll tells taken faults text s t
  left_none text s t left = subst (λ (bytes : List ℕ). WroteAll tells taken faults bytes s t) (sym (append-nil left.done) ∙ left.whole) left.wrote

  -- a beginning of a piece, after what was written
  began : (text piece rest : List ℕ) (s t : S) (after : List ℕ) → LeftOf text (piece ++ rest) s t → IsTrue (tells s) → TookBeginning (taken t) piece after → TookBeginning (taken s) text after
  began text piece rest s t after left tell (some, others, is, whole) = (
    left.done ++ some,
    others ++ rest,
    is ∙ ap (λ (bytes : List ℕ). bytes ++ some) (left.wrote.bytes tell) ∙ append_assoc (taken s) left.done some,
    append_assoc left.done some (others ++ rest) ∙ ap (λ (bytes : List ℕ). left.done ++ bytes) (sym (append_assoc some others rest) ∙ ap (λ (bytes : List ℕ). bytes ++ rest) whole) ∙ left.whole,
  )

  -- it ended within a piece
  pub left_stopped : (text piece rest : List ℕ) (s t u : S) (fail : ExpandFail) → LeftOf text (piece ++ rest) s t → Wrote tells taken faults piece t u (Err fail) → Wrote tells taken faults text s u (Err fail)
  left_stopped text piece rest s t u NoMemory left some = record {
    bytes = λ tell. began text piece rest s t (taken u) left tell (some.bytes (subst IsTrue (sym left.wrote.telling) tell));
    exact = some.exact ∙ left.wrote.exact;
    telling = some.telling ∙ left.wrote.telling;
  }
  left_stopped text piece rest s t u IsFault left some = record {
    bytes = λ tell. began text piece rest s t (taken u) left tell (some.bytes (subst IsTrue (sym left.wrote.telling) tell));
    rose = subst (λ (n : ℕ). Rose n (faults u)) left.wrote.exact some.rose;
    counts = subst (λ (n : ℕ). n ≤ faults u) left.wrote.exact some.counts;
    telling = some.telling ∙ left.wrote.telling;
  }

  -- the last piece
  pub left_last : (text piece : List ℕ) (s t u : S) (r : Result (Unit {0}) ExpandFail) → LeftOf text piece s t → Wrote tells taken faults piece t u r → Wrote tells taken faults text s u r
  left_last text piece s t u (Ok done) left more = left_none text s u (left_more text piece [] s t u (subst (λ (bytes : List ℕ). LeftOf text bytes s t) (sym (append-nil piece)) left) more)
  left_last text piece s t u (Err fail) left more = left_stopped text piece [] s t u fail (subst (λ (bytes : List ℕ). LeftOf text bytes s t) (sym (append-nil piece)) left) more

  -- it ended between two pieces
  pub left_halted : (text rest : List ℕ) (s t : S) → LeftOf text rest s t → WroteSome tells taken faults text s t
  left_halted text rest s t left = record {
    bytes = λ tell. (left.done, rest, left.wrote.bytes tell, left.whole);
    exact = left.wrote.exact;
    telling = left.wrote.telling;
  }

  -- a call ended within a piece, and its answer is handed on
  pub left_exit : {text : List ℕ} {s t : S} (piece rest : List ℕ) (u : S) (fail : ExpandFail) (r : Result (Unit {0}) ExpandFail) →
      r ≡ Err fail → LeftOf text (piece ++ rest) s t → Wrote tells taken faults piece t u (Err fail) → Wrote tells taken faults text s u r
  left_exit {text} {s} {t} piece rest u fail r is left some =
      subst (λ (x : Result (Unit {0}) ExpandFail). Wrote tells taken faults text s u x) (sym is) (left_stopped text piece rest s t u fail left some)

  -- a call wrote a piece
  pub left_next : {text : List ℕ} {s t : S} (piece rest : List ℕ) (u : S) → LeftOf text (piece ++ rest) s t → WroteAll tells taken faults piece t u → LeftOf text rest s u
  left_next {text} {s} {t} piece rest u left more = left_more text piece rest s t u left more

  -- a list is written element by element
  pub left_at : {X : Type 0} {text : List ℕ} {s t : S} (f : X → List ℕ) (xs : List X) (i : ℕ) (d : X) → i < length xs → LeftOf text (flat_map f (drop i xs)) s t →
      LeftOf text (f (get_or xs i d) ++ flat_map f (drop (i + 1) xs)) s t
  left_at {X} {text} {s} {t} f xs i d within left = subst (λ (rest : List X). LeftOf text (flat_map f rest) s t) (drop_more xs i d within) left

  -- a write that failed took a beginning
  pub failed : (text : List ℕ) (n : ℕ) (s t : S) → (IsTrue (tells s) → taken t ≡ taken s ++ take n text) → Rose (faults s) (faults t) → faults s ≤ faults t → tells t ≡ tells s →
      FailedIn tells taken faults text s t
  failed text n s t part rose counts telling = record { bytes = λ tell. (take n text, drop n text, part tell, take-append-drop n text); rose = rose; counts = counts; telling = telling }
