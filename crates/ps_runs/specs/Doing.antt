-- What is done of the items of a trace, one after another: by a performer, which makes something of each item and
-- becomes another by it, and by a taker, which is lent the performer after the item, writes of what came of it, and
-- becomes another.
use Rattle.std.specs.Prelude.{◌≡◌, ◌≤◌, ℕ, Bool, List, [], ◌++◌, take, IsTrue, Result, Ok, Err}
use Rattle.ps_base.specs.declared.failing.Refusal.{Refusal}
use Rattle.ps_model.specs.Meaning.{Item, scan, restart}
use Rattle.ps_trace.specs.Scans.{Scans, whole}
use Rattle.ps_trace.specs.Reading.{Begins, only_refused}
use Rattle.ps_runs.specs.Outcomes.{Outcome, refuses}
use Rattle.ps_runs.specs.declared.items.Cut.{Cut}
use Rattle.ps_runs.specs.declared.items.Cut.TheVariants.{Refused, Unread, Unwritten}

-- a scan that is not before this time, or a restart
abbrev pub IsDue : ℕ → Item → Type 0
IsDue time (scan now ins) = time ≤ now
IsDue time restart = Unit {0}

-- the time of the last scan, after an item
abbrev pub time_behind : ℕ → Item → ℕ
time_behind time (scan now ins) = now
time_behind time restart = time

-- nothing is left
abbrev pub no_items : Scans
no_items = record { items = []; end = whole }

-- An item was performed, and its outcome was taken and written.
pub record TakesItem {P T V : Type 0} (performs : P → Item → Outcome V → P → Type 0) (said : T → P → Outcome V → List ℕ)
    (takes : T → P → Outcome V → T → Type 0)
    (item : Item) (p p' : P) (t t' : T) (tells : Bool) (before after : List ℕ) : Type 0 where
  pub outcome : Outcome V
  pub done : performs p item outcome p'
  pub taken : takes t p' outcome t'
  pub written : IsTrue tells → after ≡ before ++ said t p' outcome

-- An item was performed, and the write of what is said of its outcome stopped.
pub record StopsAtItem {P T V : Type 0} (performs : P → Item → Outcome V → P → Type 0)
    (said : T → P → Outcome V → List ℕ)
    (item : Item) (p p' : P) (t : T) (tells : Bool) (before after : List ℕ) : Type 0 where
  pub outcome : Outcome V
  pub done : performs p item outcome p'
  pub size : ℕ
  pub written : IsTrue tells → after ≡ before ++ take size (said t p' outcome)

-- An item was begun and is refused: nothing was taken, and nothing was written.
pub record RefusesItem {P T V : Type 0} (performs : P → Item → Outcome V → P → Type 0)
    (item : Item) (p p' : P) (t t' : T) (before after : List ℕ) (refusal : Refusal) : Type 0 where
  pub done : performs p item (refuses refusal) p'
  pub untaken : t' ≡ t
  pub unwritten : after ≡ before

-- what doing an item came to
abbrev pub DoesItem : {P T V : Type 0} → (P → Item → Outcome V → P → Type 0) → (T → P → Outcome V → List ℕ) →
    (T → P → Outcome V → T → Type 0) →
    Item → P → P → T → T → Bool → (before after : List ℕ) → Result (Unit {0}) Cut → Type 0
DoesItem performs said takes item p p' t t' tells before after (Ok done) =
    TakesItem performs said takes item p p' t t' tells before after
DoesItem performs said takes item p p' t t' tells before after (Err Unwritten) =
    StopsAtItem performs said item p p' t tells before after
DoesItem performs said takes item p p' t t' tells before after (Err (Refused refusal)) =
    RefusesItem performs item p p' t t' before after refusal
DoesItem performs said takes item p p' t t' tells before after (Err Unread) = ⊥

-- What was done of these items, none of which is due before this time: by a performer and a taker, which became others,
-- with the bytes that were written; and how it ended.
pub data Did {P T V : Type 0} (performs : P → Item → Outcome V → P → Type 0) (said : T → P → Outcome V → List ℕ)
    (takes : T → P → Outcome V → T → Type 0) : ℕ → P → T → Scans → List ℕ → Result (Unit {0}) Cut → P → T → Type 0 where
  -- all were done
  all : (time : ℕ) (p : P) (t : T) (items : Scans) → items ≡ no_items →
      Did performs said takes time p t items [] (Ok tt) p t
  -- a line is refused
  refused : (time : ℕ) (p : P) (t : T) (items : Scans) (refusal : Refusal) → items ≡ only_refused refusal →
      Did performs said takes time p t items [] (Err (Refused refusal)) p t
  -- a read failed
  unread : (time : ℕ) (p : P) (t : T) (items : Scans) → Did performs said takes time p t items [] (Err Unread) p t
  -- an item was begun and is refused, and nothing was written of it
  refused_item : (time : ℕ) (p : P) (t : T) (items : Scans) (item : Item) (rest : Scans) (refusal : Refusal) (p' : P) →
      Begins items item rest → IsDue time item → performs p item (refuses refusal) p' →
      Did performs said takes time p t items [] (Err (Refused refusal)) p' t
  -- the write of what is said of an outcome stopped
  unwritten : (time : ℕ) (p : P) (t : T) (items : Scans) (item : Item) (rest : Scans) (outcome : Outcome V) (p' : P)
      (t' : T) (taken : ℕ) →
      Begins items item rest → IsDue time item → performs p item outcome p' →
      Did performs said takes time p t items (take taken (said t p' outcome)) (Err Unwritten) p' t'
  -- an item was done, and then the rest
  next : (time : ℕ) (p : P) (t : T) (items : Scans) (item : Item) (rest : Scans) (outcome : Outcome V) (p' : P) (t' : T)
      (bytes : List ℕ) (ended : Result (Unit {0}) Cut) (p'' : P) (t'' : T) →
      Begins items item rest → IsDue time item → performs p item outcome p' → takes t p' outcome t' →
      Did performs said takes (time_behind time item) p' t' rest bytes ended p'' t'' →
      Did performs said takes time p t items (said t p' outcome ++ bytes) ended p'' t''

-- These items were done, and an output that tells its bytes took what was written.
pub record DoesItems {P T V : Type 0} (performs : P → Item → Outcome V → P → Type 0) (said : T → P → Outcome V → List ℕ)
    (takes : T → P → Outcome V → T → Type 0)
    (time : ℕ) (p : P) (t : T) (items : Scans) (tells : Bool) (before after : List ℕ) (ended : Result (Unit {0}) Cut)
    (p' : P) (t' : T) : Type 0 where
  pub bytes : List ℕ
  pub did : Did performs said takes time p t items bytes ended p' t'
  pub written : IsTrue tells → after ≡ before ++ bytes
