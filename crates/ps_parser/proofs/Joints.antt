-- Where a part is refused, the whole is: the steps of which the way to a part is made.
use Rattle.std.proofs.Common.{◌≡◌, ℕ, List}
use Rattle.ps_parser.specs.declared.stop.Flaw.{Flaw}
use Rattle.ps_parser.specs.Symbol.{Symbol}
use Rattle.ps_parser.specs.Phrase.{Phrase, Reads, Refuses, ◌then◌, seen}
use Rattle.ps_parser.proofs.Phrases.{Lawful, Meets, then_lawful, refuses_first, refuses_second, reads_then, seen_lawful, refuses_seen}

-- a phrase and another that may follow it, with their laws
pub record Joint {X Y : Type 0} (a : Phrase X) (b : Phrase Y) : Type 0 where
  pub before : Lawful a
  pub behind : Lawful b
  pub meets : Meets a b

pub joint_law : {X Y : Type 0} {a : Phrase X} {b : Phrase Y} → Joint a b → Lawful (a then b)
joint_law {a = a} {b = b} j = then_lawful a b j.meets j.before j.behind

-- two types of tree that say the same
pub record Twin {X Y : Type 0} (view : Y → X) : Type 0 where
  pub back : X → Y
  pub there : (x : X) → view (back x) ≡ x
  pub here : (y : Y) → back (view y) ≡ y

pub twin_law : {X Y : Type 0} {view : Y → X} {g : Phrase X} → Twin view → Lawful g → Lawful (seen view g)
twin_law {view = view} {g = g} w law = seen_lawful view w.back w.there w.here g law

-- where g is refused at mid, h is refused at ts
abbrev pub Carries : {X Y : Type 0} → Phrase X → Phrase Y → ℕ → ℕ → List Symbol → List Symbol → Type 0
Carries g h inner outer mid ts = (flaw : Flaw) (left : List Symbol) → Refuses g inner flaw mid left → Refuses h outer flaw ts left

pub in_first : {X Y : Type 0} {a : Phrase X} {b : Phrase Y} (j : Joint a b) (n : ℕ) (ts : List Symbol) → Carries a (a then b) n n ts ts
in_first {a = a} {b = b} j n ts flaw left h = refuses_first a b j.meets j.behind n flaw ts left h

pub in_second : {X Y : Type 0} {a : Phrase X} {b : Phrase Y} (j : Joint a b) (n : ℕ) (ts mid : List Symbol) (x : X) → Reads a n ts x mid → Carries b (a then b) n n mid ts
in_second {a = a} {b = b} j n ts mid x r flaw left h = refuses_second a b j.meets j.before n flaw ts mid left x r h

pub in_seen : {X Y : Type 0} {view : Y → X} {g : Phrase X} (w : Twin view) (n : ℕ) (ts : List Symbol) → Carries g (seen view g) n n ts ts
in_seen {view = view} {g = g} w n ts flaw left h = refuses_seen view w.back w.there w.here g n flaw ts left h

pub reads_both : {X Y : Type 0} {a : Phrase X} {b : Phrase Y} (j : Joint a b) (n : ℕ) (ts mid rest : List Symbol) (x : X) (y : Y) → Reads a n ts x mid → Reads b n mid y rest → Reads (a then b) n ts (x, y) rest
reads_both {a = a} {b = b} j n ts mid rest x y ra rb = reads_then a b j.meets n ts mid rest x y ra rb

pub reads_as : {X Y : Type 0} (view : Y → X) {g : Phrase X} (n : ℕ) (ts rest : List Symbol) (y : Y) → Reads g n ts (view y) rest → Reads (seen view g) n ts y rest
reads_as view n ts rest y h = record { whole = h.whole; spelled = h.spelled; longest = h.longest }
