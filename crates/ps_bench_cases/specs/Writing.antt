-- What a call leaves that writes a text to an output.
use Rattle.std.specs.Prelude.{◌≡◌, ◌≤◌, ◌++◌, ℕ, List, Bool, IsTrue, Result, Ok, Err}
use Rattle.ps_outside.specs.Outside.{Rose}
use Rattle.ps_bench_cases.specs.declared.expanding.ExpandFail.{ExpandFail}
use Rattle.ps_bench_cases.specs.declared.expanding.ExpandFail.TheVariants.{Memory as NoMemory, Fault as IsFault}

-- after these bytes an output took a beginning of a text
abbrev pub TookBeginning : (before text after : List ℕ) → Type 0
TookBeginning before text after = (some rest : List ℕ) × (after ≡ before ++ some) × (some ++ rest ≡ text)

module _ {S : Type 0} (tells : S → Bool) (taken : S → List ℕ) (faults : S → ℕ) where
  -- the output took all of the text, and no write failed
  pub record WroteAll (text : List ℕ) (old new : S) : Type 0 where
    pub bytes : IsTrue (tells old) → taken new ≡ taken old ++ text
    pub exact : faults new ≡ faults old
    pub telling : tells new ≡ tells old

  -- it took a beginning of the text, and no write failed
  pub record WroteSome (text : List ℕ) (old new : S) : Type 0 where
    pub bytes : IsTrue (tells old) → TookBeginning (taken old) text (taken new)
    pub exact : faults new ≡ faults old
    pub telling : tells new ≡ tells old

  -- it took a beginning of the text, and then a write failed
  pub record FailedIn (text : List ℕ) (old new : S) : Type 0 where
    pub bytes : IsTrue (tells old) → TookBeginning (taken old) text (taken new)
    pub rose : Rose (faults old) (faults new)
    pub counts : faults old ≤ faults new
    pub telling : tells new ≡ tells old

  -- by the answer: the text was written, or a beginning of it
  abbrev pub Wrote : (text : List ℕ) (old new : S) → Result (Unit {0}) ExpandFail → Type 0
  Wrote text old new (Ok done) = WroteAll text old new
  Wrote text old new (Err NoMemory) = WroteSome text old new
  Wrote text old new (Err IsFault) = FailedIn text old new
