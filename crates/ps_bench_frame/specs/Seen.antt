-- A call as the commands see it: its files and its output, as one value, and what of them stays.
use Rattle.std.specs.Prelude.{◌≡◌, ◌≤◌, ℕ, Bool, List, Option}
use Rattle.ps_outside.specs.Outside.{Rose}

-- files: whether they tell, what they hold under each name, and the count of failed reads of each name
pub record FilesSeen : Type 0 where
  pub tells : Bool
  pub held : List ℕ → Option (List ℕ)
  pub faults : List ℕ → ℕ

-- an output: whether it tells, the bytes that it took, and its count of failed writes
pub record OutputSeen : Type 0 where
  pub tells : Bool
  pub taken : List ℕ
  pub faults : ℕ

-- the loans by which a call holds the files and the output of whoever made it
pub record Loans : Type 0 where
  pub files : ℕ
  pub out : ℕ

-- a call: its files, its output, and the loans by which it holds them
pub record CallSeen : Type 0 where
  pub files : FilesSeen
  pub out : OutputSeen
  pub loans : Loans

-- any files, by what they say of themselves
abbrev pub files_seen : {F : Type 0} → (F → Bool) → (F → List ℕ → Option (List ℕ)) → (F → List ℕ → ℕ) → F → FilesSeen
files_seen tells held faults files = record { tells = tells files; held = held files; faults = faults files }

-- any output, by what it says of itself
abbrev pub output_seen : {S : Type 0} → (S → Bool) → (S → List ℕ) → (S → ℕ) → S → OutputSeen
output_seen tells taken faults out = record { tells = tells out; taken = taken out; faults = faults out }

-- the texts that files hold, where they tell
pub record Texts : Type 0 where
  pub tells : Bool
  pub held : List ℕ → Option (List ℕ)

-- those of a call
abbrev pub texts_of : CallSeen → Texts
texts_of call = record { tells = call.files.tells; held = call.files.held }

-- what is held stays, whether they tell stays, and no count falls
pub record KeepsFiles (old new : FilesSeen) : Type 0 where
  pub counts : (name : List ℕ) → old.faults name ≤ new.faults name
  pub held : new.held ≡ old.held
  pub telling : new.tells ≡ old.tells

-- whether it tells stays, and the count does not fall
pub record KeepsOutput (old new : OutputSeen) : Type 0 where
  pub counts : old.faults ≤ new.faults
  pub telling : new.tells ≡ old.tells

-- a call keeps its files and its output, and holds them by the same loans
pub record KeepsCall (old new : CallSeen) : Type 0 where
  pub files : KeepsFiles old.files new.files
  pub out : KeepsOutput old.out new.out
  pub loans : new.loans ≡ old.loans

-- nothing was done to the output, and the files stay: no count of a name falls
pub record Quiet (old new : CallSeen) : Type 0 where
  pub files : KeepsFiles old.files new.files
  pub out : new.out ≡ old.out
  pub loans : new.loans ≡ old.loans

-- the count of a name rose
abbrev pub NameRose : (old new : CallSeen) → List ℕ → Type 0
NameRose old new name = Rose (old.files.faults name) (new.files.faults name)

-- Bytes were written, and no file was read: where the write failed the output's count rose.
pub record Writes (failed : Type 0) (old new : CallSeen) : Type 0 where
  pub rose : failed → Rose old.out.faults new.out.faults
  pub keeps : KeepsOutput old.out new.out
  pub files : new.files ≡ old.files
  pub loans : new.loans ≡ old.loans
