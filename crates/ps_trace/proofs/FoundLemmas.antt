-- What one line more gives of a fault file.
use Rattle.std.proofs.Common.{◌≡◌, ◌≢◌, ◌≤◌, ◌+◌, ◌++◌, ◌∙◌, ℕ, List, [], ◌∷◌, Bool, true, false, Some, None, Result, Ok, Err, if◌then◌else◌, Vec, Global, ⊎_elim, refl, subst, sym, ap, arith}
use Rattle.std.specs.Result.{OnOk, IsErrOf}
use Rattle.std.specs.Prelude.{nat_lt}
use Rattle.std.proofs.lemmas.List.{append-nil}
use Rattle.std.proofs.lemmas.Bool.Decides.{leb_tells}
use Rattle.ps_base.specs.declared.failing.Rule.{Rule}
use Rattle.ps_base.specs.declared.failing.Rule.TheVariants.{F1, F5}
use Rattle.ps_base.specs.declared.failing.Refusal.{Refusal}
use Rattle.ps_base.specs.declared.limits.TheConstants.{LONGEST_FAULT_LINE, MOST_FAULT_LINES}
use Rattle.ps_trace.specs.declared.fault_file.TheConstants.{LARGEST_READ}
use Rattle.ps_lines.specs.Lines as cut
use Rattle.ps_lines.specs.Lines.{lines_at}
use Rattle.ps_lines.specs.Lines.Line.{Kept, KeptLast, Long, Large}
use Rattle.ps_lines.specs.Reader.{Gives}
use Rattle.ps_lines.specs.declared.reader.Got.{Got}
use Rattle.ps_lines.specs.declared.reader.Got.TheVariants.{Line, LastLine, TooLong, TooLarge, End}
use Rattle.ps_outside.specs.declared.text_fail.TextFail.{TextFail}
use Rattle.ps_outside.specs.declared.text_fail.TextFail.TheVariants.{Memory as NoMemory, Fault as IsFault}
use Rattle.ps_outside.specs.declared.text_fail.TextFail.TheVariants.{Refused as IsRefused}
use Rattle.ps_trace.specs.Scans.{at_line, number_after}
use Rattle.ps_trace.specs.Words.{fields}
use Rattle.ps_trace.specs.Faults.{FaultList, Struck, Targets, before_next, faults_from, faults_in, line_struck, no_fault, onto_faults, struck_of}
use Rattle.ps_trace.specs.Faults.Struck.{skipped, strikes, broken}
use Rattle.ps_trace.specs.FaultOrder.{StrikeInOrder, StrikeOne}
use Rattle.ps_trace.specs.Found.{AreFound, AreUpTo, EndsBy, GoesOnBy, IsMore, found_in, line_got, number_behind}
use Rattle.ps_trace.specs.Leaving.{Came}
use Rattle.ps_trace.specs.declared.fault_file.Before.{Before}
use Rattle.ps_trace.specs.declared.fault_file.Found.{Found}
use Rattle.ps_trace.specs.declared.fault_file.Taken.{Taken}
use Rattle.ps_trace.specs.declared.fault_file.Taken.TheVariants.{More, All as TheLast}
use Rattle.ps_trace.specs.declared.target.FaultLine.{FaultLine}
use Rattle.ps_trace.proofs.FaultLemmas.{one_more}
use Rattle.ps_trace.proofs.FaultOrderLemmas.{IsFrom, struck_from, in_order-push, one-push, up_to-push}
use Rattle.ps_trace.proofs.WholeFile.{faults_whole, struck_many}

-- faults in front of a list
abbrev with_faults : {Fault : Type 0} → List Fault → FaultList Fault → FaultList Fault
with_faults front list = record { faults = front ++ list.faults; refusal = list.refusal }

-- the next number is not past line 1,001
few_behind : (got : Got) (number : ℕ) → number ≤ MOST_FAULT_LINES → number_behind got number ≤ MOST_FAULT_LINES + 1
few_behind Line number few = omega arith
few_behind LastLine number few = omega arith
few_behind TooLong number few = omega arith
few_behind TooLarge number few = omega arith
few_behind End number few = omega arith

-- all were taken, and no more may come
pub last_no_more : TheLast ≡ More → ⊥
last_no_more same = cc

module _ {Who Fault : Type 0} (t : Targets Who Fault) where
  -- a line that no rule refuses is none past the last one, and no long one
  few_if : (before : Before Who) (number : ℕ) (line : cut.Line) (said : Struck Who) → ((rule : Rule) → said ≢ broken rule) → struck_of t before number line ≡ said → number ≤ MOST_FAULT_LINES
  few_if before number line said sound is =
      ⊎_elim (λ few. few.1) (λ many. absurd (sound F5 (sym is ∙ struck_many t before number line many.1))) (leb_tells number MOST_FAULT_LINES)

  not_long : (b : Bool) (said : Struck Who) → ((rule : Rule) → said ≢ broken rule) → (if b then broken F5 else broken F1) ≡ said → ⊥
  not_long true said sound is = sound F5 (sym is)
  not_long false said sound is = sound F1 (sym is)

  came_if : (got : Got) (before : Before Who) (number : ℕ) (bytes : List ℕ) (said : Struck Who) → ((rule : Rule) → said ≢ broken rule) → struck_of t before number (line_got got bytes) ≡ said → Came got
  came_if Line before number bytes said sound is = tt
  came_if LastLine before number bytes said sound is = tt
  came_if TooLong before number bytes said sound is = not_long (nat_lt MOST_FAULT_LINES number) said sound is
  came_if TooLarge before number bytes said sound is = not_long (nat_lt MOST_FAULT_LINES number) said sound is
  came_if End before number bytes said sound is = not_long (nat_lt MOST_FAULT_LINES number) said sound is

  abbrev nothing : Struck Who
  nothing = skipped

  nothing_sound : (rule : Rule) → nothing ≢ broken rule
  nothing_sound rule same = cc

  strikes_sound : (line : FaultLine Who) (rule : Rule) → strikes line ≢ broken rule
  strikes_sound line rule same = cc

  -- what a line gives that came, by what it says
  line_gives : (before : Before Who) (number : ℕ) (line : cut.Line) (lines rest : List cut.Line) (said : Struck Who) → lines ≡ line ∷ rest → struck_of t before number line ≡ said →
      faults_from t before number lines ≡ onto_faults t said number (faults_from t (before_next said before) (number_after line number) rest)
  line_gives before number line lines rest said gives is =
      ap (faults_from t before number) gives
      ∙ ap (λ (s : Struck Who). onto_faults t s number (faults_from t (before_next s before) (number_after line number) rest)) is

  sound_gives : (got : Got) (before : Before Who) (number : ℕ) (bytes : List ℕ) (lines rest : List cut.Line) (said : Struck Who) → ((rule : Rule) → said ≢ broken rule) →
      Gives lines got bytes rest → struck_of t before number (line_got got bytes) ≡ said →
      faults_from t before number lines ≡ onto_faults t said number (faults_from t (before_next said before) (number_behind got number) rest)
  sound_gives Line before number bytes lines rest said sound gives is = line_gives before number (Kept bytes) lines rest said gives is
  sound_gives LastLine before number bytes lines rest said sound gives is = line_gives before number (KeptLast bytes) lines rest said gives is
  sound_gives TooLong before number bytes lines rest said sound gives is = absurd (not_long (nat_lt MOST_FAULT_LINES number) said sound is)
  sound_gives TooLarge before number bytes lines rest said sound gives is = absurd (not_long (nat_lt MOST_FAULT_LINES number) said sound is)
  sound_gives End before number bytes lines rest said sound gives is = absurd (not_long (nat_lt MOST_FAULT_LINES number) said sound is)

  -- a line that a rule refuses
  pub broken_gives : (got : Got) (before : Before Who) (number : ℕ) (bytes : List ℕ) (lines rest : List cut.Line) (rule : Rule) → got ≢ End →
      Gives lines got bytes rest → struck_of t before number (line_got got bytes) ≡ broken rule → (faults_from t before number lines).refusal ≡ Some (at_line rule number)
  broken_gives Line before number bytes lines rest rule more gives is = ap (λ (l : FaultList Fault). l.refusal) (line_gives before number (Kept bytes) lines rest (broken rule) gives is)
  broken_gives LastLine before number bytes lines rest rule more gives is = ap (λ (l : FaultList Fault). l.refusal) (line_gives before number (KeptLast bytes) lines rest (broken rule) gives is)
  broken_gives TooLong before number bytes lines rest rule more gives is = ap (λ (l : FaultList Fault). l.refusal) (line_gives before number Long lines rest (broken rule) gives is)
  broken_gives TooLarge before number bytes lines rest rule more gives is = ap (λ (l : FaultList Fault). l.refusal) (line_gives before number Large lines gives.1 (broken rule) gives.2 is)
  broken_gives End before number bytes lines rest rule more gives is = absurd (more refl)

  -- a line that is skipped
  pub skip_in : (got : Got) (found : Found Who Fault) (next : ℕ) (bytes : List ℕ) (lines rest : List cut.Line) → next ≡ number_behind got found.number →
      struck_of t found.before found.number (line_got got bytes) ≡ skipped → Gives lines got bytes rest →
      found_in t found lines ≡ with_faults found.faults.items (faults_from t found.before next rest)
  skip_in got found next bytes lines rest is says gives =
      ap (with_faults found.faults.items) (sound_gives got found.before found.number bytes lines rest skipped nothing_sound gives says
      ∙ ap (λ (n : ℕ). faults_from t found.before n rest) (sym is))

  pub skip_came : (got : Got) (before : Before Who) (number : ℕ) (bytes : List ℕ) → struck_of t before number (line_got got bytes) ≡ skipped → Came got
  skip_came got before number bytes says = came_if got before number bytes skipped nothing_sound says

  pub skip_few : (got : Got) (before : Before Who) (number next : ℕ) (bytes : List ℕ) → next ≡ number_behind got number → struck_of t before number (line_got got bytes) ≡ skipped →
      next ≤ MOST_FAULT_LINES + 1
  skip_few got before number next bytes is says =
      subst (λ (n : ℕ). n ≤ MOST_FAULT_LINES + 1) (sym is) (few_behind got number (few_if before number (line_got got bytes) skipped nothing_sound says))

  -- a line that is a fault
  strike_in : (got : Got) (old new : Found Who Fault) (bytes : List ℕ) (line : FaultLine Who) (lines rest : List cut.Line) →
      new.number ≡ number_behind got old.number → new.before ≡ before_next (strikes line) old.before → new.faults.items ≡ old.faults.items ++ t.made old.number line ∷ [] →
      struck_of t old.before old.number (line_got got bytes) ≡ strikes line → Gives lines got bytes rest → found_in t old lines ≡ found_in t new rest
  strike_in got old new bytes line lines rest counted stands pushed says gives =
      let later = faults_from t (before_next (strikes line) old.before) (number_behind got old.number) rest in
      ap (with_faults old.faults.items) (sound_gives got old.before old.number bytes lines rest (strikes line) (strikes_sound line) gives says)
      ∙ ap (λ (fs : List Fault). record { faults = fs; refusal = later.refusal }) (one_more old.faults.items new.faults.items later.faults (t.made old.number line) (t.made old.number line) pushed refl)
      ∙ ap (λ (b : Before Who). with_faults new.faults.items (faults_from t b (number_behind got old.number) rest)) (sym stands)
      ∙ ap (λ (n : ℕ). with_faults new.faults.items (faults_from t new.before n rest)) (sym counted)

  pub strike_says : (got : Got) (old new : Found Who Fault) (bytes : List ℕ) (line : FaultLine Who) (lines rest : List cut.Line) (ended : Result Taken TextFail) → IsMore ended →
      OnOk ended (new.number ≡ number_behind got old.number) → OnOk ended (new.before ≡ before_next (strikes line) old.before) →
      OnOk ended (new.faults.items ≡ old.faults.items ++ t.made old.number line ∷ []) →
      struck_of t old.before old.number (line_got got bytes) ≡ strikes line → Gives lines got bytes rest → GoesOnBy t ended old new lines rest
  strike_says got old new bytes line lines rest (Ok More) is counted stands pushed says gives = strike_in got old new bytes line lines rest counted stands pushed says gives
  strike_says got old new bytes line lines rest (Ok TheLast) is counted stands pushed says gives = absurd is
  strike_says got old new bytes line lines rest (Err NoMemory) is counted stands pushed says gives = tt
  strike_says got old new bytes line lines rest (Err IsFault) is counted stands pushed says gives = absurd is
  strike_says got old new bytes line lines rest (Err (IsRefused refusal)) is counted stands pushed says gives = absurd is

  pub strike_came : (got : Got) (before : Before Who) (number : ℕ) (bytes : List ℕ) (line : FaultLine Who) (ended : Result Taken TextFail) →
      struck_of t before number (line_got got bytes) ≡ strikes line → OnOk ended (Came got)
  strike_came got before number bytes line (Ok taken) says = came_if got before number bytes (strikes line) (strikes_sound line) says
  strike_came got before number bytes line (Err why) says = tt

  pub no_fault_in : (ended : Result Taken TextFail) → IsMore ended → ¬ IsErrOf ended IsFault
  no_fault_in ended is failed = subst IsMore failed is

  -- a fault line that is no earlier, by a line of the file
  from_line : ((a b : Who) → t.is_same a b ≡ true → a ≡ b) → (before : Before Who) (line : cut.Line) (fault : FaultLine Who) →
      line_struck t before line ≡ strikes fault → IsFrom t before fault
  from_line equal before (Kept bytes) fault is = struck_from t equal before (fields bytes) fault is
  from_line equal before (KeptLast bytes) fault is = struck_from t equal before (fields bytes) fault is
  from_line equal before Long fault is = cc
  from_line equal before Large fault is = cc

  struck_line : (b : Bool) (said other : Struck Who) → ((rule : Rule) → other ≢ broken rule) → (if b then broken F5 else said) ≡ other → said ≡ other
  struck_line true said other sound is = absurd (sound F5 (sym is))
  struck_line false said other sound is = is

  -- one fault more
  struck_are : ((a b : Who) → t.is_same a b ≡ true → a ≡ b) → (parts : Fault → FaultLine Who) → ((number : ℕ) (line : FaultLine Who) → parts (t.made number line) ≡ line) →
      (got : Got) (old new : Found Who Fault) (bytes : List ℕ) (line : FaultLine Who) → new.number ≡ number_behind got old.number → new.before ≡ before_next (strikes line) old.before →
      new.faults.items ≡ old.faults.items ++ t.made old.number line ∷ [] → struck_of t old.before old.number (line_got got bytes) ≡ strikes line →
      AreFound t parts old → AreFound t parts new
  struck_are equal parts keeps got old new bytes line counted stands pushed says are =
      let fault = t.made old.number line in
      let few : old.number ≤ MOST_FAULT_LINES = few_if old.before old.number (line_got got bytes) (strikes line) (strikes_sound line) says in
      let from : IsFrom t old.before line = from_line equal old.before (line_got got bytes) line
      (struck_line (nat_lt MOST_FAULT_LINES old.number) (line_struck t old.before (line_got got bytes)) (strikes line) (strikes_sound line) says) in
      let parts_are : parts fault ≡ line = keeps old.number line in
      let from_fault : IsFrom t old.before (parts fault) = subst (IsFrom t old.before) (sym parts_are) from in
      record {
        few = subst (λ (n : ℕ). n ≤ MOST_FAULT_LINES + 1) (sym counted) (few_behind got old.number few);
        ordered = subst (StrikeInOrder parts) (sym pushed) (in_order-push t parts old.before old.faults.items fault are.upto from_fault are.ordered);
        one = λ alone. subst (StrikeOne parts) (sym pushed) (one-push t parts alone old.before old.faults.items fault are.upto from_fault (are.one alone));
        upto = subst (λ (b : Before Who). AreUpTo t parts b new.faults.items) (sym stands)
            (subst (λ (l : FaultLine Who). AreUpTo t parts (before_next (strikes l) old.before) new.faults.items) parts_are
            (subst (AreUpTo t parts (before_next (strikes (parts fault)) old.before)) (sym pushed) (up_to-push t parts old.before old.faults.items fault are.upto from_fault)));
      }

  pub strike_are : ((a b : Who) → t.is_same a b ≡ true → a ≡ b) → (parts : Fault → FaultLine Who) → ((number : ℕ) (line : FaultLine Who) → parts (t.made number line) ≡ line) →
      (got : Got) (old new : Found Who Fault) (bytes : List ℕ) (line : FaultLine Who) (ended : Result Taken TextFail) → OnOk ended (new.number ≡ number_behind got old.number) →
      OnOk ended (new.before ≡ before_next (strikes line) old.before) → OnOk ended (new.faults.items ≡ old.faults.items ++ t.made old.number line ∷ []) →
      struck_of t old.before old.number (line_got got bytes) ≡ strikes line → AreFound t parts old → OnOk ended (AreFound t parts new)
  strike_are equal parts keeps got old new bytes line (Ok taken) counted stands pushed says are = struck_are equal parts keeps got old new bytes line counted stands pushed says are
  strike_are equal parts keeps got old new bytes line (Err why) counted stands pushed says are = tt

  -- at the text's end all is found
  pub end_in : (found : Found Who Fault) (lines : List cut.Line) → lines ≡ [] → found_in t found lines ≡ record { faults = found.faults.items; refusal = None }
  end_in found lines none = ap (found_in t found) none ∙ ap (λ (fs : List Fault). record { faults = fs; refusal = None }) (append-nil found.faults.items)

  -- before the first line
  abbrev pub empty : Vec Fault Global → Found Who Fault
  empty made = record { number = 1; before = no_fault; faults = made }

  pub empty_in : (made : Vec Fault Global) (text : List ℕ) (lines : List cut.Line) → made.items ≡ [] → lines ≡ lines_at LARGEST_READ LONGEST_FAULT_LINE text 0 →
      found_in t (empty made) lines ≡ faults_in t text
  empty_in made text lines none is =
      ap (λ (fs : List Fault). with_faults fs (faults_from t no_fault 1 lines)) none ∙ ap (faults_from t no_fault 1) is ∙ faults_whole t text

  pub empty_are : (parts : Fault → FaultLine Who) (made : Vec Fault Global) → made.items ≡ [] → AreFound t parts (empty made)
  empty_are parts made none = record {
    few = omega arith;
    ordered = subst (StrikeInOrder parts) (sym none) (λ i j d before within. absurd (omega (arith, within)));
    one = λ alone. subst (StrikeOne parts) (sym none) (λ i j d before within. absurd (omega (arith, within)));
    upto = subst (AreUpTo t parts no_fault) (sym none) (λ k d within. absurd (omega (arith, within)));
  }

  -- the refusal that ends the lines
  pub refused_by : (why : TextFail) (refusal : Refusal) (first last : Found Who Fault) (lines : List cut.Line) → why ≡ IsRefused refusal → EndsBy t (Err why) first last lines →
      (found_in t first lines).refusal ≡ Some refusal
  refused_by why refusal first last lines is ends = subst (λ (w : TextFail). EndsBy t (Err w) first last lines) is ends

  -- an error at a line is that of all lines
  pub ends_failing : (why : TextFail) (first mid last : Found Who Fault) (all lines rest : List cut.Line) → found_in t first all ≡ found_in t mid lines →
      GoesOnBy t (Err why) mid last lines rest → EndsBy t (Err why) first last all
  ends_failing NoMemory first mid last all lines rest same says = tt
  ends_failing IsFault first mid last all lines rest same says = tt
  ends_failing (IsRefused refusal) first mid last all lines rest same says = ap (λ (l : FaultList Fault). l.refusal) same ∙ says
