-- The exit of a `?` in a function that reads, and the measures of its loops.
use Rattle.std.proofs.Common.{◌≡◌, ℕ, List, ◌∷◌, length, Result, Ok, Err, ◌++◌, ◌<◌, sym, ap, subst, arith, length-append}
use Rattle.std.proofs.lemmas.List.{length-map}
use Rattle.std.specs.Result.{IsErrAnd}
use Rattle.ps_lexer.specs.declared.token.Token.{Token}
use Rattle.ps_parser.specs.declared.stop.Stop.{Stop}
use Rattle.ps_parser.specs.declared.stop.Stop.TheVariants.{Memory, Refused}
use Rattle.ps_parser.specs.Symbol.{Symbol, symbol, symbols}
use Rattle.ps_parser.specs.Phrase.{Phrase, Reads}
use Rattle.ps_parser.specs.Parses.{Stopped, Parses}
use Rattle.ps_parser.proofs.Joints.{Carries}

module _ {X Y : Type 0} (g : Phrase X) (h : Phrase Y) (inner outer : ℕ) (mid ts : List Symbol) (step : Carries g h inner outer mid ts) where
  -- what a part refuses, the whole refuses
  pub stop_of_part : (e : Stop) → Stopped g inner mid e → Stopped h outer ts e
  stop_of_part Memory p = tt
  stop_of_part (Refused flaw left) p = step flaw (symbols left.now) p

  pub exit : {S : Type 0} (tree : S → Y) (rest : S → List Symbol) (e : Stop) (r : Result S Stop) → IsErrAnd r (λ d. d ≡ e) → Stopped g inner mid e → Parses h outer ts tree rest r
  exit tree rest e (Ok x) is p = absurd is
  exit tree rest e (Err d) is p = subst (Stopped h outer ts) (sym is) (stop_of_part e p)

-- what is read of one kind is read of another
pub parses_as : {S X : Type 0} (g h : Phrase X) (n : ℕ) (ts : List Symbol) → Carries g h n n ts ts → ((x : X) (left : List Symbol) → Reads g n ts x left → Reads h n ts x left) → (tree : S → X) (rest : S → List Symbol) (r : Result S Stop) → Parses g n ts tree rest r → Parses h n ts tree rest r
parses_as g h n ts step reads tree rest (Ok x) p = reads (tree x) (rest x) p
parses_as g h n ts step reads tree rest (Err e) p = stop_of_part g h n n ts ts step e p

-- a token stands between the two, and what a phrase took
pub rest_is_shorter : (ts after left : List Token) (t : Symbol) (front : List Symbol) → symbols ts ≡ t ∷ symbols after → symbols after ≡ front ++ symbols left → length left < length ts
rest_is_shorter ts after left t front e h =
    omega (arith, ap length e, ap length h, length-map ts symbol, length-map after symbol, length-map left symbol, length-append front (symbols left))

pub fewer_tokens_left : (ts left : List Token) → length (symbols left) < length (symbols ts) → length left < length ts
fewer_tokens_left ts left h = omega (arith, length-map ts symbol, length-map left symbol)
