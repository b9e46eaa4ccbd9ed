-- What follows the first name of a statement, told by the sign that stands next.
use Rattle.std.proofs.Common.{◌≡◌, ℕ, inl, inr, List, ◌∷◌, refl, sym, subst}
use Rattle.ps_parser.specs.declared.sign.Sign.TheVariants.{Assign, LeftBracket, Dot}
use Rattle.ps_parser.specs.declared.name.Name.{Name}
use Rattle.ps_parser.specs.Symbol.{Symbol, Mark, is_mark}
use Rattle.ps_parser.specs.Tree.{SumTree, ArgumentTree}
use Rattle.ps_parser.specs.Phrase.{Stops, Reads}
use Rattle.ps_parser.specs.Grammar.{a_value, a_call, a_pin_value, pin_end, pin_parts, call_end, call_parts, value_or_call, a_tail}
use Rattle.ps_parser.proofs.Joints.{Carries, in_second, in_seen, reads_both, reads_as}
use Rattle.ps_parser.proofs.Choices.{refuses_left, refuses_right, reads_left, reads_right}
use Rattle.ps_parser.proofs.Expressions.{reads_sign}
use Rattle.ps_parser.proofs.Sentences.{pin_twin, pin_joint, call_twin, call_joint, open_value, open_call, open_pin, value_apart, is_value_or_call, open_value_or_call, tail_apart}

-- after a dot
pub pin_refuses : (n : ℕ) (ts after : List Symbol) → ts ≡ Mark Dot ∷ after → Carries pin_end a_tail n n after ts
pin_refuses n ts after e flaw left h =
    refuses_left a_pin_value value_or_call (is_mark Dot) is_value_or_call open_pin open_value_or_call tail_apart n ts (subst (Stops is_value_or_call) (sym e) refl) flaw left
    (in_seen pin_twin n ts flaw left (in_second pin_joint n ts after tt (reads_sign (Mark Dot) n ts after e) flaw left h))

pub pin_reads : (n : ℕ) (ts after rest : List Symbol) (p : Name × SumTree) → ts ≡ Mark Dot ∷ after → Reads pin_end n after p rest → Reads a_tail n ts (inl p) rest
pin_reads n ts after rest p e h =
    reads_left a_pin_value value_or_call (is_mark Dot) is_value_or_call open_pin open_value_or_call tail_apart n ts rest p
    (reads_as pin_parts n ts rest p (reads_both pin_joint n ts after rest tt p (reads_sign (Mark Dot) n ts after e) h))

-- after an opening bracket
pub call_refuses : (n : ℕ) (ts after : List Symbol) → ts ≡ Mark LeftBracket ∷ after → Carries call_end a_tail n n after ts
call_refuses n ts after e flaw left h =
    refuses_right a_pin_value value_or_call (is_mark Dot) is_value_or_call open_pin open_value_or_call tail_apart n ts (subst (Stops (is_mark Dot)) (sym e) refl) flaw left
    (refuses_right a_value a_call (is_mark Assign) (is_mark LeftBracket) open_value open_call value_apart n ts (subst (Stops (is_mark Assign)) (sym e) refl) flaw left
    (in_seen call_twin n ts flaw left (in_second call_joint n ts after tt (reads_sign (Mark LeftBracket) n ts after e) flaw left h)))

pub call_reads : (n : ℕ) (ts after rest : List Symbol) (args : List ArgumentTree) → ts ≡ Mark LeftBracket ∷ after → Reads call_end n after (args, (tt, tt)) rest → Reads a_tail n ts (inr (inr args)) rest
call_reads n ts after rest args e h =
    reads_right a_pin_value value_or_call (is_mark Dot) is_value_or_call open_pin open_value_or_call tail_apart n ts rest (inr args)
    (reads_right a_value a_call (is_mark Assign) (is_mark LeftBracket) open_value open_call value_apart n ts rest args
    (reads_as call_parts n ts rest args (reads_both call_joint n ts after rest tt (args, (tt, tt)) (reads_sign (Mark LeftBracket) n ts after e) h)))

-- where neither stands next, `:=` has to
pub value_refuses : (n : ℕ) (ts : List Symbol) → Stops (is_mark Dot) ts → Stops (is_mark LeftBracket) ts → Carries a_value a_tail n n ts ts
value_refuses n ts no_dot no_bracket flaw left h =
    refuses_right a_pin_value value_or_call (is_mark Dot) is_value_or_call open_pin open_value_or_call tail_apart n ts no_dot flaw left
    (refuses_left a_value a_call (is_mark Assign) (is_mark LeftBracket) open_value open_call value_apart n ts no_bracket flaw left h)

pub value_reads : (n : ℕ) (ts rest : List Symbol) (s : SumTree) → Reads a_value n ts s rest → Reads a_tail n ts (inr (inl s)) rest
value_reads n ts rest s h =
    reads_right a_pin_value value_or_call (is_mark Dot) is_value_or_call open_pin open_value_or_call tail_apart n ts rest (inl s)
    (reads_left a_value a_call (is_mark Assign) (is_mark LeftBracket) open_value open_call value_apart n ts rest s h)
