-- Offences against rules, and the one that a refusal names: the lowest rule, and then the earliest place.
use Rattle.std.specs.Prelude.{◌≡◌, ℕ, Bool, false, ◌&&◌, ◌||◌, ◌==◌, nat_lt, List, [], Option, None, Some}
use Rattle.std.specs.Prelude.{if◌then◌else◌, fold, Contains}
use Rattle.ps_base.specs.declared.failing.Place.{Place}
use Rattle.ps_base.specs.declared.failing.Refusal.{Refusal}
use Rattle.ps_base.specs.declared.failing.Rule.{Rule}
use Rattle.ps_base.specs.declared.failing.Rule.TheVariants.{N1, N2, N3, N4, N5, N6, N7, N8, N9, N10, N11, N12, B1, B2}
use Rattle.ps_base.specs.declared.failing.Rule.TheVariants.{B3, B4, B5}

-- an offence is a rule and a place where it is broken
abbrev pub offence : Rule → Place → Refusal
offence rule place = record { rule = rule; place = place }

-- these offences where the test holds, and where it does not
abbrev pub when : Bool → List Refusal → List Refusal
when b os = if b then os else []

-- These offences where the test does not hold.
abbrev pub unless : Bool → List Refusal → List Refusal
unless b os = if b then [] else os

-- the number of a rule after its letter, for the letters whose lowest rule decides
unfoldable pub rule_number : Rule → ℕ
rule_number N1 = 1
rule_number N2 = 2
rule_number N3 = 3
rule_number N4 = 4
rule_number N5 = 5
rule_number N6 = 6
rule_number N7 = 7
rule_number N8 = 8
rule_number N9 = 9
rule_number N10 = 10
rule_number N11 = 11
rule_number N12 = 12
rule_number B1 = 1
rule_number B2 = 2
rule_number B3 = 3
rule_number B4 = 4
rule_number B5 = 5
rule_number _ = 0

-- a has the lower rule, or the same rule at an earlier place
abbrev pub is_before : Refusal → Refusal → Bool
is_before a b =
    nat_lt (rule_number a.rule) (rule_number b.rule)
    || (rule_number a.rule == rule_number b.rule
    && (nat_lt a.place.line b.place.line || (a.place.line == b.place.line && nat_lt a.place.column b.place.column)))

-- the first of what was found and one more
abbrev pub first_of : Option Refusal → Refusal → Option Refusal
first_of None b = Some b
first_of (Some a) b = if is_before b a then Some b else Some a

-- the first of what was found and these
abbrev pub noted : Option Refusal → List Refusal → Option Refusal
noted found os = fold first_of found os

-- what a refusal names where these are the offences
abbrev pub refused : List Refusal → Option Refusal
refused os = noted None os

-- No offence, or one before which none of the others comes.
abbrev pub IsFirst : List Refusal → Option Refusal → Type 0
IsFirst os None = os ≡ []
IsFirst os (Some o) = Contains os o × ((other : Refusal) → Contains os other → is_before other o ≡ false)
