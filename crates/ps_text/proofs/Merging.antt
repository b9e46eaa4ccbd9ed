-- The value at a place of spans that are merged.
use Rattle.std.proofs.Common.{◌≡◌, ◌≤◌, ℕ, ◌==◌, ◌&&◌, List, [], ◌∷◌, Bool, true, false, Option, Some, if◌then◌else◌, refl, ap, ◌∙◌, arith}
use Rattle.std.specs.Prelude.{nat_le, nat_lt}
use Rattle.std.proofs.lemmas.Grind.{common_steps}
use Rattle.ps_text.specs.Lanes.{AreSideBySide, BeginAt, before, joined, merged, value_at}
use Rattle.ps_text.specs.declared.lanes.Span.{Span}

-- a span before others, or one with the first of them
begins_either : (same : Bool) (s t : Span) (ts : List Span) (place : ℕ) → s.x ≡ place →
    BeginAt place (if same then joined s t ∷ ts else s ∷ t ∷ ts)
begins_either true s t ts place is = is
begins_either false s t ts place is = is

begins_before : (s : Span) (ts : List Span) (place : ℕ) → s.x ≡ place → BeginAt place (before s ts)
begins_before s [] place is = is
begins_before s (t ∷ ts) place is = begins_either (s.value == t.value) s t ts place is

-- merged spans begin where the spans do
begins_merged : (ss : List Span) (place : ℕ) → BeginAt place ss → BeginAt place (merged ss)
begins_merged [] place is = tt
begins_merged (s ∷ ss) place is = begins_before s (merged ss) place is

side_either : (same : Bool) (s t : Span) (ts : List Span) → s.x ≤ s.end → BeginAt s.end (t ∷ ts) → AreSideBySide (t ∷ ts) →
    AreSideBySide (if same then joined s t ∷ ts else s ∷ t ∷ ts)
side_either true s t ts rises next rest = (omega (arith, next, rest.0), rest.1, rest.2)
side_either false s t ts rises next rest = (rises, next, rest)

side_before : (s : Span) (ts : List Span) → s.x ≤ s.end → BeginAt s.end ts → AreSideBySide ts → AreSideBySide (before s ts)
side_before s [] rises next rest = (rises, tt, tt)
side_before s (t ∷ ts) rises next rest = side_either (s.value == t.value) s t ts rises next rest

-- merged spans stand side by side
side_merged : (ss : List Span) → AreSideBySide ss → AreSideBySide (merged ss)
side_merged [] is = tt
side_merged (s ∷ ss) is = side_before s (merged ss) is.0 (begins_merged ss s.end is.1) (side_merged ss is.2)

-- a place lies in one of two spans side by side, where it lies in both as one
in_joined : (s t : Span) (place : ℕ) → s.x ≤ s.end → t.x ≡ s.end → t.x ≤ t.end → (value rest : Option ℕ) →
    (if nat_le s.x place && nat_lt place t.end then value else rest)
    ≡ (if nat_le s.x place && nat_lt place s.end then value else if nat_le t.x place && nat_lt place t.end then value else rest)
in_joined s t place a b c value rest = grind (arith, common_steps)

-- values that are told apart by no test are one
same_value : (n m : ℕ) → (n == m) ≡ true → n ≡ m
same_value n m is = grind arith

value_either : (same : Bool) (s t : Span) (ts : List Span) (place : ℕ) → (s.value == t.value) ≡ same → s.x ≤ s.end →
    BeginAt s.end (t ∷ ts) → AreSideBySide (t ∷ ts) →
    value_at (if same then joined s t ∷ ts else s ∷ t ∷ ts) place
    ≡ (if nat_le s.x place && nat_lt place s.end then Some s.value else value_at (t ∷ ts) place)
value_either true s t ts place is rises next rest =
    in_joined s t place rises next rest.0 (Some s.value) (value_at ts place)
    ∙ ap (λ (v : Option ℕ). if nat_le s.x place && nat_lt place s.end then Some s.value
    else if nat_le t.x place && nat_lt place t.end then v else value_at ts place) (ap Some (same_value s.value t.value is))
value_either false s t ts place is rises next rest = refl

-- at a place of a span before others that are merged
value_before : (s : Span) (ts : List Span) (place : ℕ) → s.x ≤ s.end → BeginAt s.end ts → AreSideBySide ts →
    value_at (before s ts) place ≡ (if nat_le s.x place && nat_lt place s.end then Some s.value else value_at ts place)
value_before s [] place rises next rest = refl
value_before s (t ∷ ts) place rises next rest = value_either (s.value == t.value) s t ts place refl rises next rest

-- at each place merged spans have the value that the spans have
pub value_merged : (ss : List Span) (place : ℕ) → AreSideBySide ss → value_at (merged ss) place ≡ value_at ss place
value_merged [] place is = refl
value_merged (s ∷ ss) place is =
    value_before s (merged ss) place is.0 (begins_merged ss s.end is.1) (side_merged ss is.2)
    ∙ ap (λ (v : Option ℕ). if nat_le s.x place && nat_lt place s.end then Some s.value else v) (value_merged ss place is.2)
