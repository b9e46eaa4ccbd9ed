-- What may be the name of a case.
use Rattle.std.proofs.Common.{◌≡◌, ◌==◌, ℕ, List, Bool, true, false, length, refl, arith}
use Rattle.std.specs.List.{list_all}
use Rattle.std.specs.Str.{IsUtf8, is_utf8, chars}
use Rattle.std.proofs.lemmas.Grind.{common_steps}
use Rattle.std.proofs.lemmas.Str.{IsUtf8-from_is_utf8, is_utf8-from_IsUtf8}
use Rattle.ps_bench_names.specs.Titles.{is_case_name, may_stand}

-- UTF-8 is a name where its characters may stand
pub name_by_chars : (name : List ℕ) → (length name == 0) ≡ false → IsUtf8 name → list_all may_stand (chars name) ≡ is_case_name name
name_by_chars name some utf8 =
    let yes : is_utf8 name ≡ true = is_utf8-from_IsUtf8 name utf8 in
    rw (some, yes) refl

-- what is no UTF-8 is none
pub no_utf8 : (name : List ℕ) → ¬ (IsUtf8 name) → is_utf8 name ≡ false
no_utf8 name broken =
    elim (is_utf8 name) as (λ (b : Bool). is_utf8 name ≡ b → b ≡ false) [ true ↦ λ yes. absurd (broken (IsUtf8-from_is_utf8 name yes)) | false ↦ λ no. refl ] refl

pub no_name : (name : List ℕ) → ¬ (IsUtf8 name) → false ≡ is_case_name name
no_name name broken =
    let no : is_utf8 name ≡ false = no_utf8 name broken in
    grind (arith, common_steps)

-- a name is UTF-8
pub name_is_utf8 : (name : List ℕ) → is_case_name name ≡ true → IsUtf8 name
name_is_utf8 name is =
    let yes : is_utf8 name ≡ true = grind (arith, common_steps) in
    IsUtf8-from_is_utf8 name yes
