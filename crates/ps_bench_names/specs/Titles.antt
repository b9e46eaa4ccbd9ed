-- What may be the name of a case, or of a rule.
use Rattle.std.specs.Prelude.{ℕ, List, ◌==◌, ◌&&◌, Bool, not, nat_le, length}
use Rattle.std.specs.List.{list_all}
use Rattle.std.specs.Str.{is_utf8, chars}

-- whether XML can hold a character, and it is none below 32
abbrev pub may_stand : ℕ → Bool
may_stand c = nat_le 32 c && not (c == 0xFFFE) && not (c == 0xFFFF)

-- whether bytes may be the name of a case: UTF-8 of such characters
abbrev pub is_case_name : List ℕ → Bool
is_case_name name = not (length name == 0) && is_utf8 name && list_all may_stand (chars name)
