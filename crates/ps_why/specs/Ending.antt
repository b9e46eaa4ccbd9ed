-- Which ways end a state that stays.
use Rattle.std.specs.Prelude.{ℕ, ◌==◌, ◌&&◌, ◌||◌, not, Bool, nat_le}
use Rattle.ps_ways.specs.declared.way.Way.{Way}

-- a DiagCode of an error: C000 and above
abbrev pub is_error : (code : ℕ) → Bool
is_error code = nat_le 0xC000 code

-- A way ends a state: it leads to a state that is no error; or to any, where the state has ways to errors alone.
abbrev pub is_end : (state : ℕ) → (to_errors_alone : Bool) → Way → Bool
is_end q to_errors_alone w = w.state == q && (not (is_error w.next) || to_errors_alone)
