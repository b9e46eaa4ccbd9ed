-- A listener of which all is known, and what is heard of a text.
use Rattle.std.specs.Prelude.{◌≡◌, ◌⊎◌, ℕ, Bool, List, [], Option, length, nat_le, take, if◌then◌else◌}
use Rattle.ps_message.specs.declared.statuses.Unread.{Unread}

-- a listener: whether it asks for no messages, what it has heard, the text that it reads under each name, why it can
-- read none there, and for how many bytes more it has room
pub record ListenerSeen : Type 0 where
  pub quiet : Bool
  pub heard : List ℕ
  pub reads : List ℕ → List ℕ
  pub unread : List ℕ → Option Unread
  pub room : ℕ

-- any listener, by what it says of itself
abbrev pub listener_seen : {L : Type 0} → (L → Bool) → (L → List ℕ) → (L → List ℕ → List ℕ) → (L → List ℕ → Option Unread) → (L → ℕ) → L → ListenerSeen
listener_seen quiet heard reads unread room l =
    record { quiet = quiet l; heard = heard l; reads = reads l; unread = unread l; room = room l }

-- what is heard of a text: all of it where there is room for it, and else nothing
abbrev pub heard_of : (room : ℕ) → List ℕ → List ℕ
heard_of room text = if nat_le (length text) room then text else []

-- the first bytes of a text, or none where memory is out
abbrev pub IsFirst : (most : ℕ) → (text bytes : List ℕ) → Type 0
IsFirst most text bytes = (bytes ≡ take most text) ⊎ (bytes ≡ [])
