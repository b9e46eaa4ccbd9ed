-- The listener in memory, as contracts see it.
use Rattle.std.specs.Prelude.{ℕ, ◌-◌, List, [], Option, Some, None, String, vec_len}
use Rattle.std.specs.BTreeMap.{BTreeMap, get_by_text}
use Rattle.std.specs.declared.alloc.Global.{Global}
use Rattle.ps_message.specs.declared.statuses.Unread.{Unread}
use Rattle.ps_message.specs.declared.statuses.Unread.TheVariants.{Missing}
use Rattle.ps_edge.specs.Hearing.{ListenerSeen}
use Rattle.ps_edge.specs.declared.mem_listener.MemListener.{MemListener}

-- a text, if there is one, and else none
abbrev pub text_or_none : Option (List ℕ) → List ℕ
text_or_none (Some text) = text
text_or_none None = []

-- a text that there is not is missing
abbrev pub missing : Option (List ℕ) → Option Unread
missing (Some text) = None
missing None = Some Missing

-- the text under each name
abbrev pub reads_in : BTreeMap (String Global) (List ℕ) → List ℕ → List ℕ
reads_in texts name = text_or_none (get_by_text texts name)

-- why there is none
abbrev pub unread_in : BTreeMap (String Global) (List ℕ) → List ℕ → Option Unread
unread_in texts name = missing (get_by_text texts name)

-- the listener
abbrev pub listener_of : MemListener → ListenerSeen
listener_of l =
    record {
      quiet = l.is_quiet;
      heard = l.heard.items;
      reads = reads_in l.texts;
      unread = unread_in l.texts;
      room = l.room - vec_len l.heard;
    }
