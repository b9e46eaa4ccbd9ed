-- What an event leaves of each seat.
use Rattle.std.proofs.Common.{◌⊎◌, inl, inr, ◌≡◌, ℕ, Bool, true, false, cond, ◌+◌, List, length, refl, ap}
use Rattle.std.specs.Prelude.{not, nat_lt}
use Rattle.ps_model.specs.declared.channel.Region.{Region}
use Rattle.ps_model.specs.declared.channel.Region.TheVariants.{Code, Cells}
use Rattle.ps_machine.specs.Bytes.{replaced, overwritten}
use Rattle.ps_machine.specs.Channels.{Channel_state, after_turn, after_strike, remade}
use Rattle.ps_vote.specs.declared.seat.Seat.{Seat}
use Rattle.ps_vote.specs.declared.seat.Seat.TheVariants.{A, B, C}
use Rattle.ps_vote.specs.declared.seat.DirtySeats.{DirtySeats}
use Rattle.ps_vote.specs.Worlds.{Machines, World_state, Turn, Spoil, Heal, is_same, machine, channel, source, mark, marked, none_dirty}
use Rattle.ps_vote.specs.Steps.{world_step, is_in_region, healing}

pub same_or_other : (s o : Seat) → ((is_same s o ≡ true) × (o ≡ s)) ⊎ (is_same s o ≡ false)
same_or_other A A = inl (refl, refl)
same_or_other A B = inr refl
same_or_other A C = inr refl
same_or_other B A = inr refl
same_or_other B B = inl (refl, refl)
same_or_other B C = inr refl
same_or_other C A = inr refl
same_or_other C B = inr refl
same_or_other C C = inl (refl, refl)

pub same_either_way : (s o : Seat) → is_same s o ≡ is_same o s
same_either_way A A = refl
same_either_way A B = refl
same_either_way A C = refl
same_either_way B A = refl
same_either_way B B = refl
same_either_way B C = refl
same_either_way C A = refl
same_either_way C B = refl
same_either_way C C = refl

pub source_is_another : (s : Seat) → is_same s (source s) ≡ false
source_is_another A = refl
source_is_another B = refl
source_is_another C = refl

pub none_marked : (s : Seat) → mark s none_dirty ≡ false
none_marked A = refl
none_marked B = refl
none_marked C = refl

pub mark_in : (s o : Seat) (dirty : Bool) (d : DirtySeats) → mark s (marked o dirty d) ≡ cond (is_same s o) dirty (mark s d)
mark_in A o dirty d = refl
mark_in B o dirty d = refl
mark_in C o dirty d = refl

module _ (m : Machines) (x : World_state) where
  pub turn_at : (s o : Seat) → channel s (world_step m (Turn o) x) ≡ cond (is_same s o) (after_turn (machine o m) (channel o x)) (channel s x)
  turn_at A o = refl
  turn_at B o = refl
  turn_at C o = refl

  pub spoil_at : (s o : Seat) (region : Region) (at : ℕ) (bytes : List ℕ) →
      channel s (world_step m (Spoil o region at bytes) x) ≡ cond (is_same s o) (after_strike region at bytes (channel o x)) (channel s x)
  spoil_at A o region at bytes = refl
  spoil_at B o region at bytes = refl
  spoil_at C o region at bytes = refl

  pub heal_at : (s o : Seat) → channel s (world_step m (Heal o) x) ≡ cond (is_same s o) (remade (machine o m) (healing m o x) (channel o x)) (channel s x)
  heal_at A o = refl
  heal_at B o = refl
  heal_at C o = refl

out_of_bytes : (region : List ℕ) (at : ℕ) (bytes : List ℕ) → not (nat_lt (length region) (at + length bytes)) ≡ false → overwritten region at bytes ≡ region
out_of_bytes region at bytes h = by (nat_lt (length region) (at + length bytes)) h
  where
    by : (b : Bool) → not b ≡ false → cond b region (replaced region at bytes) ≡ region
    by true h = refl
    by false h = absurd (cc)

-- bytes out of region change nothing
pub out_of_region : (region : Region) (at : ℕ) (bytes : List ℕ) (s : Channel_state) → is_in_region region at bytes s ≡ false → after_strike region at bytes s ≡ s
out_of_region Code at bytes s h = ap (λ l. record { code = l; cells = s.cells; turns = s.turns }) (out_of_bytes s.code at bytes h)
out_of_region Cells at bytes s h = ap (λ l. record { code = s.code; cells = l; turns = s.turns }) (out_of_bytes s.cells at bytes h)
