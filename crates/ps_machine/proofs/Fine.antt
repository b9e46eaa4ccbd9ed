-- The values of a sound application are fine: their signals exist, their groups have operands, and they are nested no deeper than values may be.
use Rattle.std.proofs.Common.{◌≡◌, ℕ, ◌<◌, ◌≤◌, List, [], length, sym, subst, inl, inr, arith, get_or, Some}
use Rattle.std.specs.Prelude.{slice_index_or, slice_get}
use Rattle.std.proofs.lemmas.Bool.{cases_lt}
use Rattle.std.proofs.lemmas.List.{get_or_past}
use Rattle.std.proofs.lemmas.List.Elements.{All-head}
use Rattle.std.proofs.lemmas.Option.{slice_get_within, get_or_from_slice_get, slice_get-get_or}
use Rattle.ps_model.specs.Formula.{Formula, Formulas, operand}
use Rattle.ps_model.specs.Action.{Action, Actual, free, literal, time, wired, calls}
use Rattle.ps_model.specs.Network.{Network, signal_count}
use Rattle.ps_model.specs.Sound.{IsSound}
use Rattle.ps_model.specs.Values.{IsBelow, AreBelow, HasOperands, HaveOperands, depth, deepest, values_of_step, values_at_pin}
use Rattle.ps_machine.proofs.Parts.{all_part}

-- its signals are below n, its groups have operands, and it is nested at most d deep
pub record IsFine (n d : ℕ) (e : Formula) : Type 0 where
  pub below : IsBelow n e
  pub full : HasOperands e
  pub shallow : depth e ≤ d

pub record AreFine (n d : ℕ) (es : Formulas) : Type 0 where
  pub below : AreBelow n es
  pub full : HaveOperands es
  pub shallow : deepest es ≤ d

pub first_fine : (n d : ℕ) (e : Formula) (es : Formulas) → AreFine n d (operand e es) → IsFine n d e
first_fine n d e es h = let deep = h.shallow in record { below = h.below.0; full = h.full.0; shallow = omega arith }

pub later_fine : (n d : ℕ) (e : Formula) (es : Formulas) → AreFine n d (operand e es) → AreFine n d es
later_fine n d e es h = let deep = h.shallow in record { below = h.below.1; full = h.full.1; shallow = omega arith }

-- a value at a pin is fine
abbrev pub IsFinePin : ℕ → Actual → Type 0
IsFinePin n free = Unit {0}
IsFinePin n (literal b) = Unit {0}
IsFinePin n (time t) = Unit {0}
IsFinePin n (wired e) = IsFine n 34 e

module _ (net : Network) (sound : IsSound net) where
  -- each value is fine
  pub fine_value : (k : ℕ) (a : Action) (e : Formula) (j : ℕ) → slice_get net.steps k ≡ Some a → slice_get (values_of_step a) j ≡ Some e → IsFine (signal_count net) 34 e
  fine_value k a e j at there =
      let inside : j < length (values_of_step a) = slice_get_within (values_of_step a) j e there in
      let is : get_or (values_of_step a) j e ≡ e = get_or_from_slice_get (values_of_step a) j e e there in
      record {
        below = subst (IsBelow (signal_count net)) is (all_part (IsBelow (signal_count net)) values_of_step net.steps sound.values_below k a at j e inside);
        full = subst HasOperands is (all_part HasOperands values_of_step net.steps sound.values_full k a at j e inside);
        shallow = subst (λ x. depth x ≤ 34) is (all_part (λ x. depth x ≤ 34) values_of_step net.steps sound.values_shallow k a at j e inside);
      }

  -- so is each value at a pin
  pub fine_pin : (k i : ℕ) (args : List Actual) → slice_get net.steps k ≡ Some (calls i args) → (j : ℕ) → IsFinePin (signal_count net) (slice_index_or args j free)
  fine_pin k i args at j =
      elim (cases_lt j (length args)) [
        | inl low ↦ by_actual (slice_index_or args j free) (slice_get-get_or args j free low)
        | inr past ↦ subst (IsFinePin (signal_count net)) (sym (get_or_past args j free past)) tt
      ]
    where
      by_actual : (a : Actual) → slice_get args j ≡ Some a → IsFinePin (signal_count net) a
      by_actual free there = tt
      by_actual (literal b) there = tt
      by_actual (time t) there = tt
      by_actual (wired e) there =
          let v = values_of_step (calls i args) in
          let below = all_part (IsBelow (signal_count net)) values_at_pin args (all_part (IsBelow (signal_count net)) values_of_step net.steps sound.values_below k (calls i args) at) j (wired e) there in
          let full = all_part HasOperands values_at_pin args (all_part HasOperands values_of_step net.steps sound.values_full k (calls i args) at) j (wired e) there in
          let shallow = all_part (λ x. depth x ≤ 34) values_at_pin args (all_part (λ x. depth x ≤ 34) values_of_step net.steps sound.values_shallow k (calls i args) at) j (wired e) there in
          record {
            below = All-head (IsBelow (signal_count net)) e [] below;
            full = All-head HasOperands e [] full;
            shallow = All-head (λ x. depth x ≤ 34) e [] shallow;
          }
