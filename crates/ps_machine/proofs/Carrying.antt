-- What is carried over from the cells of one channel to those of another stands there for the same.
use Rattle.std.proofs.Common.{◌≡◌, ℕ, ◌+◌, ◌*◌, ◌≤◌, List, ◌++◌, length, take, drop, refl, sym, ap, ◌∙◌, subst, arith, length-drop, append-nil}
use Rattle.std.specs.Prelude.{slice_index}
use Rattle.std.proofs.lemmas.List.{get_or-drop, drop-drop, drop_at, drop_all, length-take-le}
use Rattle.std.proofs.lemmas.List.FromFn.{fill_by_all, length-map-range_with_len}
use Rattle.ps_model.specs.declared.sizes.Sizes.{Sizes}
use Rattle.ps_model.specs.Network.{Network, signal_count, instance_count, kind_at}
use Rattle.ps_model.specs.Scanning.{State, block_in}
use Rattle.ps_model.specs.Sized.{AreSizesOf}
use Rattle.ps_machine.specs.Bytes.{replaced}
use Rattle.ps_machine.specs.Carrying.{bytes_from, carried, filled}
use Rattle.ps_machine.specs.Standing.{LoadsTo, AreCellsOf}
use Rattle.ps_machine.proofs.Instances.{block_is}
use Rattle.ps_machine.proofs.Places.{length-replaced}

-- ---- Bytes that are read, and cells that are filled.

pub bytes_are : (first count : ℕ) (cells : List ℕ) → length cells ≡ first + count → bytes_from first count cells ≡ drop first cells
bytes_are first count cells sized =
    sym (fill_by_all (λ k. slice_index cells (first + k)) (drop first cells) count 0 (omega (arith, length-drop first cells)) (λ k low. get_or-drop first cells k 0))

-- bytes that are written up to the end
pub drop_written : (bytes : List ℕ) (at : ℕ) (new : List ℕ) → length bytes ≡ at + length new → drop at (replaced bytes at new) ≡ new
drop_written bytes at new whole =
    let front = length-take-le at bytes (omega arith) in
    drop_at (take at bytes) (new ++ drop (at + length new) bytes) at front
    ∙ ap (λ l. new ++ l) (drop_all (at + length new) bytes (omega arith)) ∙ append-nil new

module _ (blank : List ℕ) (time_at : ℕ) (time : List ℕ) (first : ℕ) (rest : List ℕ) (before : time_at + length time ≤ first) (whole : length blank ≡ first + length rest) where
  length-timed : length (replaced blank time_at time) ≡ length blank
  length-timed = length-replaced blank time_at time (omega arith)

  pub length-filled : length (filled blank time_at time first rest) ≡ first + length rest
  length-filled =
      let long = length-timed in
      length-replaced (replaced blank time_at time) first rest (omega arith) ∙ long ∙ whole

  pub drop_filled : drop first (filled blank time_at time first rest) ≡ rest
  drop_filled =
      let long = length-timed in
      drop_written (replaced blank time_at time) first rest (omega arith)

-- ---- Cells with the same signals and instances stand for the same state.
module _ (net : Network) (Says : ℕ → ℕ → ℕ → Type 0) (w : State) where
  pub same_standing : (first at : ℕ) (cells new : List ℕ) → length new ≡ at + signal_count net + 16 * instance_count net → drop at new ≡ drop first cells →
      AreCellsOf net Says w first cells → AreCellsOf net Says w at new
  same_standing first at cells new sized same h = record {
    sized = sized;
    undriven = h.undriven;
    signals = λ s low. sym (get_or-drop at new s 0) ∙ ap (λ l. slice_index l s) same ∙ get_or-drop first cells s 0 ∙ h.signals s low;
    blocks = λ i low.
        let from = first + signal_count net in
        let to = at + signal_count net in
        let rest : drop to new ≡ drop from cells = sym (drop-drop (signal_count net) at new) ∙ ap (drop (signal_count net)) same ∙ drop-drop (signal_count net) first cells in
        subst (λ b. LoadsTo (Says i) (kind_at net i) b (block_in w i)) (block_is from i cells (drop from cells) refl ∙ sym (block_is to i new (drop from cells) rest)) (h.blocks i low);
  }

-- ---- What is carried over, and what is filled with it.
module _ (net : Network) (z : Sizes) (sizes : AreSizesOf net z) where
  pub length-carried : (first : ℕ) (cells : List ℕ) → length (carried z first cells) ≡ z.signals + 16 * z.instances
  length-carried first cells = length-map-range_with_len (λ k. slice_index cells (first + k)) 0 (z.signals + 16 * z.instances)

  carried_is : (first : ℕ) (cells : List ℕ) → length cells ≡ first + signal_count net + 16 * instance_count net → carried z first cells ≡ drop first cells
  carried_is first cells sized = bytes_are first (z.signals + 16 * z.instances) cells (omega (arith, sizes.signals, sizes.instances, sized))

  -- what is carried over stands, from its first byte on, for what the cells stand for
  pub carried_stands : (Says : ℕ → ℕ → ℕ → Type 0) (w : State) (first : ℕ) (cells : List ℕ) → AreCellsOf net Says w first cells → AreCellsOf net Says w 0 (carried z first cells)
  carried_stands Says w first cells h =
      same_standing net Says w first 0 cells (carried z first cells)
      (omega (arith, sizes.signals, sizes.instances, length-carried first cells))
      (carried_is first cells h.sized) h

  -- and cells that are filled with it stand for the same
  pub filled_stands : (Says : ℕ → ℕ → ℕ → Type 0) (w : State) (blank : List ℕ) (time_at : ℕ) (time : List ℕ) (at : ℕ) (bytes : List ℕ) → time_at + length time ≤ at →
      length blank ≡ at + z.signals + 16 * z.instances → AreCellsOf net Says w 0 bytes → AreCellsOf net Says w at (filled blank time_at time at bytes)
  filled_stands Says w blank time_at time at bytes before whole h =
      let all : length blank ≡ at + length bytes = omega (arith, sizes.signals, sizes.instances, h.sized) in
      same_standing net Says w 0 at bytes (filled blank time_at time at bytes)
      (omega (arith, h.sized, length-filled blank time_at time at bytes before all))
      (drop_filled blank time_at time at bytes before all) h
