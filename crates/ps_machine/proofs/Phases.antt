-- A channel that nothing struck, event by event: it comes from rest to midway, goes on turn by turn, and comes to rest with the report of the meaning.
use Rattle.std.proofs.Common.{inl, inr, ◌≡◌, ℕ, zero, suc, ◌+◌, ◌<◌, ◌≤◌, ◌^◌, Bool, true, false, List, [], ◌∷◌, ◌++◌, length, Some, refl, sym, ap, ◌∙◌, subst, arith}
use Rattle.std.specs.Prelude.{nat_le, not, ◌||◌, replicate}
use Rattle.std.proofs.lemmas.Bool.{lt-leb, cases_lt}
use Rattle.std.proofs.lemmas.List.{get_or-replicate, get_or_past, length-replicate}
use Rattle.ps_model.specs.declared.channel.Progress.TheVariants.{Running, Done}
use Rattle.ps_model.specs.Blocks.{Block_state, idle}
use Rattle.ps_model.specs.Network.{Network, input_count, instance_count}
use Rattle.ps_model.specs.Scanning.{State, Solves, block_in}
use Rattle.ps_model.specs.Meaning.{Past, nothing, last, last_time, old_state, passed, first_state, report}
use Rattle.ps_machine.specs.Machines.{Machine, turned}
use Rattle.ps_machine.specs.Keeping.{Passes, Keeps, KeepsExactly}
use Rattle.ps_machine.specs.Progressing.{is_running}
use Rattle.ps_machine.specs.Channels.{Channel_state, Own, begins, makes_turn, closes, restarts, is_remade, meets, alone, ended}
use Rattle.ps_machine.specs.Phases.{AtRest, Midway}

-- the last of so many turns
pub turned_next : {X : Type 0} (turn : X → X) (k : ℕ) (x : X) → turned turn (suc k) x ≡ turn (turned turn k x)
turned_next turn zero x = refl
turned_next turn (suc k) x = turned_next turn k (turn x)

pub turned_add : {X : Type 0} (turn : X → X) (j k : ℕ) (x : X) → turned turn (j + k) x ≡ turned turn k (turned turn j x)
turned_add turn zero k x = let e : zero + k ≡ k = omega arith in ap (λ n. turned turn n x) e
turned_add turn (suc j) k x =
    let e : suc j + k ≡ suc (j + k) = omega arith in
    ap (λ n. turned turn n x) e ∙ turned_add turn j k (turn x)

pub alone_append : (m : Machine) (es fs : List Own) (s : Channel_state) → alone m (es ++ fs) s ≡ alone m fs (alone m es s)
alone_append m [] fs s = refl
alone_append m (e ∷ es) fs s = alone_append m es fs (meets m e s)

-- so many turns one after another
pub turns_alone : (m : Machine) (k : ℕ) (s : Channel_state) →
    alone m (replicate k makes_turn) s ≡ record { code = s.code; cells = turned (m.turn s.code) k s.cells; turns = s.turns + k }
turns_alone m zero s = let e : s.turns + zero ≡ s.turns = omega arith in ap (λ n. record { code = s.code; cells = s.cells; turns = n }) (sym e)
turns_alone m (suc k) s =
    let e : (s.turns + 1) + k ≡ s.turns + suc k = omega arith in
    turns_alone m k (meets m makes_turn s) ∙ ap (λ n. record { code = s.code; cells = turned (m.turn s.code) (suc k) s.cells; turns = n }) e

-- a machine whose scans all take the budget keeps the meaning
pub exactly_keeps : (net : Network) (m : Machine) (Stands : State → ℕ → List ℕ → Type 0) → KeepsExactly net m Stands → Keeps net m Stands
exactly_keeps net m Stands k = record {
  blank = k.blank;
  scan = λ old new ins t now dt cells later small count time stands solves.
      record { turns = m.budget; within = omega arith; runs = k.scan old new ins t now dt cells later small count time stands solves };
}

-- all blocks of the first state are idle
first_idle : (net : Network) (i : ℕ) → (block_in (first_state net) i).code ≡ 0
first_idle net i =
    elim (cases_lt i (instance_count net)) [
      | inl low ↦ ap (λ (b : Block_state). b.code) (get_or-replicate (instance_count net) i idle idle low)
      | inr high ↦ ap (λ (b : Block_state). b.code) (get_or_past (replicate (instance_count net) idle) i idle (omega (arith, length-replicate (instance_count net) idle)))
    ]

pub passes_since : (net : Network) (past : Past) (now : ℕ) → Passes (old_state net past) (last_time past) now (passed past now)
passes_since net nothing now i busy = absurd (busy (first_idle net i))
passes_since net (last before w) now i busy = refl

module _ (net : Network) (m : Machine) (Stands : State → ℕ → List ℕ → Type 0) where
  pub begins_midway : Keeps net m Stands → (latest : ℕ) (s : Channel_state) (past : Past) (new : State) (ins : List Bool) (now : ℕ) →
      AtRest net m Stands latest s past → latest ≤ now → now < 2 ^ 32 → length ins ≡ input_count net →
      Solves net (old_state net past) ins (passed past now) new → Midway net m Stands now (meets m (begins now ins) s) (last now new)
  begins_midway keeps latest s past new ins now rest later small count solves =
      let e = rest.early in
      record {
        code = rest.code;
        from = m.begin now ins s.cells;
        runs = keeps.scan (old_state net past) new ins (last_time past) now (passed past now) s.cells (omega arith) small count (passes_since net past now) rest.stands solves;
        at = refl;
        count = omega arith;
        early = omega arith;
      }

  -- the channel has ended exactly where it made the turns of its run
  not_ended : (latest : ℕ) (s : Channel_state) (past : Past) → (mid : Midway net m Stands latest s past) → s.turns < mid.runs.turns → ended m s ≡ false
  not_ended latest s past mid low =
      let p : m.progress s.cells ≡ Running = ap m.progress mid.at ∙ mid.runs.runs.running s.turns low in
      let few = mid.runs.within in
      ap (λ q. not (is_running q) || nat_le m.budget s.turns) p ∙ lt-leb m.budget s.turns (omega arith)

  is_done : (latest : ℕ) (s : Channel_state) (past : Past) → (mid : Midway net m Stands latest s past) → mid.runs.turns ≤ s.turns → m.progress s.cells ≡ Done
  is_done latest s past mid high =
      let all : s.turns ≡ mid.runs.turns = omega (arith, mid.count) in
      ap m.progress mid.at ∙ ap (λ k. m.progress (turned (m.turn m.image) k mid.from)) all ∙ mid.runs.runs.done

  pub turns_left : (latest : ℕ) (s : Channel_state) (past : Past) → (mid : Midway net m Stands latest s past) → ended m s ≡ false → s.turns < mid.runs.turns
  turns_left latest s past mid h =
      elim (cases_lt s.turns mid.runs.turns) [
        | inl low ↦ low
        | inr high ↦
            let e : ended m s ≡ true = ap (λ q. not (is_running q) || nat_le m.budget s.turns) (is_done latest s past mid high) in
            absurd cc
      ]

  pub all_turns : (latest : ℕ) (s : Channel_state) (past : Past) → (mid : Midway net m Stands latest s past) → ended m s ≡ true → s.turns ≡ mid.runs.turns
  all_turns latest s past mid h =
      elim (cases_lt s.turns mid.runs.turns) [
        | inl low ↦ let e = not_ended latest s past mid low in absurd cc
        | inr high ↦ omega (arith, mid.count)
      ]

  pub turn_goes_on : (latest : ℕ) (s : Channel_state) (past : Past) → Midway net m Stands latest s past → ended m s ≡ false → Midway net m Stands latest (meets m makes_turn s) past
  turn_goes_on latest s past mid h =
      let low = turns_left latest s past mid h in
      let one : s.turns + 1 ≡ suc s.turns = omega arith in
      record {
        code = mid.code;
        from = mid.from;
        runs = mid.runs;
        at = ap (λ c. m.turn c s.cells) mid.code ∙ ap (m.turn m.image) mid.at ∙ sym (turned_next (m.turn m.image) s.turns mid.from) ∙ ap (λ k. turned (m.turn m.image) k mid.from) (sym one);
        count = omega arith;
        early = mid.early;
      }

  -- where a scan has ended, the channel is done and at rest, and its cells hold the report of the meaning
  pub record Over (latest : ℕ) (s : Channel_state) (past : Past) : Type 0 where
    pub rest : AtRest net m Stands latest s past
    pub done : m.progress s.cells ≡ Done
    pub reports : m.report s.cells ≡ Some (report net (old_state net past))

  pub scan_over : (latest : ℕ) (s : Channel_state) (past : Past) → Midway net m Stands latest s past → ended m s ≡ true → Over latest s past
  scan_over latest s past mid h =
      let all = all_turns latest s past mid h in
      let at : s.cells ≡ turned (m.turn m.image) mid.runs.turns mid.from = mid.at ∙ ap (λ k. turned (m.turn m.image) k mid.from) all in
      record {
        rest = record { code = mid.code; stands = subst (Stands (old_state net past) (last_time past)) (sym at) mid.runs.runs.stands; early = mid.early };
        done = ap m.progress at ∙ mid.runs.runs.done;
        reports = ap m.report at ∙ mid.runs.runs.reports;
      }

  -- a scan that has ended leaves the channel at rest as it closes
  pub closes_at_rest : (latest : ℕ) (s : Channel_state) (past : Past) → Midway net m Stands latest s past → ended m s ≡ true → AtRest net m Stands latest (meets m closes s) past
  closes_at_rest latest s past mid h = (scan_over latest s past mid h).rest

  -- a channel at its start, or after a restart, is at rest
  pub restarts_at_rest : Keeps net m Stands → (latest : ℕ) (s : Channel_state) → AtRest net m Stands latest (meets m restarts s) nothing
  restarts_at_rest keeps latest s = record { code = refl; stands = keeps.blank; early = omega arith }

  -- so is one that was given cells that stand for the state of the last scan, wherever it stood
  pub remade_at_rest : (latest : ℕ) (s : Channel_state) (past : Past) (cells : List ℕ) → Stands (old_state net past) (last_time past) cells → last_time past ≤ latest →
      AtRest net m Stands latest (meets m (is_remade cells) s) past
  remade_at_rest latest s past cells stands early = record { code = refl; stands = stands; early = early }
