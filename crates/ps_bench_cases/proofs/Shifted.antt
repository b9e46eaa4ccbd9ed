-- Blocks know differences of times alone, and nothing of what stands before a restart.
use Rattle.std.proofs.Common.{◌≡◌, ◌+◌, ◌-◌, ◌++◌, ℕ, Bool, List, [], ◌∷◌, flat_map, refl, sym, subst, arith}
use Rattle.std.specs.List.{AllByRecursion}
use Rattle.std.proofs.lemmas.List.{append-nil}
use Rattle.ps_model.specs.Meaning.{Item, After, Leaves, left_by, passed}
use Rattle.ps_model.specs.Meaning.Item.{scan, restart}
use Rattle.ps_model.specs.Meaning.After.{nothing, last}
use Rattle.ps_model.specs.Network.{Network, input_count}
use Rattle.ps_bench_cases.specs.declared.case.Case.{Case}
use Rattle.ps_bench_cases.specs.declared.case.Statement.{Statement}
use Rattle.ps_bench_cases.specs.Meant.{items_of}
use Rattle.ps_bench_cases.specs.Expanded.{end_point}
use Rattle.ps_bench_cases.specs.Joined.{later, later_past, joined}

module _ {W : Type 0} (first : W) (Scan : W → List Bool → ℕ → W → Type 0) where
  -- the same scan, so much later
  scan_later : (by : ℕ) (past : After W) (now : ℕ) (ins : List Bool) (w : W) → Scan (left_by first past) ins (passed past now) w →
      Scan (left_by first (later_past by past)) ins (passed (later_past by past) (now + by)) w
  scan_later by nothing now ins w scans = scans
  scan_later by (last before v) now ins w scans =
      let same : now - before ≡ now + by - (before + by) = omega arith in
      subst (λ (n : ℕ). Scan v ins n w) same scans

  -- what items leave they leave so much later
  pub leaves_later : (by : ℕ) (items : List Item) (past : After W) (ws : List W) → Leaves first Scan past items ws → Leaves first Scan (later_past by past) (later by items) ws
  leaves_later by [] past ws leaves = leaves
  leaves_later by (restart ∷ items) past ws leaves = leaves_later by items nothing ws leaves
  leaves_later by (scan now ins ∷ items) past [] leaves = leaves
  leaves_later by (scan now ins ∷ items) past (w ∷ ws) leaves = (scan_later by past now ins w leaves.0, leaves_later by items (last now w) ws leaves.1)

  -- items after a restart leave what they leave alone
  pub leaves_behind : (items more : List Item) (past : After W) (ws vs : List W) → Leaves first Scan past items ws → Leaves first Scan nothing more vs →
      Leaves first Scan past (items ++ restart ∷ more) (ws ++ vs)
  leaves_behind [] more past ws vs leaves behind = subst (λ (us : List W). Leaves first Scan nothing more (us ++ vs)) (sym leaves) behind
  leaves_behind (restart ∷ items) more past ws vs leaves behind = leaves_behind items more nothing ws vs leaves behind
  leaves_behind (scan now ins ∷ items) more past [] vs leaves behind = absurd leaves
  leaves_behind (scan now ins ∷ items) more past (w ∷ ws) vs leaves behind = (leaves.0, leaves_behind items more (last now w) ws vs leaves.1 behind)

module _ (net : Network) (begin : List Statement) {W : Type 0} (first : W) (Scan : W → List Bool → ℕ → W → Type 0) (left : Case → List W) where
  -- what a case leaves alone
  abbrev pub LeavesAlone : Case → Type 0
  LeavesAlone c = Leaves first Scan nothing (items_of net (begin ++ c.statements)) (left c)

  -- so do cases, each after a restart, after other items
  cases_behind : (items : List Item) (past : After W) (ws : List W) (base : ℕ) (cases : List Case) → Leaves first Scan past items ws → AllByRecursion LeavesAlone cases →
      Leaves first Scan past (items ++ joined net begin (restart ∷ []) base cases) (ws ++ flat_map left cases)
  cases_behind items past ws base [] leaves each =
      subst (λ (is : List Item). Leaves first Scan past is (ws ++ [])) (sym (append-nil items)) (subst (λ (us : List W). Leaves first Scan past items us) (sym (append-nil ws)) leaves)
  cases_behind items past ws base (c ∷ cases) leaves each =
      let own = items_of net (begin ++ c.statements) in
      let next = base + (end_point (input_count net) base (begin ++ c.statements)).time in
      leaves_behind first Scan items (later base own ++ joined net begin (restart ∷ []) next cases) past ws (left c ++ flat_map left cases) leaves
      (cases_behind (later base own) nothing (left c) next cases (leaves_later first Scan base own nothing (left c) each.0) each.1)

  -- all cases in one trace leave what each leaves alone
  pub joined_leave : (base : ℕ) (cases : List Case) → AllByRecursion LeavesAlone cases → Leaves first Scan nothing (joined net begin [] base cases) (flat_map left cases)
  joined_leave base [] each = refl
  joined_leave base (c ∷ cases) each =
      let own = items_of net (begin ++ c.statements) in
      cases_behind (later base own) nothing (left c) (base + (end_point (input_count net) base (begin ++ c.statements)).time) cases (leaves_later first Scan base own nothing (left c) each.0) each.1
