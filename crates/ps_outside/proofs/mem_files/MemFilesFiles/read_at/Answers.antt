use Rattle.std.proofs.Common.{◌≡◌, ◌≢◌, ℕ, List, arith, inl}
use Rattle.std.proofs.lemmas.Map.Text.{text_keys}
use Rattle.ps_outside.specs.HeldFiles.{held_in}
use Rattle.ps_outside.proofs.mem_files.MemFilesFiles.read_at.Goals as goal

pub returns-then-chosen-clause-stays : goal.returns-then-chosen-clause-stays
returns-then-chosen-clause-stays c = λ other apart.
    let differs : c.args.name.now ≢ other = λ same. apart (inl same) in
    grind (arith, text_keys)

pub returns-then-chosen-clause-counts : goal.returns-then-chosen-clause-counts
returns-then-chosen-clause-counts c = λ other. grind (arith, text_keys)

pub returns-then-chosen-clause-kept : goal.returns-then-chosen-clause-kept
returns-then-chosen-clause-kept c =
    let same : (other : List ℕ) → held_in (c.get_mut.follows.lender record { bytes = c.in-Some.file.now.bytes; faults = c.saturating_add-file.result }) other ≡ held_in c.args.self.now.files other = λ other. grind (arith, text_keys) in
    λ i. λ other. same other i

pub returns-else-chosen-clause-counts : goal.returns-else-chosen-clause-counts
returns-else-chosen-clause-counts c = λ other. grind (arith, text_keys)

pub returns-else-chosen-clause-exact : goal.returns-else-chosen-clause-exact
returns-else-chosen-clause-exact c = λ other. grind (arith, text_keys)

pub returns-else-chosen-clause-kept : goal.returns-else-chosen-clause-kept
returns-else-chosen-clause-kept c =
    let same : (other : List ℕ) → held_in (c.get_mut.follows.lender c.in-Some.file.now) other ≡ held_in c.args.self.now.files other = λ other. grind (arith, text_keys) in
    λ i. λ other. same other i
