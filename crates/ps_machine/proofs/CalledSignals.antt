-- The signals after a call: its outputs, and all others as before.
use Rattle.std.proofs.Common.{◌≡◌, ℕ, ◌+◌, ◌-◌, ◌<◌, ◌≤◌, Bool, false, cond, List, ap, ◌∙◌}
use Rattle.std.specs.Prelude.{slice_index_or, nat_le, nat_lt, ◌&&◌}
use Rattle.std.proofs.lemmas.Bool.{cond-true, cond-false, lt-leb, le-leb, lt-ltb, le-ltb}

-- so many outputs, whose signals begin with signal o
abbrev pub called_signals : (o count : ℕ) → List Bool → (ℕ → Bool) → ℕ → Bool
called_signals o count outs v s = cond (nat_le o s && nat_lt s (o + count)) (slice_index_or outs (s - o) false) (v s)

pub signal_inside : (o count : ℕ) (outs : List Bool) (v : ℕ → Bool) (s : ℕ) → o ≤ s → s < o + count → called_signals o count outs v s ≡ slice_index_or outs (s - o) false
signal_inside o count outs v s low high =
    cond-true (nat_le o s && nat_lt s (o + count)) (slice_index_or outs (s - o) false) (v s)
    (ap (λ b. b && nat_lt s (o + count)) (le-leb o s low) ∙ lt-ltb s (o + count) high)

pub signal_before : (o count : ℕ) (outs : List Bool) (v : ℕ → Bool) (s : ℕ) → s < o → called_signals o count outs v s ≡ v s
signal_before o count outs v s low =
    cond-false (nat_le o s && nat_lt s (o + count)) (slice_index_or outs (s - o) false) (v s)
    (ap (λ b. b && nat_lt s (o + count)) (lt-leb o s low))

pub signal_past : (o count : ℕ) (outs : List Bool) (v : ℕ → Bool) (s : ℕ) → o ≤ s → o + count ≤ s → called_signals o count outs v s ≡ v s
signal_past o count outs v s low high =
    cond-false (nat_le o s && nat_lt s (o + count)) (slice_index_or outs (s - o) false) (v s)
    (ap (λ b. b && nat_lt s (o + count)) (le-leb o s low) ∙ le-ltb s (o + count) high)
