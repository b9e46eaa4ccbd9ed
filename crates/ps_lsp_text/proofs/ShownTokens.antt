-- Which tokens a text shows.
use Rattle.std.proofs.Common.{◌≡◌, ℕ, ◌≤◌, List, [], length, take, Result, Ok, Err, IfOk, inl, inr, refl, ap, sym, ◌∙◌, subst, arith, length-take-le}
use Rattle.ps_base.specs.declared.failing.Fail.{Fail}
use Rattle.ps_base.specs.declared.failing.Fail.TheVariants.{Refused, Memory as NoMemory}
use Rattle.ps_base.specs.declared.failing.Memory.{Memory}
use Rattle.ps_base.specs.declared.failing.Refusal.{Refusal}
use Rattle.ps_base.specs.declared.limits.TheConstants.{LARGEST_SOURCE}
use Rattle.ps_lexer.specs.declared.token.Token.{Token}
use Rattle.ps_lexer.specs.declared.token.Tokens.{Tokens}
use Rattle.ps_lexer.specs.Gaps.{place_after}
use Rattle.ps_lexer.specs.Reading.{Reads, nothing, IsRefused, tokens}
use Rattle.ps_lexer.proofs.Meeting.{one_list, refused_not_read}
use Rattle.ps_lsp_text.specs.Looking.{AreSeen}
use Rattle.ps_lsp_text.specs.Pieces.{AreTokens, AreTokensOf}
use Rattle.ps_lsp_text.proofs.Prefixes.{reads_within, reads_cut}

-- the tokens of a text that no rule refuses are shown
pub shown_whole : (text : List ℕ) (given : Result Tokens Fail) (t : Tokens) (list : List Token) → given ≡ Ok t → t.list ≡ list →
    tokens text given → AreSeen text list
shown_whole text given t list is same lexed =
    let read = subst (tokens text) is lexed in
    record { upto = length text; read = subst (λ (ts : List Token). Reads text 0 ts (length text)) same read.1; ends = inr (read.0, inl refl) }

-- what is known of the tokens of a piece
abbrev pub AreOf : (piece : List ℕ) → List Token → Type 0
AreOf piece list = (others : List Token) → length piece ≤ LARGEST_SOURCE → Reads piece 0 others (length piece) → list ≡ others

are_of : (piece : List ℕ) (list : List Token) → AreTokensOf piece list → AreOf piece list
are_of piece list are = by are.0 are.1 are.2
  where
    by : (given : Result Tokens Fail) → tokens piece given → AreTokens given list → AreOf piece list
    by (Ok t) lexed is = λ others small read. is ∙ one_list piece t.list others lexed.1 read
    by (Err (Refused refusal)) lexed is = λ others small read. absurd (refused_not_read piece refusal others lexed small read)
    by (Err NoMemory) lexed is = absurd is

-- the tokens of a text before the place at which it is refused are shown
shown_before : (text : List ℕ) (refusal : Refusal) (n : ℕ) (list : List Token) → IsRefused text refusal →
    ((at : ℕ) → at ≤ length text → place_after (take at text) ≡ refusal.place → n ≡ at) → AreOf (take n text) list → AreSeen text list
shown_before text refusal n list (inl large) found of =
    let place = ap (λ (r : Refusal). r.place) (sym large.1) in
    let begin : n ≡ 0 = found 0 (omega arith) place in
    let known : AreOf [] list = subst (λ (k : ℕ). AreOf (take k text) list) begin of in
    let empty : list ≡ [] = known [] (omega arith) nothing in
    record { upto = 0; read = subst (λ (ts : List Token). Reads text 0 ts 0) (sym empty) nothing; ends = inl (large.0, refl) }
shown_before text refusal n list (inr small) found of =
    let first = small.1 in
    let inside : first.at ≤ length text = reads_within first.read (omega arith) in
    let end : n ≡ first.at = found first.at inside (sym first.place) in
    let known : AreOf (take first.at text) list = subst (λ (k : ℕ). AreOf (take k text) list) end of in
    let size : length (take first.at text) ≡ first.at = length-take-le first.at text inside in
    let cut : Reads (take first.at text) 0 first.before (length (take first.at text)) =
    subst (λ (k : ℕ). Reads (take first.at text) 0 first.before k) (sym size) (reads_cut text first.at inside first.read (omega arith)) in
    let few = small.0 in
    let same : list ≡ first.before = known first.before (omega arith) cut in
    record {
      upto = first.at;
      read = subst (λ (ts : List Token). Reads text 0 ts first.at) (sym same) first.read;
      ends = inr (small.0, inr (refusal.rule, first.breaks));
    }

pub shown_refused : (text : List ℕ) (given : Result Tokens Fail) (refusal : Refusal) (n : ℕ) (result : Result (List Token) Memory) → given ≡ Err (Refused refusal) →
    tokens text given → ((at : ℕ) → at ≤ length text → place_after (take at text) ≡ refusal.place → n ≡ at) → IfOk result (AreTokensOf (take n text)) →
    IfOk result (AreSeen text)
shown_refused text given refusal n (Ok list) is lexed found of = shown_before text refusal n list (subst (tokens text) is lexed) found (are_of (take n text) list of)
shown_refused text given refusal n (Err failed) is lexed found of = tt
