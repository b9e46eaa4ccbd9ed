-- Walking over the operands of a node by the sizes of their nodes.
use Rattle.std.proofs.Common.{◌≡◌, ℕ, suc, zero, ◌-◌, ◌+◌, ◌≤◌, ◌<◌, true, false, List, [], ◌∷◌, length, get_or, Some, sym, ap, ◌∙◌, refl, subst, arith, length-append, ◌&&◌}
use Rattle.std.specs.Prelude.{slice_get, ◌==◌, nat_le}
use borrow.Author.Tests.{leb-true}
use Rattle.ps_flow.specs.declared.certificate.LineRule.TheVariants.{Src}
use Rattle.ps_flow.specs.Derivation.{line}
use Rattle.std.specs.List.{list_all}
use Rattle.std.proofs.lemmas.Bool.{and_parts, and_from, eq-eqb, ne_eqb, le-leb}
use Rattle.ps_model.specs.declared.node.Node.{Node}
use Rattle.ps_model.specs.Formula.{Formula, Formulas, signal, all_of, any_of, no_operand, operand}
use Rattle.ps_model.specs.Nodes.{nodes, nodes_below, operand_places}
use Rattle.ps_model.specs.NodeList.{listed_at, listed_below}
use Rattle.ps_flow.specs.declared.certificate.CertLine.{CertLine}
use Rattle.ps_model.specs.Standing.{StandsAt}
use Rattle.ps_checker.specs.Derives.{spoken, speak_of, is_earlier}
use Rattle.ps_model.proofs.NodePlaces.{stands_found, first_stands, rest_stands}
use Rattle.ps_checker.proofs.RowPlaces.{some_nodes, length-rows_at, first_row}

pub root_at : (all : List Formula) (n : ℕ) (e : Formula) → StandsAt all n (nodes e) → slice_get all n ≡ Some e
root_at all n (signal x) r = stands_found all n (signal x) [] r
root_at all n (all_of fs) r = stands_found all n (all_of fs) (nodes_below fs) r
root_at all n (any_of fs) r = stands_found all n (any_of fs) (nodes_below fs) r

pub or_same : {X : Type 0} (xs : List X) (k : ℕ) (d e : X) → k < length xs → get_or xs k d ≡ get_or xs k e
or_same [] k d e h = absurd (omega arith)
or_same (x ∷ xs) zero d e h = refl
or_same (x ∷ xs) (suc k) d e h = or_same xs k d e (omega arith)

-- the rows of these operands are left: they stand from m up to the end
pub record Left (rows : List Node) (depth : ℕ) (later : Formulas) (m end : ℕ) : Type 0 where
  pub stands : StandsAt rows m (listed_below depth later)
  pub up_to : end ≡ m + length (nodes_below later)

-- the one at m, and those after it
pub next_left : (rows : List Node) (depth : ℕ) (e : Formula) (later : Formulas) (m end : ℕ) → Left rows depth (operand e later) m end → Left rows depth later (m + length (nodes e)) end
next_left rows depth e later m end l = record {
  stands = rest_stands rows m (m + length (nodes e)) (listed_at depth e) (listed_below depth later) (ap (λ n. m + n) (sym (length-rows_at depth e))) l.stands;
  up_to = let u = l.up_to in omega (arith, length-append (nodes e) (nodes_below later));
}

pub here_left : (rows : List Node) (depth : ℕ) (e : Formula) (later : Formulas) (m end : ℕ) (d : Node) → Left rows depth (operand e later) m end → (get_or rows m d).size ≡ length (nodes e)
here_left rows depth e later m end d l =
    ap (λ (r : Node). r.size) (first_row rows m depth e d (first_stands rows m (listed_at depth e) (listed_below depth later) l.stands))

module _ (rows : List Node) (depth : ℕ) (lines : List CertLine) (start : ℕ) (es : Formulas) (premises : List ℕ) (end : ℕ) where
  -- those before m have their premises
  pub record SpeakLeft (m : ℕ) (rest : List ℕ) : Type 0 where
    pub later : Formulas
    pub left : Left rows depth later m end
    pub same : speak_of lines premises (operand_places start es) ≡ speak_of lines rest (operand_places m later)

  -- no operand is left for the premise, or it speaks of another node
  pub speak_past : (m : ℕ) (p : ℕ) (rest : List ℕ) → SpeakLeft m (p ∷ rest) → end ≤ m → false ≡ speak_of lines premises (operand_places start es)
  speak_past m p rest l past = go l.later l.left l.same
    where
      go : (later : Formulas) → Left rows depth later m end → speak_of lines premises (operand_places start es) ≡ speak_of lines (p ∷ rest) (operand_places m later) →
          false ≡ speak_of lines premises (operand_places start es)
      go no_operand k e = sym e
      go (operand f later) k e = absurd (let u = k.up_to in let some = some_nodes f in omega (arith, length-append (nodes f) (nodes_below later)))

  pub speak_other : (m : ℕ) (p : ℕ) (rest : List ℕ) → SpeakLeft m (p ∷ rest) → (spoken lines p ≡ m → ⊥) → false ≡ speak_of lines premises (operand_places start es)
  speak_other m p rest l other = go l.later l.same
    where
      go : (later : Formulas) → speak_of lines premises (operand_places start es) ≡ speak_of lines (p ∷ rest) (operand_places m later) →
          false ≡ speak_of lines premises (operand_places start es)
      go no_operand e = sym e
      go (operand f later) e = sym (e ∙ ap (λ b. b && speak_of lines rest (operand_places (m + length (nodes f)) later)) (ne_eqb (spoken lines p) m other))

  pub speak_next : (m : ℕ) (p : ℕ) (rest : List ℕ) (d : Node) (next : ℕ) → SpeakLeft m (p ∷ rest) → m < end → spoken lines p ≡ m →
      next ≡ m + (get_or rows m d).size → SpeakLeft next rest
  speak_next m p rest d next l inside speaks e = go l.later l.left l.same
    where
      go : (later : Formulas) → Left rows depth later m end → speak_of lines premises (operand_places start es) ≡ speak_of lines (p ∷ rest) (operand_places m later) → SpeakLeft next rest
      go no_operand k same = absurd (let u = k.up_to in omega arith)
      go (operand f later) k same =
          let step : next ≡ m + length (nodes f) = e ∙ ap (λ z. m + z) (here_left rows depth f later m end d k) in
          record {
            later = later;
            left = subst (λ z. Left rows depth later z end) (sym step) (next_left rows depth f later m end k);
            same = same ∙ ap (λ b. b && speak_of lines rest (operand_places (m + length (nodes f)) later)) (eq-eqb (spoken lines p) m speaks)
                ∙ ap (λ z. speak_of lines rest (operand_places z later)) (sym step);
          }

  -- after the premises
  pub speak_end : (m : ℕ) (rest : List ℕ) → SpeakLeft m rest → rest ≡ [] → (m == end) ≡ speak_of lines premises (operand_places start es)
  speak_end m rest l none = go l.later l.left (l.same ∙ ap (λ r. speak_of lines r (operand_places m l.later)) none)
    where
      go : (later : Formulas) → Left rows depth later m end → speak_of lines premises (operand_places start es) ≡ speak_of lines [] (operand_places m later) →
          (m == end) ≡ speak_of lines premises (operand_places start es)
      go no_operand k e = let u = k.up_to in eq-eqb m end (omega arith) ∙ sym e
      go (operand f later) k e =
          ne_eqb m end (λ same. let u = k.up_to in let some = some_nodes f in omega (arith, length-append (nodes f) (nodes_below later))) ∙ sym e

-- an earlier line, whatever stands for one that is missing
pub earlier_line : (lines : List CertLine) (p : ℕ) (d : CertLine) → is_earlier (length lines) p ≡ true → spoken lines p ≡ (get_or lines (p - 1) d).node
earlier_line lines p d ok =
    let parts = and_parts (nat_le 1 p) (nat_le p (length lines)) ok in
    let low : 1 ≤ p = leb-true 1 p parts.0 in
    let high : p ≤ length lines = leb-true p (length lines) parts.1 in
    let inside : p - 1 < length lines = omega arith in
    ap (λ (l : CertLine). l.node) (or_same lines (p - 1) (line 0 Src []) d inside)

pub earlier_more : (i n : ℕ) → i ≤ n → (ps : List ℕ) → list_all (is_earlier i) ps ≡ true → list_all (is_earlier n) ps ≡ true
earlier_more i n h [] ok = refl
earlier_more i n h (p ∷ ps) ok =
    let both = and_parts (is_earlier i p) (list_all (is_earlier i) ps) ok in
    let parts = and_parts (nat_le 1 p) (nat_le p i) both.0 in
    let high : p ≤ i = leb-true p i parts.1 in
    and_from (is_earlier n p) (list_all (is_earlier n) ps) (and_from (nat_le 1 p) (nat_le p n) parts.0 (le-leb p n (omega arith))) (earlier_more i n h ps both.1)
