-- The certificate of an accepted application derives it.
use Rattle.std.proofs.Common.{◌≡◌, ℕ, suc, zero, ◌+◌, ◌-◌, ◌≤◌, ◌<◌, true, List, [], ◌∷◌, ◌++◌, length, Some, sym, ap, ◌∙◌, refl, subst, ⊎_elim, arith, append_assoc, append-nil, length-append, ◌&&◌, ◌||◌}
use Rattle.std.specs.Prelude.{slice_get, slice_index_or, nat_le, ◌==◌}
use Rattle.std.specs.List.{list_any, list_all}
use Rattle.std.proofs.lemmas.Bool.{false≢true, cases_Bool, or_left, or_right, and_parts, and_from, cond-true, cond-false, eq-eqb, le-leb}
use Rattle.std.proofs.lemmas.Option.{slice_get_within}
use borrow.Author.Tests.{leb-true}
use Rattle.ps_model.specs.Formula.{Formula, Formulas, signal, all_of, any_of, no_operand, operand}
use Rattle.ps_model.specs.Network.{Network}
use Rattle.ps_model.specs.Typing.{safe, some_safe, each_safe}
use Rattle.ps_model.specs.Nodes.{nodes, nodes_below, app_nodes, operand_places}
use Rattle.ps_flow.specs.declared.certificate.CertLine.{CertLine}
use Rattle.ps_flow.specs.declared.certificate.LineRule.{LineRule}
use Rattle.ps_flow.specs.declared.certificate.LineRule.TheVariants.{Src, And, Or}
use Rattle.ps_flow.specs.Derivation.{line, derivation, of_first_safe, of_each, last_lines}
use Rattle.ps_model.specs.Standing.{StandsAt}
use Rattle.ps_checker.specs.Derives.{IsInstance, is_earlier, spoken, speak_of, speaks_of_one, fits}
use Rattle.ps_model.proofs.NodePlaces.{in_either, first_stands, rest_stands}
use Rattle.ps_checker.proofs.Left.{root_at}
use Rattle.ps_checker.proofs.Sound.{operands_stand}

-- what lines say is read_before when more are written
pub spoken_kept : (lines more : List CertLine) (p : ℕ) → 1 ≤ p → p ≤ length lines → spoken (lines ++ more) p ≡ spoken lines p
spoken_kept lines more p low high = ap (λ (l : CertLine). l.node) (read_before lines (p - 1) (omega arith))
  where
    read_before : (xs : List CertLine) (k : ℕ) → k < length xs → slice_index_or (xs ++ more) k (line 0 Src []) ≡ slice_index_or xs k (line 0 Src [])
    read_before [] k h = absurd (omega arith)
    read_before (x ∷ xs) zero h = refl
    read_before (x ∷ xs) (suc k) h = read_before xs k (omega arith)

module _ (net : Network) (lines more : List CertLine) where
  speak_kept : (i : ℕ) → i ≤ length lines → (ps places : List ℕ) → list_all (is_earlier i) ps ≡ true → speak_of (lines ++ more) ps places ≡ speak_of lines ps places
  speak_kept i h [] [] ok = refl
  speak_kept i h [] (m ∷ ms) ok = refl
  speak_kept i h (p ∷ ps) [] ok = refl
  speak_kept i h (p ∷ ps) (m ∷ ms) ok =
      let both = and_parts (is_earlier i p) (list_all (is_earlier i) ps) ok in
      let parts = and_parts (nat_le 1 p) (nat_le p i) both.0 in
      let low : 1 ≤ p = leb-true 1 p parts.0 in
      let high : p ≤ i = leb-true p i parts.1 in
      ap (λ x. (x == m) && speak_of (lines ++ more) ps ms) (spoken_kept lines more p low (omega arith))
      ∙ ap (λ b. (spoken lines p == m) && b) (speak_kept i h ps ms both.1)

  one_kept : (i : ℕ) → i ≤ length lines → (ps places : List ℕ) → list_all (is_earlier i) ps ≡ true → speaks_of_one (lines ++ more) ps places ≡ speaks_of_one lines ps places
  one_kept i h [] places ok = refl
  one_kept i h (p ∷ []) places ok =
      let parts = and_parts (nat_le 1 p) (nat_le p i) (and_parts (is_earlier i p) true ok).0 in
      let low : 1 ≤ p = leb-true 1 p parts.0 in
      let high : p ≤ i = leb-true p i parts.1 in
      ap (λ x. list_any (λ m. m == x) places) (spoken_kept lines more p low (omega arith))
  one_kept i h (p ∷ q ∷ ps) places ok = refl

  fits_kept : (i : ℕ) → i ≤ length lines → (rule : LineRule) (ps : List ℕ) (n : ℕ) (e : Formula) → list_all (is_earlier i) ps ≡ true →
      fits net (lines ++ more) rule ps n e ≡ fits net lines rule ps n e
  fits_kept i h Src [] n (signal s) ok = refl
  fits_kept i h Src [] n (all_of es) ok = refl
  fits_kept i h Src [] n (any_of es) ok = refl
  fits_kept i h Src (p ∷ ps) n e ok = refl
  fits_kept i h And ps n (signal s) ok = refl
  fits_kept i h And ps n (all_of es) ok = one_kept i h ps (operand_places n es) ok
  fits_kept i h And ps n (any_of es) ok = refl
  fits_kept i h Or ps n (signal s) ok = refl
  fits_kept i h Or ps n (all_of es) ok = refl
  fits_kept i h Or ps n (any_of es) ok = speak_kept i h ps (operand_places n es) ok

-- each line is an instance
pub record AllFine (net : Network) (lines : List CertLine) : Type 0 where
  pub each : (i : ℕ) (l : CertLine) → slice_get lines i ≡ Some l → IsInstance net lines i l

module _ (net : Network) where
  pub one_more : (lines : List CertLine) (l : CertLine) (e : Formula) → AllFine net lines → slice_get (app_nodes net) l.node ≡ Some e →
      list_all (is_earlier (length lines)) l.premises ≡ true → fits net lines l.rule l.premises (l.node + 1) e ≡ true → AllFine net (lines ++ l ∷ [])
  one_more lines l e fine exists early fit = record {
    each = λ i x at.
        ⊎_elim
        (λ old.
        let ok = fine.each i x old in
        let inside : i < length lines = slice_get_within lines i x old in
        record {
          node = ok.node;
          exists = ok.exists;
          earlier = ok.earlier;
          rule = fits_kept net lines (l ∷ []) i (omega arith) x.rule x.premises (x.node + 1) ok.node ok.earlier ∙ ok.rule;
        })
        (λ new. last i x new.0 new.1 new.2)
        (in_either lines (l ∷ []) i x at);
  }
    where
      last : (i : ℕ) (x : CertLine) (j : ℕ) → i ≡ length lines + j → slice_get (l ∷ []) j ≡ Some x → IsInstance net (lines ++ l ∷ []) i x
      last i x zero e at =
          let same : l ≡ x = cc in
          let place : length lines ≡ i = omega arith in
          subst (λ k. IsInstance net (lines ++ l ∷ []) k x) place
          (subst (IsInstance net (lines ++ l ∷ []) (length lines)) same
          (record {
            node = _;
            exists = exists;
            earlier = early;
            rule = fits_kept net lines (l ∷ []) (length lines) (omega arith) l.rule l.premises (l.node + 1) _ early ∙ fit;
          }))
      last i x (suc j) e at = cc

pub spoken_last : (xs : List CertLine) (l : CertLine) (p : ℕ) → p ≡ length xs + 1 → spoken (xs ++ l ∷ []) p ≡ l.node
spoken_last xs l p e =
    let k : p - 1 ≡ length xs = omega arith in
    ap (λ j. (slice_index_or (xs ++ l ∷ []) j (line 0 Src [])).node) k ∙ ap (λ (y : CertLine). y.node) (at_end xs)
  where
    at_end : (xs : List CertLine) → slice_index_or (xs ++ l ∷ []) (length xs) (line 0 Src []) ≡ l
    at_end [] = refl
    at_end (x ∷ xs) = at_end xs

early_last : (i p : ℕ) → 1 ≤ p → p ≤ i → is_earlier i p ≡ true
early_last i p low high = and_from (nat_le 1 p) (nat_le p i) (le-leb 1 p low) (le-leb p i high)

-- these lines are fine, and the last of them speaks of node n
pub record Done (net : Network) (lines : List CertLine) (last n : ℕ) : Type 0 where
  pub fine : AllFine net lines
  pub speaks : spoken lines last ≡ n
  pub low : 1 ≤ last
  pub all : last ≡ length lines

pub record DoneFirst (net : Network) (lines : List CertLine) (last : ℕ) (places : List ℕ) : Type 0 where
  pub fine : AllFine net lines
  pub one : list_any (λ m. m == spoken lines last) places ≡ true
  pub low : 1 ≤ last
  pub all : last ≡ length lines

pub record DoneEach (net : Network) (lines : List CertLine) (premises places : List ℕ) : Type 0 where
  pub fine : AllFine net lines
  pub speak : speak_of lines premises places ≡ true
  pub early : list_all (is_earlier (length lines)) premises ≡ true

module _ (net : Network) where
  -- the line of a node, after those of its operands
  line_done : (lines : List CertLine) (l : CertLine) (e : Formula) (last : ℕ) → AllFine net lines → slice_get (app_nodes net) l.node ≡ Some e →
      list_all (is_earlier (length lines)) l.premises ≡ true → fits net lines l.rule l.premises (l.node + 1) e ≡ true → last ≡ length lines + 1 →
      Done net (lines ++ l ∷ []) last l.node
  line_done lines l e last fine exists early fit is = record {
    fine = one_more net lines l e fine exists early fit;
    speaks = spoken_last lines l last is;
    low = omega arith;
    all = let n : length (lines ++ l ∷ []) ≡ length lines + 1 = length-append lines (l ∷ []) in omega arith;
  }

  mutual
    pub derivation_done : (before : List CertLine) (b n : ℕ) (e : Formula) → b ≡ length before → safe net e ≡ true → StandsAt (app_nodes net) n (nodes e) → AllFine net before →
        Done net (before ++ derivation net b n e) (b + length (derivation net b n e)) n
    derivation_done before b n (signal s) is holds_safe stands fine =
        line_done before (line n Src []) (signal s) (b + 1) fine (root_at (app_nodes net) n (signal s) stands) refl holds_safe (omega arith)
    derivation_done before b n (all_of es) is holds_safe stands fine =
        let f = of_first_safe net b (n + 1) es in
        let x = first_safe_done before b (n + 1) es is holds_safe (operands_stand net [] n (all_of es) es refl stands) fine in
        let l = line n And ((b + length f) ∷ []) in
        let low = x.low in
        let all = x.all in
        let long : length (f ++ l ∷ []) ≡ length f + 1 = length-append f (l ∷ []) in
        subst (λ z. Done net z (b + length (f ++ l ∷ [])) n) (append_assoc before f (l ∷ []))
        (line_done (before ++ f) l (all_of es) (b + length (f ++ l ∷ [])) x.fine (root_at (app_nodes net) n (all_of es) stands)
        (and_from (is_earlier (length (before ++ f)) (b + length f)) true (early_last (length (before ++ f)) (b + length f) low (omega arith)) refl)
        x.one (omega arith))
    derivation_done before b n (any_of es) is holds_safe stands fine =
        let f = of_each net b (n + 1) es in
        let x = each_done before b (n + 1) es is holds_safe (operands_stand net [] n (any_of es) es refl stands) fine in
        let l = line n Or (last_lines net b (n + 1) es) in
        let long : length (f ++ l ∷ []) ≡ length f + 1 = length-append f (l ∷ []) in
        let whole : length (before ++ f) ≡ length before + length f = length-append before f in
        subst (λ z. Done net z (b + length (f ++ l ∷ [])) n) (append_assoc before f (l ∷ []))
        (line_done (before ++ f) l (any_of es) (b + length (f ++ l ∷ [])) x.fine (root_at (app_nodes net) n (any_of es) stands) x.early x.speak (omega arith))

    first_safe_done : (before : List CertLine) (b n : ℕ) (es : Formulas) → b ≡ length before → some_safe net es ≡ true → StandsAt (app_nodes net) n (nodes_below es) → AllFine net before →
        DoneFirst net (before ++ of_first_safe net b n es) (b + length (of_first_safe net b n es)) (operand_places n es)
    first_safe_done before b n no_operand is holds_safe stands fine = absurd (false≢true holds_safe)
    first_safe_done before b n (operand e es) is holds_safe stands fine =
        ⊎_elim
        (λ here. subst (λ d. DoneFirst net (before ++ d) (b + length d) (operand_places n (operand e es)))
        (sym (cond-true (safe net e) (derivation net b n e) (of_first_safe net b (n + length (nodes e)) es) here))
        (let x = derivation_done before b n e is here (first_stands (app_nodes net) n (nodes e) (nodes_below es) stands) fine in
        record {
          fine = x.fine;
          one = or_left (n == spoken (before ++ derivation net b n e) (b + length (derivation net b n e))) _ (eq-eqb n _ (sym x.speaks));
          low = x.low;
          all = x.all;
        }))
        (λ other. subst (λ d. DoneFirst net (before ++ d) (b + length d) (operand_places n (operand e es)))
        (sym (cond-false (safe net e) (derivation net b n e) (of_first_safe net b (n + length (nodes e)) es) other))
        (let x = first_safe_done before b (n + length (nodes e)) es is (sym (ap (λ y. y || some_safe net es) other) ∙ holds_safe)
        (rest_stands (app_nodes net) n (n + length (nodes e)) (nodes e) (nodes_below es) refl stands) fine in
        record {
          fine = x.fine;
          one = or_right (n == spoken (before ++ of_first_safe net b (n + length (nodes e)) es) (b + length (of_first_safe net b (n + length (nodes e)) es))) _ x.one;
          low = x.low;
          all = x.all;
        }))
        (cases_Bool (safe net e))

    each_done : (before : List CertLine) (b n : ℕ) (es : Formulas) → b ≡ length before → each_safe net es ≡ true → StandsAt (app_nodes net) n (nodes_below es) → AllFine net before →
        DoneEach net (before ++ of_each net b n es) (last_lines net b n es) (operand_places n es)
    each_done before b n no_operand is holds_safe stands fine = record { fine = subst (AllFine net) (sym (append-nil before)) fine; speak = refl; early = refl }
    each_done before b n (operand e es) is holds_safe stands fine =
        let both = and_parts (safe net e) (each_safe net es) holds_safe in
        let d = derivation net b n e in
        let more = of_each net (b + length d) (n + length (nodes e)) es in
        let ps = last_lines net (b + length d) (n + length (nodes e)) es in
        let places = operand_places (n + length (nodes e)) es in
        let x = derivation_done before b n e is both.0 (first_stands (app_nodes net) n (nodes e) (nodes_below es) stands) fine in
        let y = each_done (before ++ d) (b + length d) (n + length (nodes e)) es x.all both.1
        (rest_stands (app_nodes net) n (n + length (nodes e)) (nodes e) (nodes_below es) refl stands) x.fine in
        let low = x.low in
        let all = x.all in
        let long : length ((before ++ d) ++ more) ≡ length (before ++ d) + length more = length-append (before ++ d) more in
        subst (λ z. DoneEach net z ((b + length d) ∷ ps) (n ∷ places)) (append_assoc before d more)
        (record {
          fine = y.fine;
          speak = and_from (spoken ((before ++ d) ++ more) (b + length d) == n) (speak_of ((before ++ d) ++ more) ps places)
              (eq-eqb (spoken ((before ++ d) ++ more) (b + length d)) n (spoken_kept (before ++ d) more (b + length d) low (omega arith) ∙ x.speaks)) y.speak;
          early = and_from (is_earlier (length ((before ++ d) ++ more)) (b + length d)) (list_all (is_earlier (length ((before ++ d) ++ more))) ps)
              (early_last (length ((before ++ d) ++ more)) (b + length d) low (omega arith)) y.early;
        })
