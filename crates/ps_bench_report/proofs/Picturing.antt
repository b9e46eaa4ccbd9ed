-- Pictures, one below another, until all scans are shown.
use Rattle.std.proofs.Common.{◌≡◌, ◌≤◌, ◌<◌, ◌∙◌, ◌+◌, ◌++◌, ℕ, suc, min, Bool, true, false, List, [], ◌∷◌, length, map, take, drop, ⊎_elim, refl, sym, ap, subst, arith, append_assoc, append-nil, length-take}
use Rattle.std.specs.Prelude.{◌==◌}
use Rattle.std.specs.List.{flat_map}
use Rattle.std.proofs.lemmas.Bool.{cases_lt, eq-eqb, eqb-true}
use Rattle.std.proofs.lemmas.Grind.{flat_map-append}
use Rattle.std.proofs.lemmas.List.{length-drop, length-map, length_push, nil_from_length, take-append-drop}
use Rattle.ps_bench_report.specs.declared.page.Piece.{Piece}
use Rattle.ps_model.specs.Network.{Network}
use Rattle.ps_bench_report.specs.Diagram.{shown_in}
use Rattle.ps_bench_report.specs.Ground.{front_of}
use Rattle.ps_bench_report.specs.Scale.{side_by_side, stand_of, unit_of}
use Rattle.ps_bench_report.specs.Sheets.{AreDrawn, Picture, ShowsPictures, all_shown, height_of, picture_pieces}
use Rattle.ps_bench_report.specs.declared.drawing.Lane.{Lane}
use Rattle.ps_bench_report.specs.declared.scale.Scan.{Scan}
use Rattle.ps_bench_report.specs.declared.marks.Mark.{Mark}
use Rattle.ps_bench_report.specs.declared.recording.Moment.{Moment}

-- the first ones of scans are no more than there are
pub first_within : (rest : List Moment) (scans : List Scan) → shown_in scans ≡ take (length scans) rest → length scans ≤ length rest
first_within rest scans shown =
    let as_many = length-map scans (λ (s : Scan). s.moment.now) in
    let taken = length-take (length scans) rest in
    let same = ap length shown in
    omega arith

module _ (net : Network) (id : List ℕ) (marks : List Mark) (lanes : List Lane) (moments : List Moment) where
  -- so many pictures show the first scans, and the others are left
  pub record SoFar (before : List Piece) (count : ℕ) (rest : List Moment) (after : List Piece) : Type 0 where
    pub pictures : List Picture
    pub shows : all_shown pictures ++ rest ≡ moments
    pub is : after ≡ before ++ flat_map (picture_pieces net marks lanes) pictures
    pub left : count + length rest ≤ length moments
    pub count_is : length pictures ≡ count
    pub drawn : AreDrawn id marks lanes (unit_of moments) 0 moments pictures rest

  pub no_picture : (before : List Piece) → SoFar before 0 moments before
  no_picture before = record { pictures = []; shows = refl; is = sym (append-nil before); left = omega arith; count_is = refl; drawn = refl }

  -- a picture stands on its ground
  abbrev pub IsOnGround : ℕ → List Scan → List Piece → Type 0
  IsOnGround number scans front = front ≡ front_of id (min number 1000000) (height_of (length lanes)) lanes scans

  drawn_push : (unit number count : ℕ) (ms rest : List Moment) (ps : List Picture) (p : Picture) → count ≡ number + length ps →
      AreDrawn id marks lanes unit number ms ps rest → IsOnGround count p.scans p.front → map stand_of p.scans ≡ side_by_side marks unit rest →
      AreDrawn id marks lanes unit number ms (ps ++ p ∷ []) (drop (length p.scans) rest)
  drawn_push unit number count ms rest [] p is drawn front stands =
      let same : count ≡ number = omega (arith, is) in (
        front ∙ ap (λ (n : ℕ). front_of id (min n 1000000) (height_of (length lanes)) lanes p.scans) same,
        stands ∙ ap (side_by_side marks unit) (sym drawn),
        ap (drop (length p.scans)) drawn,
      )
  drawn_push unit number count ms rest (q ∷ ps) p is drawn front stands =
      (drawn.0, drawn.1, drawn_push unit (suc number) count (drop (length q.scans) ms) rest ps p (omega (arith, is)) drawn.2 front stands)

  added : (before : List Piece) (count : ℕ) (rest : List Moment) (mid after : List Piece) (front : List Piece) (scans : List Scan) →
      SoFar before count rest mid → after ≡ mid ++ picture_pieces net marks lanes (record { front = front; scans = scans }) →
      shown_in scans ≡ take (length scans) rest → 0 < length scans → IsOnGround count scans front → map stand_of scans ≡ side_by_side marks (unit_of moments) rest →
      SoFar before (count + 1) (drop (length scans) rest) after
  added before count rest mid after front scans far is shown some on stands =
      let p : Picture = record { front = front; scans = scans } in
      let n = length scans in
      let pieces = picture_pieces net marks lanes in
      record {
        pictures = far.pictures ++ p ∷ [];
        shows = ap (λ (ms : List Moment). ms ++ drop n rest) (flat_map-append (λ (q : Picture). shown_in q.scans) far.pictures (p ∷ []))
            ∙ ap (λ (ms : List Moment). (all_shown far.pictures ++ ms) ++ drop n rest) (append-nil (shown_in scans) ∙ shown)
            ∙ append_assoc (all_shown far.pictures) (take n rest) (drop n rest)
            ∙ ap (λ (ms : List Moment). all_shown far.pictures ++ ms) (take-append-drop n rest) ∙ far.shows;
        is = is ∙ ap (λ (ps : List Piece). ps ++ pieces p) far.is ∙ append_assoc before (flat_map pieces far.pictures) (pieces p)
            ∙ ap (λ (ps : List Piece). before ++ ps)
            (ap (λ (ps : List Piece). flat_map pieces far.pictures ++ ps) (sym (append-nil (pieces p))) ∙ sym (flat_map-append pieces far.pictures (p ∷ [])));
        left =
            let old = far.left in
            let less = length-drop n rest in
            let within = first_within rest scans shown in
            omega arith;
        count_is = length_push far.pictures p ∙ ap (λ (n : ℕ). n + 1) far.count_is;
        drawn = drawn_push (unit_of moments) 0 count moments rest far.pictures p (omega (arith, far.count_is)) far.drawn on stands;
      }

  -- one picture more, with the first scans of those that are left
  pub one_more : (before : List Piece) (count : ℕ) (rest : List Moment) (mid after : List Piece) (front : List Piece) (scans items : List Scan) (n : ℕ) (later : List Moment) →
      SoFar before count rest mid → after ≡ mid ++ picture_pieces net marks lanes (record { front = front; scans = scans }) → scans ≡ items →
      shown_in items ≡ take (length items) rest → (0 < length rest → 0 < length items) → 0 < length rest →
      n ≡ length scans → later ≡ drop n rest → IsOnGround count scans front → map stand_of items ≡ side_by_side marks (unit_of moments) rest →
      SoFar before (count + 1) later after
  one_more before count rest mid after front scans items n later far is same shown some left n_is later_is on stands =
      subst (λ (ms : List Moment). SoFar before (count + 1) ms after) (sym (later_is ∙ ap (λ k. drop k rest) (n_is ∙ ap length same)))
      (added before count rest mid after front items far
      (is ∙ ap (λ (ss : List Scan). mid ++ picture_pieces net marks lanes (record { front = front; scans = ss })) same) shown (some left)
      (on ∙ ap (front_of id (min count 1000000) (height_of (length lanes)) lanes) same) stands)

  pub all_done : (before : List Piece) (count : ℕ) (rest : List Moment) (after : List Piece) → SoFar before count rest after → length rest ≡ 0 →
      ShowsPictures net id marks lanes moments before after
  all_done before count rest after far none = record {
    pictures = far.pictures;
    shows = sym (append-nil (all_shown far.pictures)) ∙ ap (λ (ms : List Moment). all_shown far.pictures ++ ms) (sym (nil_from_length rest none)) ∙ far.shows;
    drawn = subst (λ (ms : List Moment). AreDrawn id marks lanes (unit_of moments) 0 moments far.pictures ms) (nil_from_length rest none) far.drawn;
    is = far.is;
  }

-- whether scans are left
pub some_left : (rest : List Moment) (b : Bool) → b ≡ (length rest == 0) → b ≡ false → 0 < length rest
some_left rest b is no_ = ⊎_elim (λ lt. lt) (λ none. absurd (let yes_ = eq-eqb (length rest) 0 (omega arith) in cc)) (cases_lt 0 (length rest))

pub none_left : (rest : List Moment) (b : Bool) → b ≡ (length rest == 0) → b ≡ true → length rest ≡ 0
none_left rest b is yes_ = eqb-true (length rest) 0 (sym is ∙ yes_)

-- pieces one after another
pub joined : (page page1 page2 page3 page4 a b c d : List Piece) → page1 ≡ page ++ a → page2 ≡ page1 ++ b → page3 ≡ page2 ++ c → page4 ≡ page3 ++ d →
    page4 ≡ page ++ a ++ b ++ c ++ d
joined page page1 page2 page3 page4 a b c d one two three four =
    four ∙ ap (λ (p : List Piece). p ++ d) (three ∙ ap (λ (p : List Piece). p ++ c) (two ∙ ap (λ (p : List Piece). p ++ b) one))

pub joined_three : (page page1 page2 page3 a b c : List Piece) → page1 ≡ page ++ a → page2 ≡ page1 ++ b → page3 ≡ page2 ++ c → page3 ≡ page ++ (a ++ b ++ c)
joined_three page page1 page2 page3 a b c one two three =
    three ∙ ap (λ (p : List Piece). p ++ c) (two ∙ ap (λ (p : List Piece). p ++ b) one) ∙ simp append_assoc
