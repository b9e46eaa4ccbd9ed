-- The room that the expanded trace of a file has left, after one line more.
use Rattle.std.proofs.Common.{◌≡◌, ◌<◌, ◌+◌, ◌++◌, ◌∙◌, ℕ, List, [], ◌∷◌, Bool, Option, Some, None, Ok, length, drop, get_or, flat_map, codes, decimal, ◌*◌, false, refl, sym, ap, subst, arith}
use Rattle.std.proofs.lemmas.List.{append_assoc, append-nil, length-append, length-replicate, drop_more}
use Rattle.ps_base.specs.declared.limits.TheConstants.{LARGEST_TRACE}
use Rattle.ps_model.specs.Network.{Network, input_count}
use Rattle.ps_bench_cases.specs.declared.rule.CaseRule.{CaseRule}
use Rattle.ps_bench_cases.specs.declared.rule.CaseRefusal.{CaseRefusal}
use Rattle.ps_bench_names.specs.declared.name.Setting.{Setting}
use Rattle.ps_bench_cases.specs.declared.case.Act.{Act}
use Rattle.ps_bench_cases.specs.declared.case.Statement.{Statement}
use Rattle.ps_bench_cases.specs.declared.case.Case.{Case}
use Rattle.ps_bench_cases.specs.declared.case.CaseFile.{CaseFile}
use Rattle.ps_bench_cases.specs.declared.stand.Stand.{Stand}
use Rattle.ps_bench_cases.specs.declared.draft.Head.{Head}
use Rattle.ps_bench_cases.specs.declared.draft.Draft.{Draft}
use Rattle.ps_bench_cases.specs.declared.point.Point.{Point}
use Rattle.ps_bench_cases.specs.declared.room.Room.{Room}
use Rattle.ps_bench_cases.specs.Stands.{stand_after}
use Rattle.ps_bench_cases.specs.Expanded.{header_line, value_text, scan_line, name_line, act_text, point_set, point_after, next_point, statements_text, begin_point, end_point, case_text, cases_text, expanded}
use Rattle.ps_bench_cases.specs.File.{stated, closed, closed_by, coming, opened, fault_left, case_judged, case_begun, unless_left, case_after}
use Rattle.ps_bench_cases.specs.Rooms.{Counts, IsLeft, IsRoom, base_behind, lead_of, head_text, point_of, IsPlaced, HasRoom}
use Rattle.ps_bench_cases.proofs.Points.{set_size, all_base, fold_behind, text_behind}
use Rattle.ps_bench_cases.proofs.Placing.{cases_push}
use Rattle.ps_bench_cases.proofs.RunningFiles.{same_base, comes_behind}

-- ---- Rooms.

-- after more bytes less is left
pub left_more : (before bytes more : ℕ) (room : Room) (r : Option Room) → room.left + bytes ≡ before → IsLeft room.left more r → IsLeft before (bytes + more) r
left_more before bytes more room None is left = omega (arith, is, left)
left_more before bytes more room (Some rest) is left = omega (arith, is, left)

pub room_more : (inputs before bytes more : ℕ) (p : Point) (room : Room) (r : Option Room) → room.left + bytes ≡ before → IsRoom inputs room.left more p r →
    IsRoom inputs before (bytes + more) p r
room_more inputs before bytes more p room None is left = omega (arith, is, left)
room_more inputs before bytes more p room (Some rest) is left = (omega (arith, is, left.0), left.1)

-- of a list of texts
pub texts_left : {X : Type 0} (f : X → List ℕ) (xs : List X) (i : ℕ) (d : X) → i < length xs →
    length (flat_map f (drop i xs)) ≡ length (f (get_or xs i d)) + length (flat_map f (drop (i + 1) xs))
texts_left {X} f xs i d within =
    ap (λ (rest : List X). length (flat_map f rest)) (drop_more xs i d within) ∙ length-append (f (get_or xs i d)) (flat_map f (drop (i + 1) xs))

-- of a scan
values_size : (ins : List Bool) → length (flat_map value_text ins) ≡ 2 * length ins
values_size [] = refl
values_size (v ∷ ins) = omega (arith, length-append (value_text v) (flat_map value_text ins), values_size ins)

pub scan_size : (now : ℕ) (ins : List Bool) → length (scan_line now ins) ≡ length (decimal now) + 2 * length ins + 1
scan_size now ins =
    omega (arith, length-append (decimal now) (flat_map value_text ins ++ codes "\n"), length-append (flat_map value_text ins) (codes "\n"), values_size ins)

-- of the name of a case
pub name_size : (name : List ℕ) → length (name_line name) ≡ length name + 8
name_size name = omega (arith, length-append (codes "# case ") (name ++ codes "\n"), length-append name (codes "\n"))

-- of statements
pub statement_left : (q : Point) (xs : List Statement) (i : ℕ) (s : Statement) → i < length xs → s ≡ get_or xs i s →
    length (statements_text q (drop i xs)) ≡ length (act_text (point_set q s.settings) s.act) + length (statements_text (next_point q s) (drop (i + 1) xs))
statement_left q xs i s within is =
    ap (λ (rest : List Statement). length (statements_text q rest)) (drop_more xs i s within ∙ ap (λ (x : Statement). x ∷ drop (i + 1) xs) (sym is))
    ∙ length-append (act_text (point_set q s.settings) s.act) (statements_text (next_point q s) (drop (i + 1) xs))

-- settings leave what is counted
pub counts_set : (inputs : ℕ) (p : Point) (room : Room) (settings : List Setting) → Counts inputs p room → Counts inputs (point_set p settings) room
counts_set inputs p room settings counts = record { inputs_are = set_size settings p.ins ∙ counts.inputs_are; held_is = counts.held_is }

-- where a case begins nothing waits
pub counts_none : (inputs base : ℕ) (room : Room) → room.held ≡ 0 → Counts inputs (begin_point inputs base) room
counts_none inputs base room none = record { inputs_are = length-replicate inputs false; held_is = none }

-- ---- Texts.

-- a case that goes on by a statement
case_more : (inputs base : ℕ) (name : List ℕ) (statements : List Statement) (s : Statement) →
    case_text inputs base name (statements ++ s ∷ []) ≡ case_text inputs base name statements ++ act_text (point_set (end_point inputs base statements) s.settings) s.act
case_more inputs base name statements s =
    let piece = act_text (point_set (end_point inputs base statements) s.settings) s.act in
    ap (λ (bytes : List ℕ). name_line name ++ bytes)
    (text_behind statements (s ∷ []) (begin_point inputs base) ∙ ap (λ (bytes : List ℕ). statements_text (begin_point inputs base) statements ++ bytes) (append-nil piece))
    ∙ sym (append_assoc (name_line name) (statements_text (begin_point inputs base) statements) piece)

module _ (net : Network) where
  -- the trace of cases, of which the last one is read
  last_text : (file : CaseFile) (head : Head) (statements : List Statement) →
      expanded net (closed_by file (Some head) statements) ≡
      (header_line net ++ cases_text (input_count net) file.begin [] 0 file.cases)
      ++ (lead_of file.cases ++ case_text (input_count net) (base_behind (input_count net) file.begin 0 file.cases) head.name (file.begin ++ statements))
  last_text file head statements =
      let c : Case = record { line = head.line; name = head.name; statements = statements } in
      let n = input_count net in
      ap (λ (bytes : List ℕ). header_line net ++ bytes) (cases_push n file.begin 0 file.cases c)
      ∙ sym (append_assoc (header_line net) (cases_text n file.begin [] 0 file.cases) (lead_of file.cases ++ case_text n (base_behind n file.begin 0 file.cases) head.name (file.begin ++ statements)))

  -- it goes on by a statement
  text_more : (file : CaseFile) (head : Head) (statements : List Statement) (s : Statement) →
      expanded net (closed_by file (Some head) (statements ++ s ∷ [])) ≡
      expanded net (closed_by file (Some head) statements)
      ++ act_text (point_set (end_point (input_count net) (base_behind (input_count net) file.begin 0 file.cases) (file.begin ++ statements)) s.settings) s.act
  text_more file head statements s =
      let n = input_count net in let base = base_behind n file.begin 0 file.cases in
      let before = header_line net ++ cases_text n file.begin [] 0 file.cases in
      let lead = lead_of file.cases in
      let one = case_text n base head.name (file.begin ++ statements) in
      let piece = act_text (point_set (end_point n base (file.begin ++ statements)) s.settings) s.act in
      last_text file head (statements ++ s ∷ [])
      ∙ ap (λ (ss : List Statement). before ++ (lead ++ case_text n base head.name ss)) (sym (append_assoc file.begin statements (s ∷ [])))
      ∙ ap (λ (bytes : List ℕ). before ++ (lead ++ bytes)) (case_more n base head.name (file.begin ++ statements) s)
      ∙ ap (λ (bytes : List ℕ). before ++ bytes) (sym (append_assoc lead one piece))
      ∙ sym (append_assoc before (lead ++ one) piece)
      ∙ ap (λ (bytes : List ℕ). bytes ++ piece) (sym (last_text file head statements))

  -- ---- A line that asks for something.

  -- of the case that is read
  room_by : (file : CaseFile) (head : Head) (statements : List Statement) (start stand : Stand) (number : ℕ) (settings : List Setting) (a : Act) (room : Room) (r : Option Room) →
      let d : Draft = record { file = file; head = Some head; statements = statements; start = start; stand = stand } in
      IsPlaced net d → HasRoom net d (Some room) →
      ((p : Point) → p.base ≡ stand.base → Counts (input_count net) p room → IsRoom (input_count net) room.left (length (act_text p a)) (point_after p a) r) →
      HasRoom net (stated d number settings a) r
  room_by file head statements start stand number settings a room r placed has behind =
      let n = input_count net in
      let s : Statement = record { line = number; settings = settings; act = a } in
      let q : Point = end_point n stand.base (file.begin ++ statements) in
      let p : Point = point_set q settings in
      let size : length (expanded net (closed_by file (Some head) (statements ++ s ∷ []))) ≡ length (expanded net (closed_by file (Some head) statements)) + length (act_text p a) =
      ap (λ (bytes : List ℕ). length bytes) (text_more file head statements s)
      ∙ length-append (expanded net (closed_by file (Some head) statements)) _
      ∙ ap (λ (base : ℕ). length (expanded net (closed_by file (Some head) statements)) + length (act_text (point_set (end_point n base (file.begin ++ statements)) settings) a)) (sym placed.0) in
      let point : point_after p a ≡ end_point n ((stand_after number stand a).base) (file.begin ++ (statements ++ s ∷ [])) =
      sym (fold_behind (file.begin ++ statements) (s ∷ []) (begin_point n stand.base))
      ∙ ap (end_point n stand.base) (append_assoc file.begin statements (s ∷ []))
      ∙ ap (λ (base : ℕ). end_point n base (file.begin ++ (statements ++ s ∷ []))) (sym (same_base number stand a)) in
      let left : IsRoom n LARGEST_TRACE (length (expanded net (closed_by file (Some head) statements)) + length (act_text p a)) (point_after p a) r =
      room_more n LARGEST_TRACE (length (expanded net (closed_by file (Some head) statements))) (length (act_text p a)) (point_after p a) room r has.0
      (behind p (all_base (file.begin ++ statements) (begin_point n stand.base)) (counts_set n q room settings has.1)) in
      subst (λ (bytes : ℕ). IsRoom n LARGEST_TRACE bytes (end_point n ((stand_after number stand a).base) (file.begin ++ (statements ++ s ∷ []))) r) (sym size)
      (subst (λ (x : Point). IsRoom n LARGEST_TRACE (length (expanded net (closed_by file (Some head) statements)) + length (act_text p a)) x r) point left)

  pub stated_room : (d : Draft) (head : Head) (number : ℕ) (settings : List Setting) (a : Act) (room : Room) (r : Option Room) → d.head ≡ Some head →
      IsPlaced net d → HasRoom net d (Some room) →
      ((p : Point) → p.base ≡ d.stand.base → Counts (input_count net) p room → IsRoom (input_count net) room.left (length (act_text p a)) (point_after p a) r) →
      HasRoom net (stated d number settings a) r
  stated_room d head number settings a room r is placed has behind =
      let e : Draft = record { file = d.file; head = Some head; statements = d.statements; start = d.start; stand = d.stand } in
      let same : d ≡ e = ap (λ (h : Option Head). record { file = d.file; head = h; statements = d.statements; start = d.start; stand = d.stand }) is in
      subst (λ (x : Draft). HasRoom net (stated x number settings a) r) (sym same)
      (room_by d.file head d.statements d.start d.stand number settings a room r (subst (IsPlaced net) same placed) (subst (λ (x : Draft). HasRoom net x (Some room)) same has) behind)

  -- what is too large stays so, and before the first case a line makes nothing
  still_by : (head : Option Head) (d : Draft) (number : ℕ) (settings : List Setting) (a : Act) (r : Option Room) → d.head ≡ head →
      ((room : Room) (h : Head) → r ≡ Some room → head ≡ Some h → ⊥) → IsPlaced net d → HasRoom net d r → HasRoom net (stated d number settings a) r
  still_by None d number settings a r is never placed has =
      let e : Draft = record { file = d.file; head = None; statements = d.statements; start = d.start; stand = d.stand } in
      let same : d ≡ e = ap (λ (h : Option Head). record { file = d.file; head = h; statements = d.statements; start = d.start; stand = d.stand }) is in
      let none : d.file.cases ≡ [] = (subst (IsPlaced net) same placed).0 in
      let left : HasRoom net e r = subst (λ (x : Draft). HasRoom net x r) same has in
      subst (λ (x : Draft). HasRoom net (stated x number settings a) r) (sym same) (begin_still r d.statements (d.statements ++ record { line = number; settings = settings; act = a } ∷ []) d.file.cases none left)
    where
      begin_still : (r : Option Room) (begin new : List Statement) (cases : List Case) → cases ≡ [] →
          IsLeft LARGEST_TRACE (length (expanded net (record { begin = begin; cases = cases }))) r → IsLeft LARGEST_TRACE (length (expanded net (record { begin = new; cases = cases }))) r
      begin_still r begin new cases none left =
          subst (λ (cs : List Case). IsLeft LARGEST_TRACE (length (expanded net (record { begin = new; cases = cs }))) r) (sym none)
          (subst (λ (cs : List Case). IsLeft LARGEST_TRACE (length (expanded net (record { begin = begin; cases = cs }))) r) none left)
  still_by (Some h) d number settings a None is never placed has =
      let e : Draft = record { file = d.file; head = Some h; statements = d.statements; start = d.start; stand = d.stand } in
      let same : d ≡ e = ap (λ (x : Option Head). record { file = d.file; head = x; statements = d.statements; start = d.start; stand = d.stand }) is in
      let s : Statement = record { line = number; settings = settings; act = a } in
      let large : LARGEST_TRACE < length (expanded net (closed_by d.file (Some h) d.statements)) = subst (λ (x : Draft). HasRoom net x None) same has in
      let size = ap (λ (bytes : List ℕ). length bytes) (text_more d.file h d.statements s) ∙ length-append (expanded net (closed_by d.file (Some h) d.statements)) _ in
      let larger : LARGEST_TRACE < length (expanded net (closed_by d.file (Some h) (d.statements ++ s ∷ []))) = omega (arith, large, size) in
      subst (λ (x : Draft). HasRoom net (stated x number settings a) None) (sym same) larger
  still_by (Some h) d number settings a (Some room) is never placed has = absurd (never room h refl refl)

  pub still_room : (d : Draft) (number : ℕ) (settings : List Setting) (a : Act) (r : Option Room) → ((room : Room) (h : Head) → r ≡ Some room → d.head ≡ Some h → ⊥) →
      IsPlaced net d → HasRoom net d r → HasRoom net (stated d number settings a) r
  still_room d number settings a r never placed has = still_by d.head d number settings a r refl never placed has

  -- ---- A case begins.

  -- in each way what is left is left
  pub left_of : (head : Option Head) (d : Draft) (r : Option Room) → d.head ≡ head → HasRoom net d r → IsLeft LARGEST_TRACE (length (expanded net (closed d))) r
  left_of None d r is has =
      let e : Draft = record { file = d.file; head = None; statements = d.statements; start = d.start; stand = d.stand } in
      let same : d ≡ e = ap (λ (h : Option Head). record { file = d.file; head = h; statements = d.statements; start = d.start; stand = d.stand }) is in
      subst (λ (x : Draft). IsLeft LARGEST_TRACE (length (expanded net (closed x))) r) (sym same) (subst (λ (x : Draft). HasRoom net x r) same has)
  left_of (Some h) d r is has =
      let e : Draft = record { file = d.file; head = Some h; statements = d.statements; start = d.start; stand = d.stand } in
      let same : d ≡ e = ap (λ (x : Option Head). record { file = d.file; head = x; statements = d.statements; start = d.start; stand = d.stand }) is in
      subst (λ (x : Draft). IsLeft LARGEST_TRACE (length (expanded net (closed x))) r) (sym same) (only r (length (expanded net (closed e))) (point_of net e) (subst (λ (x : Draft). HasRoom net x r) same has))
    where
      only : (r : Option Room) (bytes : ℕ) (p : Point) → IsRoom (input_count net) LARGEST_TRACE bytes p r → IsLeft LARGEST_TRACE bytes r
      only None bytes p room = room
      only (Some x) bytes p room = room.0

  -- what a case leaves that begins
  begun : Draft → (number : ℕ) → (name : List ℕ) → Draft
  begun d number name =
      record { file = closed d; head = Some record { line = number; name = name }; statements = []; start = (coming d).start; stand = opened number (coming d) }

  begun_by : (left : Option CaseRefusal) (judged : Option CaseRule) (d e : Draft) (number : ℕ) (name : List ℕ) →
      unless_left left (case_begun d number name (coming d) judged) ≡ Ok e → begun d number name ≡ e
  unfolding begun
  begun_by (Some refusal) judged d e number name is = cc
  begun_by None (Some rule) d e number name is = cc
  begun_by None None d e number name is = cc

  -- the room after the first lines of a case that begins, in the draft that it leaves
  pub begun_room : (e : Draft) (head : Head) (r : Option Room) → e.head ≡ Some head → e.statements ≡ [] → e.stand.base ≡ base_behind (input_count net) e.file.begin 0 e.file.cases →
      IsRoom (input_count net) LARGEST_TRACE (length (expanded net e.file) + length (head_text net e head)) (end_point (input_count net) e.stand.base e.file.begin) r → HasRoom net e r
  begun_room e head r is none base left =
      let n = input_count net in
      let f : Draft = record { file = e.file; head = Some head; statements = []; start = e.start; stand = e.stand } in
      let same : e ≡ f = ap (λ (h : Option Head). record { file = e.file; head = h; statements = e.statements; start = e.start; stand = e.stand }) is
      ∙ ap (λ (ss : List Statement). record { file = e.file; head = Some head; statements = ss; start = e.start; stand = e.stand }) none in
      let first = case_text n e.stand.base head.name e.file.begin in
      let size : length (expanded net (closed_by e.file (Some head) [])) ≡ length (expanded net e.file) + length (head_text net e head) =
      ap (λ (bytes : List ℕ). length bytes) (last_text e.file head []
      ∙ ap (λ (ss : List Statement). expanded net e.file ++ (lead_of e.file.cases ++ case_text n (base_behind n e.file.begin 0 e.file.cases) head.name ss)) (append-nil e.file.begin)
      ∙ ap (λ (b : ℕ). expanded net e.file ++ (lead_of e.file.cases ++ case_text n b head.name e.file.begin)) (sym base))
      ∙ length-append (expanded net e.file) (lead_of e.file.cases ++ first) in
      subst (λ (x : Draft). HasRoom net x r) (sym same)
      (subst (λ (bytes : ℕ). IsRoom n LARGEST_TRACE bytes (end_point n e.stand.base (e.file.begin ++ [])) r) (sym size)
      (subst (λ (ss : List Statement). IsRoom n LARGEST_TRACE (length (expanded net e.file) + length (head_text net e head)) (end_point n e.stand.base ss) r) (sym (append-nil e.file.begin)) left))

  pub begun_has : (d e : Draft) (number : ℕ) (name : List ℕ) (r : Option Room) → case_after d number name ≡ Ok e → IsPlaced net d →
      ((head : Head) → e.head ≡ Some head → IsRoom (input_count net) LARGEST_TRACE (length (expanded net (closed d)) + length (head_text net e head)) (end_point (input_count net) e.stand.base e.file.begin) r) →
      HasRoom net e r
  unfolding begun
  begun_has d e number name r after placed left =
      let is : begun d number name ≡ e = begun_by (fault_left d.head d.stand.waiting) (case_judged name (coming d)) d e number name after in
      let head : Head = record { line = number; name = name } in
      let of : e.head ≡ Some head = sym (ap (λ (x : Draft). x.head) is) in
      let file : e.file ≡ closed d = sym (ap (λ (x : Draft). x.file) is) in
      let base : e.stand.base ≡ base_behind (input_count net) e.file.begin 0 e.file.cases =
      sym (ap (λ (x : Draft). x.stand.base) is) ∙ comes_behind net d.head d placed ∙ ap (λ (f : CaseFile). base_behind (input_count net) f.begin 0 f.cases) (sym file) in
      begun_room e head r of (sym (ap (λ (x : Draft). x.statements) is)) base
      (subst (λ (f : CaseFile). IsRoom (input_count net) LARGEST_TRACE (length (expanded net f) + length (head_text net e head)) (end_point (input_count net) e.stand.base e.file.begin) r) (sym file) (left head of))
