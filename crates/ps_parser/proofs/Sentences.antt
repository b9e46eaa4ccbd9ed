-- The laws of statements, declarations, sections and sources.
use Rattle.std.proofs.Common.{◌≡◌, ℕ, inl, inr, Bool, true, false, ◌||◌, List, [], ◌∷◌, ◌++◌, Some, refl, sym, ap, ◌∙◌}
use Rattle.std.specs.List.{flat_map}
use Rattle.ps_parser.specs.declared.stop.Flaw.TheVariants.{Unexpected}
use Rattle.ps_parser.specs.declared.sign.Sign.{Sign}
use Rattle.ps_parser.specs.declared.sign.Sign.TheVariants.{EndVar, And, Or, Assign, Colon, Semicolon, Comma, LeftBracket, RightBracket, Dot}
use Rattle.ps_parser.specs.declared.name.Name.{Name}
use Rattle.ps_parser.specs.declared.section.Part.{Part}
use Rattle.ps_parser.specs.declared.section.Part.TheVariants.{Input, Output, Local}
use Rattle.ps_parser.specs.declared.section.Section.{Section}
use Rattle.ps_parser.specs.declared.statement.Target.TheVariants as target
use Rattle.ps_parser.specs.declared.heads.Heads.{Heads}
use Rattle.ps_parser.specs.declared.heads.Heads.TheVariants as heads
use Rattle.ps_parser.specs.Symbol.{Symbol, Mark, Named, is_mark, is_named}
use Rattle.ps_parser.specs.Tree.{ArgumentTree, StatementTree, Assign as Assigned, Call}
use Rattle.ps_parser.specs.Spelt.{part_sign, head_sign, foot_sign}
use Rattle.ps_parser.specs.Phrase.{Phrase, Stops, next, Reads, Refuses, JoinedFits, just, finish}
use Rattle.ps_parser.specs.Grammar.{a_sum, a_name, value_end, value_parts, a_value, pin_end, pin_parts, a_pin_value, argument_end, argument_parts, an_argument, arguments, any_arguments, call_close, call_end, call_parts, a_call, Tail, value_or_call, a_tail, statement_parts, a_statement, names, type_end, names_end, declaration_parts, a_declaration, a_part, is_part, declarations, section_end, section_parts, a_section, sections, statements, source_foot, source_body, source_name, source_parts, a_source, a_text}
use Rattle.ps_parser.proofs.Signs.{of_mark}
use Rattle.ps_parser.proofs.Phrases.{EndsAt, Lawful, Meets, Starts, just_lawful, finish_lawful, joined_lawful, many_lawful, refuses_here}
use Rattle.ps_parser.proofs.Choices.{Opens, Apart, either_lawful, opens_either, optional_lawful}
use Rattle.ps_parser.proofs.Joints.{Joint, joint_law, Twin, twin_law}
use Rattle.ps_parser.proofs.Expressions.{goes_none, sum_goes, name_law, sum_law, sum_meets, never_stops, just_meets, name_meets}

pub mark_law : (s : Sign) → Lawful (just (Mark s))
mark_law s = just_lawful (Mark s) tt

apart_marks : (s u : Sign) → is_mark u (Mark s) ≡ false → Apart (is_mark s) (is_mark u)
apart_marks s u h t es eu = let e : is_mark u t ≡ false = of_mark (is_mark u) s h t es in cc

-- `:= sum ;`
pub value_end_joint : Joint a_sum (just (Mark Semicolon))
value_end_joint = record { before = sum_law; behind = mark_law Semicolon; meets = sum_meets (Mark Semicolon) refl refl refl }

pub value_joint : Joint (just (Mark Assign)) value_end
value_joint = record { before = mark_law Assign; behind = joint_law value_end_joint; meets = just_meets (Mark Assign) value_end }

pub value_twin : Twin value_parts
value_twin = record { back = λ r. r.1.0; there = λ r. refl; here = λ s. refl }

pub value_law : Lawful a_value
value_law = twin_law value_twin (joint_law value_joint)

-- `. name := sum ;`
pub pin_end_joint : Joint a_name a_value
pin_end_joint = record { before = name_law; behind = value_law; meets = name_meets a_value }

pub pin_joint : Joint (just (Mark Dot)) pin_end
pin_joint = record { before = mark_law Dot; behind = joint_law pin_end_joint; meets = just_meets (Mark Dot) pin_end }

pub pin_twin : Twin pin_parts
pin_twin = record { back = λ r. r.1; there = λ r. refl; here = λ p. refl }

pub pin_law : Lawful a_pin_value
pin_law = twin_law pin_twin (joint_law pin_joint)

-- `name := sum`
pub argument_end_joint : Joint (just (Mark Assign)) a_sum
argument_end_joint = record { before = mark_law Assign; behind = sum_law; meets = just_meets (Mark Assign) a_sum }

pub argument_joint : Joint a_name argument_end
argument_joint = record { before = name_law; behind = joint_law argument_end_joint; meets = name_meets argument_end }

pub argument_twin : Twin argument_parts
argument_twin = record { back = λ r. record { pin = r.0; value = r.1.1 }; there = λ r. refl; here = λ a. refl }

pub argument_law : Lawful an_argument
argument_law = twin_law argument_twin (joint_law argument_joint)

-- `( arguments ) ;`
pub argument_ends : (a : ArgumentTree) (t : Symbol) → is_mark Comma t ≡ true → an_argument.goes_on a t ≡ false
argument_ends a t e = sum_goes a.value t (of_mark (is_mark Dot) Comma refl t e) (of_mark (is_mark And) Comma refl t e) (of_mark (is_mark Or) Comma refl t e)

pub arguments_law : Lawful arguments
arguments_law = joined_lawful (Mark Comma) (is_mark Comma) an_argument refl argument_ends tt argument_law

arguments_open : (n : ℕ) (args : List ArgumentTree) → JoinedFits (an_argument.fits n) args → (t : Symbol) × (ts : List Symbol) × (arguments.spell args ≡ t ∷ ts) × (is_named t ≡ true)
arguments_open n [] fits = absurd fits
arguments_open n (a ∷ args) fits = (Named a.pin, argument_end.spell (tt, a.value) ++ flat_map (λ y. Mark Comma ∷ an_argument.spell y) args, refl, refl)

pub open_arguments : Opens arguments is_named
open_arguments = arguments_open

pub some_argument : (n : ℕ) → arguments.fits n [] → ⊥
some_argument n h = h

pub any_arguments_law : Lawful any_arguments
any_arguments_law = optional_lawful arguments is_named open_arguments some_argument arguments_law

pub call_close_joint : Joint (just (Mark RightBracket)) (just (Mark Semicolon))
call_close_joint = record { before = mark_law RightBracket; behind = mark_law Semicolon; meets = just_meets (Mark RightBracket) (just (Mark Semicolon)) }

arguments_end : (args : List ArgumentTree) → any_arguments.goes_on args (Mark RightBracket) ≡ false
arguments_end [] = refl
arguments_end (a ∷ args) = goes_none an_argument.goes_on (is_mark Comma) (Mark RightBracket) refl (λ b. sum_goes b.value (Mark RightBracket) refl refl refl) (a ∷ args)

pub call_end_joint : Joint any_arguments call_close
call_end_joint = record { before = any_arguments_law; behind = joint_law call_close_joint; meets = λ n args y after f stops. arguments_end args }

pub call_joint : Joint (just (Mark LeftBracket)) call_end
call_joint = record { before = mark_law LeftBracket; behind = joint_law call_end_joint; meets = just_meets (Mark LeftBracket) call_end }

pub call_twin : Twin call_parts
call_twin = record { back = λ r. r.1.0; there = λ r. refl; here = λ args. refl }

pub call_law : Lawful a_call
call_law = twin_law call_twin (joint_law call_joint)

-- what follows the first name of a statement
pub open_value : Opens a_value (is_mark Assign)
open_value n s fits = (Mark Assign, value_end.spell (s, tt), refl, refl)

pub open_call : Opens a_call (is_mark LeftBracket)
open_call n args fits = (Mark LeftBracket, call_end.spell (args, (tt, tt)), refl, refl)

pub open_pin : Opens a_pin_value (is_mark Dot)
open_pin n p fits = (Mark Dot, pin_end.spell p, refl, refl)

pub value_apart : Apart (is_mark Assign) (is_mark LeftBracket)
value_apart = apart_marks Assign LeftBracket refl

abbrev pub is_value_or_call : Symbol → Bool
is_value_or_call t = is_mark Assign t || is_mark LeftBracket t

or_first : (a b : Bool) → a ≡ true → a || b ≡ true
or_first true b e = refl
or_first false b e = cc

or_second : (a b : Bool) → b ≡ true → a || b ≡ true
or_second true b e = refl
or_second false b e = e

pub value_or_call_law : Lawful value_or_call
value_or_call_law = either_lawful a_value a_call (is_mark Assign) (is_mark LeftBracket) open_value open_call value_apart value_law call_law

pub open_value_or_call : Opens value_or_call is_value_or_call
open_value_or_call =
    opens_either a_value a_call (is_mark Assign) (is_mark LeftBracket) open_value open_call value_apart is_value_or_call
    (λ t e. or_first (is_mark Assign t) (is_mark LeftBracket t) e)
    (λ t e. or_second (is_mark Assign t) (is_mark LeftBracket t) e)

pub tail_apart : Apart (is_mark Dot) is_value_or_call
tail_apart t ed ev = let e : is_value_or_call t ≡ false = of_mark is_value_or_call Dot refl t ed in cc

pub tail_law : Lawful a_tail
tail_law = either_lawful a_pin_value value_or_call (is_mark Dot) is_value_or_call open_pin open_value_or_call tail_apart pin_law value_or_call_law

pub statement_joint : Joint a_name a_tail
statement_joint = record { before = name_law; behind = tail_law; meets = name_meets a_tail }

abbrev statement_of : Name × Tail → StatementTree
statement_of (n, inl p) = Assigned (target.Pin n p.0) p.1
statement_of (n, inr (inl s)) = Assigned (target.Name n) s
statement_of (n, inr (inr args)) = Call n args

statement_there : (r : Name × Tail) → statement_parts (statement_of r) ≡ r
statement_there (n, inl p) = refl
statement_there (n, inr (inl s)) = refl
statement_there (n, inr (inr args)) = refl

statement_here : (s : StatementTree) → statement_of (statement_parts s) ≡ s
statement_here (Assigned (target.Name n) s) = refl
statement_here (Assigned (target.Pin n q) s) = refl
statement_here (Call n args) = refl

pub statement_twin : Twin statement_parts
statement_twin = record { back = statement_of; there = statement_there; here = statement_here }

pub statement_law : Lawful a_statement
statement_law = twin_law statement_twin (joint_law statement_joint)

statement_ends : (s : StatementTree) (t : Symbol) → a_statement.goes_on s t ≡ false
statement_ends (Assigned (target.Name n) s) t = refl
statement_ends (Assigned (target.Pin n q) s) t = refl
statement_ends (Call n args) t = refl

pub statement_starts : Starts a_statement is_named
statement_starts = record {
  begins = λ n s fits. (Named (statement_parts s).0, a_tail.spell (statement_parts s).1, refl, refl);
  parts = λ s t e. statement_ends s t;
}

pub statements_law : Lawful statements
statements_law = many_lawful a_statement is_named statement_starts statement_law

-- `names : name ;`
pub name_ends : (n : Name) (t : Symbol) → is_mark Comma t ≡ true → a_name.goes_on n t ≡ false
name_ends n t e = refl

pub names_law : Lawful names
names_law = joined_lawful (Mark Comma) (is_mark Comma) a_name refl name_ends tt name_law

pub type_end_joint : Joint a_name (just (Mark Semicolon))
type_end_joint = record { before = name_law; behind = mark_law Semicolon; meets = name_meets (just (Mark Semicolon)) }

pub names_end_joint : Joint (just (Mark Colon)) type_end
names_end_joint = record { before = mark_law Colon; behind = joint_law type_end_joint; meets = just_meets (Mark Colon) type_end }

pub declaration_joint : Joint names names_end
declaration_joint = record {
  before = names_law;
  behind = joint_law names_end_joint;
  meets = λ n ns y after f stops. goes_none a_name.goes_on (is_mark Comma) (Mark Colon) refl (λ m. refl) ns;
}

pub declaration_twin : Twin declaration_parts
declaration_twin = record { back = λ r. record { names = r.0; ty = r.1.1.0 }; there = λ r. refl; here = λ d. refl }

pub declaration_law : Lawful a_declaration
declaration_law = twin_law declaration_twin (joint_law declaration_joint)

names_open : (n : ℕ) (ns : List Name) (more : List Symbol) → names.fits n ns → (t : Symbol) × (ts : List Symbol) × (names.spell ns ++ more ≡ t ∷ ts) × (is_named t ≡ true)
names_open n [] more fits = absurd fits
names_open n (m ∷ ns) more fits = (Named m, flat_map (λ y. Mark Comma ∷ a_name.spell y) ns ++ more, refl, refl)

pub declaration_starts : Starts a_declaration is_named
declaration_starts = record {
  begins = λ n d fits. names_open n d.names (names_end.spell (tt, (d.ty, tt))) fits.0;
  parts = λ d t e. refl;
}

pub declarations_law : Lawful declarations
declarations_law = many_lawful a_declaration is_named declaration_starts declaration_law

-- a section
ends_part : (n : ℕ) → EndsAt a_part n
ends_part n Input Input r q fx fy sx sy e = (refl, cc)
ends_part n Output Output r q fx fy sx sy e = (refl, cc)
ends_part n Local Local r q fx fy sx sy e = (refl, cc)
ends_part n Input Output r q fx fy sx sy e = cc
ends_part n Input Local r q fx fy sx sy e = cc
ends_part n Output Input r q fx fy sx sy e = cc
ends_part n Output Local r q fx fy sx sy e = cc
ends_part n Local Input r q fx fy sx sy e = cc
ends_part n Local Output r q fx fy sx sy e = cc

pub part_law : Lawful a_part
part_law = record { fits_deeper = λ n m x le f. tt; ends = ends_part; some = Local; some_fits = tt; some_proper = (tt, tt) }

is_part_sign : (p : Part) → is_part (Mark (part_sign p)) ≡ true
is_part_sign Input = refl
is_part_sign Output = refl
is_part_sign Local = refl

pub reads_part : (limit : ℕ) (p : Part) (ts rest : List Symbol) → ts ≡ Mark (part_sign p) ∷ rest → Reads a_part limit ts p rest
reads_part limit p ts rest e = record { whole = tt; spelled = e; longest = never_stops rest }

no_part : (p : Part) (ts : List Symbol) → Stops is_part ts → next ts ≡ Some (Mark (part_sign p)) → ⊥
no_part p [] s e = cc
no_part p (t ∷ ts) s e =
    let same : t ≡ Mark (part_sign p) = cc in
    let is : is_part t ≡ true = ap is_part same ∙ is_part_sign p in
    cc

pub refuses_part : (limit : ℕ) (ts : List Symbol) → Stops is_part ts → Refuses a_part limit Unexpected ts ts
refuses_part limit ts absent = refuses_here a_part part_law limit ts (λ n p after other f stops e same. no_part p ts absent (sym same ∙ ap next (sym e)))

part_meets : {X : Type 0} (b : Phrase X) → Meets a_part b
part_meets b n x y after f stops = never_stops (b.spell y ++ after)

pub section_end_joint : Joint declarations (just (Mark EndVar))
section_end_joint = record {
  before = declarations_law;
  behind = mark_law EndVar;
  meets = λ n ds y after f stops. goes_none a_declaration.goes_on is_named (Mark EndVar) refl (λ d. refl) ds;
}

pub section_joint : Joint a_part section_end
section_joint = record { before = part_law; behind = joint_law section_end_joint; meets = part_meets section_end }

pub section_twin : Twin section_parts
section_twin = record { back = λ r. record { part = r.0; declarations = r.1.0 }; there = λ r. refl; here = λ s. refl }

pub section_law : Lawful a_section
section_law = twin_law section_twin (joint_law section_joint)

pub section_starts : Starts a_section is_part
section_starts = record {
  begins = λ n s fits. (Mark (part_sign s.part), section_end.spell (s.declarations, tt), refl, is_part_sign s.part);
  parts = λ s t e. refl;
}

pub sections_law : Lawful sections
sections_law = many_lawful a_section is_part section_starts section_law

-- a source
pub source_foot_joint : (h : Heads) → Joint statements (just (Mark (foot_sign h)))
source_foot_joint h = record {
  before = statements_law;
  behind = mark_law (foot_sign h);
  meets = λ n ss y after f stops. goes_none a_statement.goes_on is_named (Mark (foot_sign h)) refl (λ s. statement_ends s (Mark (foot_sign h))) ss;
}

foot_no_part : (h : Heads) → is_part (Mark (foot_sign h)) ≡ false
foot_no_part heads.Program = refl
foot_no_part heads.Block = refl

sections_meet : (h : Heads) (ss : List Section) (xs : List StatementTree) (after : List Symbol) → Stops (sections.goes_on ss) ((source_foot h).spell (xs, tt) ++ after)
sections_meet h ss [] after = goes_none a_section.goes_on is_part (Mark (foot_sign h)) (foot_no_part h) (λ s. refl) ss
sections_meet h ss (x ∷ xs) after = goes_none a_section.goes_on is_part (Named (statement_parts x).0) refl (λ s. refl) ss

pub source_body_joint : (h : Heads) → Joint sections (source_foot h)
source_body_joint h = record { before = sections_law; behind = joint_law (source_foot_joint h); meets = λ n ss y after f stops. sections_meet h ss y.0 after }

pub source_name_joint : (h : Heads) → Joint a_name (source_body h)
source_name_joint h = record { before = name_law; behind = joint_law (source_body_joint h); meets = name_meets (source_body h) }

pub source_joint : (h : Heads) → Joint (just (Mark (head_sign h))) (source_name h)
source_joint h = record { before = mark_law (head_sign h); behind = joint_law (source_name_joint h); meets = just_meets (Mark (head_sign h)) (source_name h) }

pub source_twin : Twin source_parts
source_twin = record { back = λ r. record { name = r.1.0; sections = r.1.1.0; statements = r.1.1.1.0 }; there = λ r. refl; here = λ s. refl }

pub source_law : (h : Heads) → Lawful (a_source h)
source_law h = twin_law source_twin (joint_law (source_joint h))

pub text_joint : (h : Heads) → Joint (a_source h) finish
text_joint h = record { before = source_law h; behind = finish_lawful; meets = λ n s y after f stops. never_stops after }

pub text_law : (h : Heads) → Lawful (a_text h)
text_law h = joint_law (text_joint h)
