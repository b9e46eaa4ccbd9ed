-- A flat source keeps what every source keeps, so what stands for a text keeps the whole invariant of applications.
use Rattle.std.proofs.Common.{ℕ, List, [], ◌∷◌, sym, subst}
use Rattle.std.specs.List.{AllByRecursion}
use Rattle.ps_base.specs.declared.limits.TheConstants.{MOST_GROUPS}
use Rattle.ps_parser.specs.declared.name.Name.{Name}
use Rattle.ps_parser.specs.declared.section.Declaration.{Declaration}
use Rattle.ps_parser.specs.declared.section.Section.{Section}
use Rattle.ps_parser.specs.declared.statement.Target.{Target}
use Rattle.ps_parser.specs.declared.statement.Target.TheVariants as target
use Rattle.ps_parser.specs.Names.{IsPlainName, IsDottedName, single}
use Rattle.ps_parser.specs.Parsing.{IsSourceWithin}
use Rattle.ps_parser.specs.Tree.{FactorTree, Signal, Pin, Literal, Time, Group, ProductTree, no_factor, factor, SumTree, no_product, product, ArgumentTree, StatementTree, Assign, Call, SourceTree}
use Rattle.ps_parser.specs.Whole.{FactorWhole, ProductWhole, MoreFactorsWhole, SumWhole, MoreProductsWhole, TargetWhole, ArgumentWhole, StatementWhole, NamesWhole, DeclarationWhole, SectionWhole, IsSource}
use Rattle.ps_offences.proofs.Giving.{each_call_gives}
use Rattle.ps_flatten.proofs.Whole.{flat_whole}
use Rattle.ps_names.proofs.Whole.{network_is_sound}
use Rattle.ps_model.specs.Network.{Network}
use Rattle.ps_model.specs.Sound.{IsSound}
use Rattle.ps_accepted.specs.Source.{IsProgram, Resolves}

-- ---- a name of the grammar is a name of a source

dotted : (text : List ℕ) → IsPlainName text → IsDottedName text
dotted text p = single p.name

mutual
  factor_dotted : (f : FactorTree) → FactorWhole IsPlainName f → FactorWhole IsDottedName f
  factor_dotted (Signal n) h = dotted n.text h
  factor_dotted (Pin n q) h = (dotted n.text h.0, dotted q.text h.1)
  factor_dotted (Literal b p) h = tt
  factor_dotted (Time t p) h = h
  factor_dotted (Group s) h = sum_dotted s h

  product_dotted : (p : ProductTree) → ProductWhole IsPlainName p → ProductWhole IsDottedName p
  product_dotted no_factor h = h
  product_dotted (factor f fs) h = (factor_dotted f h.0, factors_dotted fs h.1)

  factors_dotted : (p : ProductTree) → MoreFactorsWhole IsPlainName p → MoreFactorsWhole IsDottedName p
  factors_dotted no_factor h = tt
  factors_dotted (factor f fs) h = (factor_dotted f h.0, factors_dotted fs h.1)

  sum_dotted : (s : SumTree) → SumWhole IsPlainName s → SumWhole IsDottedName s
  sum_dotted no_product h = h
  sum_dotted (product p ps) h = (product_dotted p h.0, products_dotted ps h.1)

  products_dotted : (s : SumTree) → MoreProductsWhole IsPlainName s → MoreProductsWhole IsDottedName s
  products_dotted no_product h = tt
  products_dotted (product p ps) h = (product_dotted p h.0, products_dotted ps h.1)

-- what each item of one sort keeps, each of another sort keeps
all_dotted : {X : Type 0} (P Q : X → Type 0) (xs : List X) → ((x : X) → P x → Q x) → AllByRecursion P xs → AllByRecursion Q xs
all_dotted P Q [] each h = tt
all_dotted P Q (x ∷ xs) each h = (each x h.0, all_dotted P Q xs each h.1)

target_dotted : (t : Target) → TargetWhole IsPlainName t → TargetWhole IsDottedName t
target_dotted (target.Name n) h = dotted n.text h
target_dotted (target.Pin n q) h = (dotted n.text h.0, dotted q.text h.1)

argument_dotted : (a : ArgumentTree) → ArgumentWhole IsPlainName a → ArgumentWhole IsDottedName a
argument_dotted a h = (dotted a.pin.text h.0, sum_dotted a.value h.1)

statement_dotted : (s : StatementTree) → StatementWhole IsPlainName s → StatementWhole IsDottedName s
statement_dotted (Assign t s) h = (target_dotted t h.0, sum_dotted s h.1)
statement_dotted (Call n args) h = (dotted n.text h.0, all_dotted (ArgumentWhole IsPlainName) (ArgumentWhole IsDottedName) args argument_dotted h.1)

names_dotted : (ns : List Name) → NamesWhole IsPlainName ns → NamesWhole IsDottedName ns
names_dotted [] h = h
names_dotted (n ∷ ns) h = (dotted n.text h.0, all_dotted (λ m. IsPlainName m.text) (λ m. IsDottedName m.text) ns (λ m. dotted m.text) h.1)

declaration_dotted : (d : Declaration) → DeclarationWhole IsPlainName d → DeclarationWhole IsDottedName d
declaration_dotted d h = (names_dotted d.names h.0, dotted d.ty.text h.1)

section_dotted : (s : Section) → SectionWhole IsPlainName s → SectionWhole IsDottedName s
section_dotted s h = all_dotted (DeclarationWhole IsPlainName) (DeclarationWhole IsDottedName) s.declarations declaration_dotted h

source_kept : (s : SourceTree) → IsSourceWithin MOST_GROUPS s → IsSource s
source_kept s w = record {
  whole = (
    dotted s.name.text w.grammatical.0,
    all_dotted (SectionWhole IsPlainName) (SectionWhole IsDottedName) s.sections section_dotted w.grammatical.1,
    all_dotted (StatementWhole IsPlainName) (StatementWhole IsDottedName) s.statements statement_dotted w.grammatical.2,
  );
  shallow = w.nested;
}

-- ---- the flat source of a text

pub program_kept : (s : List ℕ) (p : SourceTree) → IsProgram s p → IsSource p
program_kept s p h =
    let l = h.library in
    let within = h.text.spelt.within in
    subst IsSource (sym h.is)
    (flat_whole l (each_call_gives l h.unbroken) (all_dotted (IsSourceWithin MOST_GROUPS) IsSource l.blocks source_kept within.blocks) (source_kept l.program within.program))

-- what stands for a text keeps the whole invariant
pub resolved_sound : (s : List ℕ) (net : Network) → Resolves s net → IsSound net
resolved_sound s net r =
    let kept = program_kept s r.tree r.program in
    subst IsSound (sym r.stands.is) (network_is_sound IsDottedName r.tree r.stands.unbroken kept.whole kept.shallow)
