-- The application of a source that breaks no rule, from its parts.
use Rattle.std.proofs.Common.{◌≡◌, ◌≤◌, ℕ, List, [], None, map, filter, sym, ap, subst, ◌∙◌, arith, nat_le, true}
use Rattle.std.specs.Prelude.{sum_by}
use Rattle.std.proofs.lemmas.Bool.{and_parts}
use Rattle.std.proofs.lemmas.Bool.Decides.{nat_tests}
use Rattle.ps_base.specs.declared.limits.TheConstants.{MOST_SIGNALS, MOST_INSTANCES, MOST_NODES}
use Rattle.ps_model.specs.declared.named.Signal as model_signal
use Rattle.ps_model.specs.declared.named.Instance as model_instance
use Rattle.ps_model.specs.Action.{Action}
use Rattle.ps_model.specs.Network.{Network, made_of}
use Rattle.ps_model.specs.Sound.{IsSound}
use Rattle.std.specs.List.{flat_map}
use Rattle.ps_parser.specs.declared.section.Section.{Section}
use Rattle.ps_parser.specs.Tree.{SourceTree, StatementTree}
use Rattle.ps_parser.specs.Names.{IsDottedName}
use Rattle.ps_parser.specs.Whole.{IsSource}
use Rattle.ps_names.specs.declared.entry.Entry.{Entry}
use Rattle.ps_names.specs.Names.{entries, section_entries, is_input, is_output, is_local, is_instance}
use Rattle.ps_names.specs.Offences.{refused, IsFirst}
use Rattle.ps_names.specs.Limits.{instances, signals, statement_nodes}
use Rattle.ps_names.specs.Rules.{offences, offences_in}
use Rattle.ps_names.specs.Stands.{network, network_of, signal_named, instance_named, action}
use Rattle.ps_names.proofs.Firsts.{refused_first}
use Rattle.ps_names.proofs.Unbroken.{unbroken}
use Rattle.ps_names.proofs.Whole.{network_is_sound}

le_of : (a b : ℕ) → nat_le a b ≡ true → a ≤ b
le_of a b h = grind (arith, nat_tests)

-- where no rule is broken, the limits hold
pub few_signals : (p : SourceTree) (es : List Entry) → es ≡ entries p → offences p ≡ [] → signals es ≤ MOST_SIGNALS
few_signals p es is clean =
    let a = and_parts _ (nat_le (sum_by statement_nodes p.statements) MOST_NODES) (unbroken p.name.place (entries p) p.statements clean).within in
    let b = and_parts _ (nat_le (signals (entries p)) MOST_SIGNALS) a.0 in
    subst (λ e. signals e ≤ MOST_SIGNALS) (sym is) (le_of (signals (entries p)) MOST_SIGNALS b.1)

pub few_instances : (p : SourceTree) (es : List Entry) → es ≡ entries p → offences p ≡ [] → instances es ≤ MOST_INSTANCES
few_instances p es is clean =
    let a = and_parts _ (nat_le (sum_by statement_nodes p.statements) MOST_NODES) (unbroken p.name.place (entries p) p.statements clean).within in
    let b = and_parts _ (nat_le (signals (entries p)) MOST_SIGNALS) a.0 in
    let c = and_parts _ (nat_le (instances (entries p)) MOST_INSTANCES) b.0 in
    subst (λ e. instances e ≤ MOST_INSTANCES) (sym is) (le_of (instances (entries p)) MOST_INSTANCES c.1)

-- the parts are those of the source's application
pub made_is : (p : SourceTree) (es : List Entry) (name : List ℕ) (i o l : List model_signal.Signal) (n : List model_instance.Instance) (s : List Action) →
    es ≡ entries p → name ≡ p.name.text → i ≡ map signal_named (filter (λ e. is_input e.sort) es) → o ≡ map signal_named (filter (λ e. is_output e.sort) es) →
    l ≡ map signal_named (filter (λ e. is_local e.sort) es) → n ≡ map instance_named (filter (λ e. is_instance e.sort) es) → s ≡ map (action es) p.statements →
    made_of name i o l n s ≡ network p
made_is p es name i o l n s is a b c d e f =
    let ins = map signal_named (filter (λ x. is_input x.sort) es) in
    let outs = map signal_named (filter (λ x. is_output x.sort) es) in
    let locs = map signal_named (filter (λ x. is_local x.sort) es) in
    let blocks = map instance_named (filter (λ x. is_instance x.sort) es) in
    ap (λ x. made_of x i o l n s) a ∙ ap (λ x. made_of p.name.text x o l n s) b ∙ ap (λ x. made_of p.name.text ins x l n s) c
    ∙ ap (λ x. made_of p.name.text ins outs x n s) d ∙ ap (λ x. made_of p.name.text ins outs locs x s) e ∙ ap (λ x. made_of p.name.text ins outs locs blocks x) f
    ∙ ap (λ x. network_of p.name.text x p.statements) is

pub network_sound : (p : SourceTree) (net : Network) → net ≡ network p → IsSource p → offences p ≡ [] → IsSound net
network_sound p net is source clean =
    subst IsSound (sym is) (network_is_sound IsDottedName p clean source.whole source.shallow)

-- where nothing is refused, no rule is broken
pub none_refused : (p : SourceTree) → None ≡ refused (offences p) → offences p ≡ []
none_refused p none = subst (IsFirst (offences p)) (sym none) (refused_first (offences p))

-- the offences that the passes note are those of the source
pub offences_are : (p q : SourceTree) (es items : List Entry) (sections : List Section) (ss : List StatementTree) →
    es ≡ items → items ≡ flat_map section_entries sections → sections ≡ q.sections → ss ≡ q.statements → q ≡ p → offences_in q.name.place es ss ≡ offences p
offences_are p q es items sections ss a b c d e =
    ap (λ x. offences_in q.name.place x ss) (a ∙ b ∙ ap (flat_map section_entries) c) ∙ ap (offences_in q.name.place (entries q)) d ∙ ap offences e
