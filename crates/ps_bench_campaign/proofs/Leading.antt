-- The items of a trace, as far as they were read, and those that are left.
use Rattle.std.proofs.Common.{◌≡◌, ◌∙◌, List, [], ◌∷◌, ◌++◌, sym, ap, append_assoc, append-nil}
use Rattle.ps_model.specs.Meaning.{Item}
use Rattle.ps_trace.specs.Reading.{Begins}
use Rattle.ps_trace.specs.Scans.{End, Scans}
use Rattle.ps_trace.specs.Scans.End.{whole}

-- these items were read, and the rest is left
abbrev pub Leads : Scans → List Item → Scans → Type 0
Leads all read rest = all ≡ record { items = read ++ rest.items; end = rest.end }

-- one item more was read
pub leads_more : (all rest rest' : Scans) (read read' : List Item) (item : Item) → Leads all read rest → Begins rest item rest' →
    read' ≡ read ++ item ∷ [] → Leads all read' rest'
leads_more all rest rest' read read' item so begins is =
    so ∙ ap (λ (r : Scans). record { items = read ++ r.items; end = r.end }) begins
    ∙ sym (ap (λ (items : List Item). record { items = items; end = rest'.end }) (append_assoc read (item ∷ []) rest'.items))
    ∙ sym (ap (λ (items : List Item). record { items = items ++ rest'.items; end = rest'.end }) is)

-- nothing is left
pub leads_all : (all rest : Scans) (read : List Item) → Leads all read rest → rest ≡ record { items = []; end = whole } →
    all ≡ record { items = read; end = whole }
leads_all all rest read so none =
    so ∙ ap (λ (r : Scans). record { items = read ++ r.items; end = r.end }) none
    ∙ ap (λ (items : List Item). record { items = items; end = whole }) (append-nil read)

-- it ends as the rest does
pub leads_end : (all rest : Scans) (read : List Item) (end : End) → Leads all read rest → rest.end ≡ end → all.end ≡ end
leads_end all rest read end so is = ap (λ (r : Scans). r.end) so ∙ is
