-- The rules on names and drivers: what breaks each of them, and where.
-- A rule may list a place where a lower rule is broken too, since the lowest rule decides.
use Rattle.std.specs.Prelude.{ℕ, Bool, false, not, nat_lt, List, [], ◌∷◌, ◌++◌, Option, None, Some, map, length}
use Rattle.std.specs.Prelude.{position, if◌then◌else◌}
use Rattle.std.specs.List.{flat_map, list_any}
use Rattle.ps_base.specs.declared.failing.Place.{Place}
use Rattle.ps_base.specs.declared.failing.Refusal.{Refusal}
use Rattle.ps_base.specs.declared.failing.Rule.{Rule}
use Rattle.ps_base.specs.declared.failing.Rule.TheVariants.{N1, N2, N3, N4, N5, N6, N7, N8, N9, N10, N11, N12}
use Rattle.ps_model.specs.declared.kind.Kind.{Kind}
use Rattle.ps_model.specs.Blocks.{block}
use Rattle.ps_model.specs.Pins.{pin_names}
use Rattle.ps_parser.specs.declared.name.Name.{Name}
use Rattle.ps_parser.specs.Tree.{StatementTree, SourceTree}
use Rattle.ps_names.specs.declared.entry.Entry.{Entry}
use Rattle.ps_names.specs.declared.entry.Sort.{Sort}
use Rattle.ps_names.specs.declared.entry.Sort.TheVariants.{OutputSignal, LocalSignal, InputSignal, Instance, Nothing}
use Rattle.ps_names.specs.Offences.{offence, when, unless}
use Rattle.ps_base.specs.LetterCase.{is_same_name}
use Rattle.ps_names.specs.Names.{same, entries, sort_of}
use Rattle.ps_names.specs.Uses.{Use, reads, reads_pin, drives, drives_pin, runs, gives, strays, statement_uses}
use Rattle.ps_names.specs.Uses.{assigned, called, named_pins, read_names}
use Rattle.ps_names.specs.Limits.{is_within}

-- ---- names that come again

-- each of these names that equals an earlier one, of these or of those that stand before them
abbrev pub repeated : Rule → List Name → List Name → List Refusal
repeated rule before [] = []
repeated rule before (n ∷ ns) = when (list_any (same n) before) (offence rule n.place ∷ []) ++ repeated rule (before ++ n ∷ []) ns

-- N1: a name is declared again. Each later declaration, in the order of the declared names, is an offence, so a name
-- that is declared three times has two; as of all offences of one rule, the one at the earliest place is named.
abbrev pub declared_twice : List Entry → List Refusal
declared_twice es = repeated N1 [] (map (λ e. e.name) es)

-- N5: a call names a pin twice
abbrev pub pins_twice : StatementTree → List Refusal
pins_twice s = repeated N5 [] (named_pins s)

-- N7: a signal has two assignments
abbrev pub assigned_twice : List StatementTree → List Refusal
assigned_twice ss = repeated N7 [] (flat_map assigned ss)

-- N9: an instance is called twice
abbrev pub called_twice : List StatementTree → List Refusal
called_twice ss = repeated N9 [] (flat_map called ss)

-- ---- N3: a type is none, or does not fit its section

-- Of a name of this sort, whose type stands at this place.
abbrev pub untyped_as : Place → Sort → List Refusal
untyped_as place Nothing = offence N3 place ∷ []
untyped_as place _ = []

-- Of a declared name.
abbrev pub untyped : Entry → List Refusal
untyped e = untyped_as e.ty e.sort

-- ---- one use of a name: N2, N4, N6 and N12

-- the number of the pin with this name in its kind's table
abbrev pub pin_at : Kind → Name → Option ℕ
pin_at kind q = position (is_same_name q.text) (pin_names kind)

-- The pin with this number is an input of the kind.
abbrev pub takes : Kind → Option ℕ → Bool
takes kind None = false
takes kind (Some j) = nat_lt j (length (block kind).inputs)

-- The pin with this number is an output of the kind.
abbrev pub puts : Kind → Option ℕ → Bool
puts kind None = false
puts kind (Some j) = not (nat_lt j (length (block kind).inputs))

-- the kind has an input, or an output, with this name
abbrev pub has_input : Kind → Name → Bool
has_input kind q = takes kind (pin_at kind q)

-- The kind has an output with this name.
abbrev pub has_output : Kind → Name → Bool
has_output kind q = puts kind (pin_at kind q)

-- N2: a name is not declared
abbrev pub unknown : Name → List Refusal
unknown n = offence N2 n.place ∷ []

-- N4: a name is of the wrong sort, or a pin is unknown or of the wrong direction
abbrev pub wrong : Name → List Refusal
wrong n = offence N4 n.place ∷ []

-- N6: an input or a pin's output is assigned
abbrev pub unassignable : Name → List Refusal
unassignable n = offence N6 n.place ∷ []

-- what is broken where a name of this sort is used so; None: it is not declared
abbrev pub at_read : Name → Option Sort → List Refusal
at_read n None = unknown n
at_read n (Some (Instance kind)) = wrong n
at_read n (Some _) = []

-- Of a pin of a name that is read: an output of an instance is right.
abbrev pub at_read_pin : Name → Name → Option Sort → List Refusal
at_read_pin n q None = unknown n
at_read_pin n q (Some (Instance kind)) = unless (has_output kind q) (wrong q)
at_read_pin n q (Some _) = wrong n

-- Of a name that is assigned: an output or a local is right.
abbrev pub at_drive : Name → Option Sort → List Refusal
at_drive n None = unknown n
at_drive n (Some (Instance kind)) = wrong n
at_drive n (Some (InputSignal t)) = unassignable n
at_drive n (Some _) = []

-- Of a pin of a name that is assigned: none is right.
abbrev pub at_drive_pin : Name → Name → Option Sort → List Refusal
at_drive_pin n q None = unknown n
at_drive_pin n q (Some (Instance kind)) = if has_output kind q then unassignable n else wrong q
at_drive_pin n q (Some _) = wrong n

-- Of a name that is called: an instance is right.
abbrev pub at_call : Name → Option Sort → List Refusal
at_call n None = unknown n
at_call n (Some (Instance kind)) = []
at_call n (Some _) = wrong n

-- of the pins of a called name that is no instance no rule speaks
abbrev pub at_argument : Name → Option Sort → List Refusal
at_argument q (Some (Instance kind)) = unless (has_input kind q) (wrong q)
at_argument q _ = []

-- N12: a literal is not the whole argument of a pin
abbrev pub stray : Place → List Refusal
stray place = offence N12 place ∷ []

-- what a use breaks under these declarations
abbrev pub broken_by : List Entry → Use → List Refusal
broken_by es (reads n) = at_read n (sort_of es n)
broken_by es (reads_pin n q) = at_read_pin n q (sort_of es n)
broken_by es (drives n) = at_drive n (sort_of es n)
broken_by es (drives_pin n q) = at_drive_pin n q (sort_of es n)
broken_by es (runs n) = at_call n (sort_of es n)
broken_by es (gives n q) = at_argument q (sort_of es n)
broken_by es (strays place) = stray place

-- ---- N8: an output has no assignment, or a local that is read has none

-- Of a name of this sort, which is assigned or not and read or not.
abbrev pub undriven_as : Sort → Bool → Bool → Name → List Refusal
undriven_as (OutputSignal t) is_assigned is_read n = unless is_assigned (offence N8 n.place ∷ [])
undriven_as (LocalSignal t) is_assigned is_read n = unless is_assigned (when is_read (offence N8 n.place ∷ []))
undriven_as _ is_assigned is_read n = []

-- Of a declared name, where these names are assigned and these are read.
abbrev pub undriven : List Name → List Name → Entry → List Refusal
undriven targets values e = undriven_as e.sort (list_any (same e.name) targets) (list_any (same e.name) values) e.name

-- ---- N10: an instance is never called

-- Of a name of this sort, which is called or not.
abbrev pub uncalled_as : Sort → Bool → Name → List Refusal
uncalled_as (Instance kind) has_call n = unless has_call (offence N10 n.place ∷ [])
uncalled_as _ has_call n = []

-- Of a declared name, where these names are called.
abbrev pub uncalled : List Name → Entry → List Refusal
uncalled calls e = uncalled_as e.sort (list_any (same e.name) calls) e.name

-- ---- N11: a limit is passed, at the program's name

-- Of a program whose name stands at this place.
abbrev pub too_large : Place → List Entry → List StatementTree → List Refusal
too_large place es ss = unless (is_within es ss) (offence N11 place ∷ [])

-- ---- all rules

-- every offence of a program whose name stands at this place, with these declarations and statements
abbrev pub offences_in : Place → List Entry → List StatementTree → List Refusal
offences_in place es ss =
    declared_twice es
    ++ flat_map untyped es
    ++ flat_map (broken_by es) (flat_map statement_uses ss)
    ++ flat_map pins_twice ss
    ++ assigned_twice ss
    ++ flat_map (undriven (flat_map assigned ss) (read_names ss)) es
    ++ called_twice ss
    ++ flat_map (uncalled (flat_map called ss)) es
    ++ too_large place es ss

-- Every offence of a source.
abbrev pub offences : SourceTree → List Refusal
offences p = offences_in p.name.place (entries p) p.statements
