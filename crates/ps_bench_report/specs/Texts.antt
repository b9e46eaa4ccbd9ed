-- The sentences of a report that are the same in every one.
use Rattle.std.specs.Prelude.{ℕ, List, [], ◌∷◌, ◌++◌, codes}

-- what stands in the place of a text that is empty
abbrev pub no_source : List ℕ
no_source = codes "It is empty."

abbrev pub no_notes : List ℕ
no_notes = codes "There are no notes on the application."

abbrev pub no_demands : List ℕ
no_demands = codes "There is no SAFEBOOL output."

abbrev pub no_coverage : List ℕ
no_coverage = codes "Nothing is counted."

-- what stands in the place of demands where one of them is too large
abbrev pub large_demand : List ℕ
large_demand = codes "The demand of an output has over 1,000 leaves.\n"

-- what is claimed of results
abbrev pub of_results : List ℕ
of_results =
    codes "A case is told as passed exactly where each of its expectations holds in its run, and no scan "
    ++ codes "tripped that was not expected to. The run is that of both channels of the simulated controller."

-- what is claimed of the page
abbrev pub of_page : List ℕ
of_page =
    codes "The rows of the table of results are proved to be those of the runs: name, place, result and number "
    ++ codes "of scans. So is that no byte of a name or a text of this page stands where it could be read as a "
    ++ codes "part of the page."

-- what is claimed of texts
abbrev pub of_texts : List ℕ
of_texts =
    codes "It is proved that the title, the SHA-256 of the files, the total of the results, the source with the "
    ++ codes "numbers of its lines, the notes with their places and the demands are those of the application and of its files."

-- what is claimed of diagrams
abbrev pub of_diagrams : List ℕ
of_diagrams =
    codes "Of the timing diagrams, and of the tables of what changes, it is proved that the values of a scan are those "
    ++ codes "of the run that the case means, that a scan which is left out has the values of the one that is shown "
    ++ codes "before it, that each expectation stands at its scan, with FAIL where it failed, and how all of this is "
    ++ codes "drawn. Which scans are left out is what the program computed: that is tried, and not proved."

-- what is claimed of coverage
abbrev pub of_coverage : List ℕ
of_coverage =
    codes "A case that passes says nothing of other inputs, other times or other faults. Coverage counts what "
    ++ codes "the cases have shown, and 100 % says no more than that. It is proved to be that of their runs."

-- the limits of what is claimed
abbrev pub of_times : List ℕ
of_times =
    codes "Times are those of the cases. Nothing is said of a real controller, its inputs and outputs, or how "
    ++ codes "long it takes."

abbrev pub of_program : List ℕ
of_program =
    codes "The program is a simulator. This page is no certificate, and stands for no assessment by an "
    ++ codes "independent person."

-- what is claimed, and what is not, in their order
abbrev pub claims : List (List ℕ)
claims = of_results ∷ of_page ∷ of_texts ∷ of_diagrams ∷ of_coverage ∷ of_times ∷ of_program ∷ []
