-- What files are named by: the SHA-256 of their bytes.
use Rattle.std.specs.Prelude.{ℕ, IsTrue, List, [], ◌∷◌, ◌++◌}
use Rattle.ps_bench_frame.specs.Opening.{Source}
use Rattle.ps_bench_report.specs.Files.{file_row}
use Rattle.ps_bench_report.specs.declared.page.Piece.{Piece}
use Rattle.ps_bench_trials.specs.Naming.{Names}

-- it is that of the bytes of the file of this name, where these are known
abbrev pub IsDigest : Source → (name digest : List ℕ) → Type 0
IsDigest from name digest = IsTrue from.tells → Names (from.held name) digest

-- they are those of files of these names, in order
abbrev pub AreDigests : Source → (names digests : List (List ℕ)) → Type 0
AreDigests from [] [] = Unit {0}
AreDigests from [] (digest ∷ digests) = ⊥
AreDigests from (name ∷ names) [] = ⊥
AreDigests from (name ∷ names) (digest ∷ digests) = IsDigest from name digest × AreDigests from names digests

-- the rows of files of these names, which are named so
abbrev pub file_rows : (names digests : List (List ℕ)) → List Piece
file_rows [] digests = []
file_rows (name ∷ names) [] = []
file_rows (name ∷ names) (digest ∷ digests) = file_row name digest ++ file_rows names digests
