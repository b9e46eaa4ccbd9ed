-- What the entries of files in memory hold.
use Rattle.std.specs.Prelude.{ℕ, List, Option, String}
use Rattle.std.specs.Option.{option_map, option_map_or}
use Rattle.std.specs.BTreeMap.{BTreeMap, get_by_text}
use Rattle.std.specs.declared.alloc.Global.{Global}
use Rattle.ps_outside.specs.declared.mem_files.HeldFile.{HeldFile}
use Rattle.ps_outside.specs.declared.mem_files.MemFiles.{MemFiles}
use Rattle.ps_outside.specs.InMemory.{FilesInMemory}

-- the bytes that are held under a name
abbrev pub held_in : BTreeMap (String Global) HeldFile → List ℕ → Option (List ℕ)
held_in files name = option_map (λ file. file.bytes) (get_by_text files name)

-- the count of a name: its own where it is held, and the one of all others where it is not
abbrev pub faults_in : BTreeMap (String Global) HeldFile → ℕ → List ℕ → ℕ
faults_in files others name = option_map_or (λ file. file.faults) (get_by_text files name) others

-- the files as contracts see them
abbrev pub in_memory : MemFiles → FilesInMemory
in_memory m = record { held = held_in m.files; faults = faults_in m.files m.others; failing = m.failing.items; calls = m.calls; most = m.most }
