-- What is told of an accepted application and a rules file that was read is read back.
use Rattle.std.proofs.Common.{◌≡◌, ◌≤◌, inl, inr, ℕ, Option, Some, None, subst, sym, ap, ◌∙◌, arith}
use Rattle.std.proofs.lemmas.Option.{get_or_from_slice_get, slice_get_within}
use Rattle.ps_model.specs.Network.{Network}
use Rattle.ps_bench_rules.specs.File.{pace_of, pace_or}
use Rattle.ps_bench_rules.specs.declared.rules.Pace.{Pace}
use Rattle.ps_bench_rules.specs.declared.rules.Pace.TheVariants.{Every}
use Rattle.ps_bench_rules.specs.declared.rules.Purpose.TheVariants.{Never, Same}
use Rattle.ps_bench_rules.specs.declared.rules.RulesFile.{RulesFile}
use Rattle.ps_bench_never.specs.ReadBack.{AreSettings, DifferenceIsRead, FoundIsRead, HasProperNames, IsPaceOf}
use Rattle.ps_bench_never.specs.SameAnswering.{no_settings}
use Rattle.ps_bench_never.proofs.Alike.{says_of_each}
use Rattle.ps_bench_never.proofs.Asking as two
use Rattle.ps_bench_never.proofs.CaseBack.{difference_back, found_back}
use Rattle.ps_bench_never.proofs.PlainNames.{plain_names, proper_names, sound_net}
use Rattle.ps_bench_never.proofs.RulesBack.{CanWrite, IsPaceShort, IsShortPace, IsWritable, file_writable}

-- the times of a file that can be written have 32 bits
pace_fits : (pace : Option Pace) (every : ℕ) → IsPaceShort pace → pace_or pace ≡ Every every → every ≤ 4294967295
pace_fits None every short is = let usual : 10 ≡ every = cc in omega (arith, usual)
pace_fits (Some pace) every short is = subst IsShortPace is short

pub paced_fits : (net : Network) (proper : HasProperNames net) (file : RulesFile) (every : ℕ) → CanWrite net proper file → IsPaceOf file every → every ≤ 4294967295
paced_fits net proper file every can (inl is) = pace_fits file.pace every can.pace is
paced_fits net proper file every can (inr (inl is)) = omega (arith, is)
paced_fits net proper file every can (inr (inr (inl is))) = omega (arith, is)
paced_fits net proper file every can (inr (inr (inr is))) = omega (arith, is)

pub settled_fits : (net : Network) → HasProperNames net → (file : RulesFile) (every : ℕ) → AreSettings net file → pace_of file ≡ Every every → every ≤ 4294967295
settled_fits net proper file every (inl read) is = pace_fits file.pace every (file_writable net proper Same read.0 file read.1).pace is
settled_fits net proper file every (inr none) is = pace_fits no_settings.pace every tt (sym (ap pace_of none) ∙ is)

pub found_is_read : FoundIsRead
found_is_read source net given sizes text file read every pace q asks r rule at path =
    let proper = proper_names source net given in
    let can = file_writable net proper Never text file read in
    let writable : IsWritable net proper rule =
    subst (IsWritable net proper) (get_or_from_slice_get file.rules r rule rule at) (can.rules r rule (slice_get_within file.rules r rule at)) in
    let fits : every ≤ 4294967295 = paced_fits net proper file every can pace in
    found_back net sizes (sound_net source net given) (plain_names source net given) q (says_of_each net file every q asks) (omega (arith, asks.pace, fits))
    rule writable.0.0 (λ k d inside. (writable.1 k d inside).short) path

pub difference_is_read : DifferenceIsRead
difference_is_read source net given sizes other file settings every pace q asks path values place =
    let fits : every ≤ 4294967295 = settled_fits net (proper_names source net given) file every settings pace in
    difference_back net sizes (sound_net source net given) (plain_names source net given) q (two.says_of_each net other file q asks.inputs)
    (omega (arith, asks.pace, fits)) path values place
