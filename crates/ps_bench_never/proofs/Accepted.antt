-- What is told of an accepted application and a rules file that was read is not refused within the limits.
use Rattle.std.proofs.Common.{◌≡◌, ◌≤◌, ◌∙◌, ℕ, suc, List, [], ◌∷◌, IfOk, Result, get_or, length, subst, ap, refl, arith}
use Rattle.std.proofs.lemmas.Option.{get_or_from_slice_get, slice_get_within}
use Rattle.ps_model.specs.Meaning.{Item}
use Rattle.ps_model.specs.Network.{Network, names}
use Rattle.ps_model.specs.declared.channel.ImageSizes.{ImageSizes}
use Rattle.ps_reach.specs.Asking.{Point, at_first}
use Rattle.ps_reach.specs.Reaching.{next_point}
use Rattle.ps_reach.specs.Telling as paced
use Rattle.ps_reach.specs.Telling.{inputs_from, scans_at}
use Rattle.ps_reach.specs.declared.asked.Asked.{Asked}
use Rattle.ps_bench_cases.specs.declared.case.CaseFile.{CaseFile}
use Rattle.ps_bench_cases.specs.declared.rule.CaseRefusal.{CaseRefusal}
use Rattle.ps_bench_rules.specs.declared.rules.Purpose.TheVariants.{Never}
use Rattle.ps_bench_never.specs.Casing.{has_times}
use Rattle.ps_bench_never.specs.ReadBack.{CaseIsAccepted, ConditionIsRead, DifferenceIsAccepted, FoundIsAccepted, HasPlainNames, HasProperNames, IsOneCaseOf, IsReadAs}
use Rattle.ps_bench_never.specs.SameTelling.{difference_case, output_text, outputs_text}
use Rattle.ps_bench_never.proofs.Alike.{says_of_each}
use Rattle.ps_bench_never.proofs.Asking as two
use Rattle.ps_bench_never.proofs.CaseBack.{case_is_read, found_sizes}
use Rattle.ps_bench_never.proofs.CaseTaken.{Taken, case_goes, case_taken, within_fits}
use Rattle.ps_bench_never.proofs.CheckBack.{check_back}
use Rattle.ps_bench_never.proofs.OutputBack.{output_title, outputs_taken, title_of}
use Rattle.ps_bench_never.proofs.OutputNames.{outputs_short}
use Rattle.ps_bench_never.proofs.PlainNames.{plain_bytes, plain_names, proper_names, sound_net}
use Rattle.ps_bench_never.proofs.RulesBack.{IsWritable, file_writable, one_name}
use Rattle.ps_bench_never.proofs.ToldBack.{difference_is_read, found_is_read, paced_fits, settled_fits}

-- what is not refused is read as it is where it is not refused
read_as : (net : Network) (sizes : ImageSizes) (items : List Item) (r : Result CaseFile CaseRefusal) → Taken net sizes r → IfOk r (IsOneCaseOf net items) → IsReadAs net items r
read_as net sizes items r taken read =
    record { file = taken.0; accepts = taken.1; makes = subst (λ (x : Result CaseFile CaseRefusal). IfOk x (IsOneCaseOf net items)) taken.1 read }

-- proper names are plain
pub plain_of : (net : Network) → HasProperNames net → HasPlainNames net
plain_of net proper k d inside = plain_bytes (get_or (names net) k d) (proper k d inside).bytes

pub case_is_accepted : CaseIsAccepted
case_is_accepted net sizes sound proper name title every small cs short read scans sizes_are timed within =
    let plain = plain_of net proper in
    let one = one_name name title.may in
    read_as net sizes (scans_at 0 every scans) _ (case_taken net sizes sound proper plain every small scans sizes_are timed name title one cs short read within)
    (case_is_read net sizes sound plain name one every small cs short scans sizes_are)

pub condition_is_read : ConditionIsRead
condition_is_read source net given text file read k rule inside j c within =
    let proper = proper_names source net given in
    check_back net proper _ (((file_writable net proper Never text file read).rules k rule inside).1 j c within)

-- there are as many scans as there are numbers
pub inputs_size : (net : Network) (q : Asked) (p : Point) (path : List ℕ) → length (inputs_from net q p path) ≡ length path
inputs_size net q p [] = refl
inputs_size net q p (a ∷ path) = ap suc (inputs_size net q (next_point net q p a) path)

pub found_is_accepted : FoundIsAccepted
found_is_accepted source net given sizes text file read every pace q asks r rule at path timed within =
    let proper = proper_names source net given in
    let can = file_writable net proper Never text file read in
    let writable : IsWritable net proper rule =
    subst (IsWritable net proper) (get_or_from_slice_get file.rules r rule rule at) (can.rules r rule (slice_get_within file.rules r rule at)) in
    let fits : every ≤ 4294967295 = paced_fits net proper file every can pace in
    let scans = inputs_from net q (at_first net) path in
    let count : length scans ≡ length path = inputs_size net q (at_first net) path in
    read_as net sizes (paced.items_of net q path) _
    (case_taken net sizes (sound_net source net given) proper (plain_names source net given) q.every (omega (arith, asks.pace, fits)) scans
    (found_sizes net q (at_first net) path (says_of_each net file every q asks)) (ap (has_times q.every) count ∙ timed) rule.name writable.0.1 writable.0.0
    rule.conditions (λ k d inside. (writable.1 k d inside).short) (λ k d inside. check_back net proper _ (writable.1 k d inside)) within)
    (found_is_read source net given sizes text file read every pace q asks r rule at path)

pub difference_is_accepted : DifferenceIsAccepted
difference_is_accepted source net given sizes other file settings every pace q asks path some timed values place inside within =
    let proper = proper_names source net given in
    let plain = plain_names source net given in
    let sound = sound_net source net given in
    let fits : every ≤ 4294967295 = settled_fits net proper file every settings pace in
    let scans = inputs_from net q (at_first net) path in
    let count : length scans ≡ length path = inputs_size net q (at_first net) path in
    let name = title_of (output_text net place) in
    let total = paced.items_of net q path in
    let title = output_title net sound proper plain place inside (outputs_short source net given) in
    read_as net sizes total _
    (case_goes net sizes sound proper plain q.every (omega (arith, asks.pace, fits)) scans
    (found_sizes net q (at_first net) path (two.says_of_each net other file q asks.inputs)) (ap (has_times q.every) count ∙ timed) name title (one_name name title.may)
    [] (λ k d small. absurd (omega (arith, small))) (outputs_text net values) within.traced
    (λ d number at n time ins stands many far fits'. outputs_taken net sound proper plain sizes values name total within.traced place inside d number at n time ins stands
    (many (omega (arith, count, some))) far fits')
    (within_fits net sizes name total (difference_case net q path values place) within))
    (difference_is_read source net given sizes other file settings every pace q asks path values place)
