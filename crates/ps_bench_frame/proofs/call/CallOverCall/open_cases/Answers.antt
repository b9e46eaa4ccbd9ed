use Rattle.std.proofs.Common.{refl}
use Rattle.ps_bench_frame.proofs.Leaving.{reads_one}
use Rattle.ps_bench_frame.proofs.Coming.{cases_no_write, opens_cases}
use Rattle.ps_bench_frame.specs.Opening.{source}
use Rattle.ps_bench_frame.proofs.call.CallOverCall.open_cases.Goals as goal

pub returns-clause-opens : goal.returns-clause-opens
returns-clause-opens g c =
    let files = c.args.self.now.files.now in
    let does = c.open_cases.ensures in
    opens_cases (source c.args.opened.now.app c.args.opened.now.sizes (g.F.Files.tells files) (g.F.Files.held files)) c.args.name.now c.open_cases.result does.of_text does.found does.why

pub returns-clause-reads : goal.returns-clause-reads
returns-clause-reads g c =
    let files = c.args.self.now.files.now in
    let does = c.open_cases.ensures in
    reads_one c.args.name.now _ _ c.open_cases.result
    (record { files = record { counts = does.reads; held = does.kept; telling = does.reading }; out = refl; loans = refl }) does.unread
    (cases_no_write (source c.args.opened.now.app c.args.opened.now.sizes (g.F.Files.tells files) (g.F.Files.held files)) c.args.name.now c.open_cases.result does.why)
