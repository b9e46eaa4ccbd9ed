use Rattle.std.proofs.Common.{refl, arith}
use Rattle.ps_outside.proofs.disk.DiskFilesFiles.TheImpl.Goals as goal

-- the files tell nothing
pub read_at-tells : goal.read_at-tells
read_at-tells g c = record {
  fits = c.ensures.fits;
  found = λ tells. cc;
  bytes = λ tells. cc;
  failed = c.ensures.failed;
  exact = grind arith;
  counts = λ other. c.ensures.counts;
  kept = refl;
  telling = refl;
}
