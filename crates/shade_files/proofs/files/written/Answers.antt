use Rattle.std.proofs.Common.{refl}
use Rattle.shade_files.specs.Writes.{cut}
use Rattle.shade_files.proofs.files.written.Goals as goal

pub returns-in-Err : goal.returns-in-Err
returns-in-Err g c = cut c.in-Err.ensures.bytes.0 c.in-Err.ensures.bytes.1 refl c.in-Err.ensures.bytes.2 c.in-Err.ensures.cause
