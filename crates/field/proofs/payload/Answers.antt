-- `payload` is the part of the file that an extent tells.
use mathlib.Core.Path.{sym}
use Rattle.paper.specs.Files.{past}
use Rattle.paper.proofs.Scan.{payload_part}
use Rattle.field.proofs.payload.Goals as goal

pub returns-clause-bytes : goal.returns-clause-bytes
unfolding past
returns-clause-bytes c = sym (payload_part c.args.s.now c.args.e)
