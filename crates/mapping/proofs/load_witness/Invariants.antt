-- `mapping::load_witness` meets its contract: the variables passed are those that the table has mapped, each listed once. Assumes nothing.
use Rattle.paper.specs.Files.{codes, mappings}
use Rattle.mapping.proofs.Loading.{Loading}
use Rattle.mapping.proofs.load_witness.Given as goal

abbrev pub invariant-loop-k : goal.invariant-loop-k
invariant-loop-k l = Loading l.w l.fn.t l.t (mappings (codes l.k-iterator.iter.bytes.now)) l.k-iterator.count
