-- `mapping::unload_witness` meets its contract: what is left to clear, from the table now, gives what all gives from the table at entry. Assumes nothing.
use Rattle.paper.specs.Files.{codes, mappings}
use Rattle.mapping.proofs.Unloading.{Unloading}
use Rattle.mapping.proofs.unload_witness.Given as goal

abbrev pub invariant-loop-v : goal.invariant-loop-v
invariant-loop-v l = Unloading (mappings (codes l.w)) l.fn.t l.t (mappings (codes l.v-iterator.bytes.now))
