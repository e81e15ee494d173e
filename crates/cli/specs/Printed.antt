-- What the check program prints of two files.
use Rattle.paper.specs.declared.Verdict.{Verdict}
use Rattle.paper.specs.Files.{File}
use Rattle.paper.specs.Answers.{Answer}
use Rattle.paper.specs.Line.{line}
use Rattle.line.specs.declared.Line.{Line}
use Rattle.line.specs.Put.{Holds}

-- the line of the answer to a call with the work memory that the paper asks for
pub record Printed (formula proof : File) (l : Line) : Type 0 where
  pub verdict : Verdict
  pub right : Answer 16384 8192 formula proof verdict
  pub holds : Holds l (line verdict)
