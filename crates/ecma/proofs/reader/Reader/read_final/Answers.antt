-- `read_final`: what a reader has after one more byte (`Readers`).
use Rattle.ecma.specs.{arith}
use Rattle.ecma.proofs.Readers.{reader_of, ending-follows, no_end-follows, Follows-from}
use Rattle.ecma.proofs.reader.Reader.read_final.Goals as goal
use Rattle.ecma.proofs.reader.Reader.read_final.Goals.{then-done, else-done}

pub returns : goal.returns
returns c = grind (arith, reader_of, then-done, Follows-from, ending-follows, else-done, no_end-follows)
