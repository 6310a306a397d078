use Rattle.ecma.specs.{take, Follows}
use Rattle.ecma.proofs.terminal.Terminal.feed.Given as goal

abbrev pub invariant-loop-byte : goal.invariant-loop-byte
invariant-loop-byte l = Follows (take l.byte-index l.piece) l.fn.self l.self-inside.reader
