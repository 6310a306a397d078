-- `bytes`: what was taken so far has answered nothing.
use Rattle.std.specs.Prelude.{◌++◌, ◌≡◌}
use Rattle.keys.specs.{Byte, Event, HasRead, List, Taken, map, take}
use Rattle.keys.proofs.decoder.Decoder.bytes.Given as goal

abbrev pub invariant-loop-at : goal.invariant-loop-at
invariant-loop-at l = record {
  asked : l.self.asked ≡ l.initial.self.asked;
  read : (events : List Event) (taken : List Taken) → HasRead events taken l.initial.self
      → HasRead (events ++ map Byte (take l.at l.piece)) taken l.self;
}
