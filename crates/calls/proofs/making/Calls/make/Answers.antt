use Rattle.calls.proofs.AnswerKinds.{of-kind}
use Rattle.calls.proofs.making.Calls.make.Goals as goal

pub typed-requires : goal.typed-requires
typed-requires g c =
    of-kind (λ r. g.Self.Calls.made c.args.self.now c.args.call.now r c.call.new.self) c.args.call.now _ c.requires.kind
    (λ reply. g.met.Self.Calls.answers c.args.self.now c.args.call.now reply c.call.new.self c.requires.other) c.call.result c.call.ensures
