use Rattle.calls.proofs.AnswerKinds.{of-kind, query-other}
use Rattle.calls.proofs.making.Calls.find.Goals as goal

pub typed-requires : goal.typed-requires
typed-requires g c =
    of-kind (λ r. g.Self.Calls.made c.args.self.now c.args.query.now r c.args.self.now) c.args.query.now _ c.requires.kind
    (λ reply. g.met.Self.Calls.answers c.args.self.now c.args.query.now reply c.args.self.now (query-other _ c.requires.query)) c.ask.result c.ask.ensures
