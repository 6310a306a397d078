use Rattle.stack.proofs.Tables.{entered-made}
use Rattle.stack.proofs.entries.enter.Goals as goal

pub returns-clause-entered : goal.returns-clause-entered
returns-clause-entered c =
    entered-made c.args.nodes.now c.make_node.new.nodes c.set_window.new.self c.args.number c.args.win.0
    c.requires.free c.in_ok-make_node.ensures.made c.set_window.ensures
