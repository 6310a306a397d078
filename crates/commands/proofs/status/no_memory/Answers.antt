-- `no_memory`: what is written is the line that another function gives.
use Rattle.commands.proofs.status.no_memory.Goals as goal

pub returns-clause-logs : goal.returns-clause-logs
returns-clause-logs g c = rw c.no_memory_line.ensures at c.write_log.ensures
