use Rattle.std.proofs.Common.{◌-◌}
use Rattle.reports.proofs.held.print_lines.Given as goal

abbrev pub decreases-loop-port : goal.decreases-loop-port
decreases-loop-port g l = l.count - l.port
