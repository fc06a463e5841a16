use Rattle.std.proofs.Common.{◌+◌, ◌*◌, length}
use Rattle.pq_proto.specs.Bodies.{Body}
use Rattle.pq_proto.specs.Compile.{position_in}
use Rattle.pq_proto.specs.Symbols.{symbols_in}
use Rattle.pq_proto.specs.aux.Rests.{left}
use Rattle.pq_proto.proofs.ListSteps.{LeftTo}
use Rattle.pq_proto.proofs.symbols.+symbols.Given as goal

abbrev pub decreases-print_each_symbol : goal.decreases-print_each_symbol
decreases-print_each_symbol l = 3 * length l.body.now.nodes

abbrev pub decreases-print_symbol : goal.decreases-print_symbol
decreases-print_symbol l = 3 * length l.held.now.inside.nodes + 1

abbrev pub decreases-print_symbols_at : goal.decreases-print_symbols_at
decreases-print_symbols_at l = 3 * length l.held.now.inside.nodes + 2

abbrev pub invariant-print_each_symbol-statements : goal.invariant-print_each_symbol-statements
invariant-print_each_symbol-statements l =
    LeftTo (λ (b : Body). symbols_in (position_in l.file) b) l.fn.out l.out (left l.body) (left l.rest) (length l.rest.nodes) (length l.body.nodes)

abbrev pub decreases-print_each_symbol-statements : goal.decreases-print_each_symbol-statements
decreases-print_each_symbol-statements l = length l.rest.nodes
