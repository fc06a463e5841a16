use Rattle.pq_core.specs.Ledger.{unused}
use Rattle.pq_core.proofs.CoreLeaving.{new_lanes}
use Rattle.pq_core.proofs.lanes.cores.Core.new.Goals as goal

pub invariant_of-result : goal.invariant_of-result
invariant_of-result g c =
    record {
      above = c.new-2.ensures.above _;
      none_handed = c.new.ensures.none;
      ledger = (unused c.args.inputs, rw c.new.ensures.rules (record { inputs = c.new.ensures.stands.inputs; store = c.new.ensures.stands; lanes = new_lanes g.O.Outbox.puts c.new-2.result c.args.inputs c.new-2.ensures.none }));
    }

pub returns-clause-stands : goal.returns-clause-stands
returns-clause-stands g c =
    record { inputs = c.new.ensures.stands.inputs; store = c.new.ensures.stands; lanes = new_lanes g.O.Outbox.puts c.new-2.result c.args.inputs c.new-2.ensures.none }
