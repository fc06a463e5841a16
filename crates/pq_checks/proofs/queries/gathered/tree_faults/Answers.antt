use Rattle.std.proofs.Common.{◌++◌, ap, ◌∙◌}
use Rattle.std.specs.Option.{option_copied}
use Rattle.pq_checks.specs.Faults.{unread_table, link_table, definition_table, message_table, enumeration_table, type_table}
use Rattle.pq_checks.specs.Members.{sited}
use Rattle.pq_checks.specs.aux.Gathering.{surroundings_of}
use Rattle.pq_checks.specs.aux.Spots.{sited_in}
use Rattle.pq_checks.proofs.Joined.{table_in_turn}
use Rattle.pq_checks.proofs.queries.gathered.tree_faults.Goals as goal

pub returns : goal.returns
returns c =
    let nodes = c.args.nodes.now in
    let all = sited nodes in
    let s = surroundings_of c.args.known.now c.args.imported.now (option_copied c.args.next) in
    let spots = ap sited_in c.as_slice-spots.ensures.value ∙ c.in_ok-spots.ensures.spots in
    let d = definition_table s nodes in
    let m = message_table all ++ enumeration_table all in
    let t = type_table s nodes in
    let one = c.push_unread_faults.new.faults.items in
    let two = c.push_links.new.faults.items in
    let three = c.push_definitions.new.faults.items in
    let four = c.push_member_faults.new.faults.items in
    let last = c.push_types.new.faults.items in
    record {
      faults = rw (c.new-faults.ensures.items) at
          (table_in_turn (unread_table all) (link_table s all ++ d ++ m ++ t) c.new-faults.result.items one last (rw (spots) at c.in_ok-push_unread_faults.ensures.said)
          (table_in_turn (link_table s all) (d ++ m ++ t) one two last (rw (spots) at c.in_ok-push_links.ensures.said)
          (table_in_turn d (m ++ t) two three last c.in_ok-push_definitions.ensures.said
          (table_in_turn m t three four last (rw (spots) at c.in_ok-push_member_faults.ensures.said) c.in_ok-push_types.ensures.said))));
    }
