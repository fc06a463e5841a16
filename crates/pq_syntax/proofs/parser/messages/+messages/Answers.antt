use Rattle.std.proofs.Common.{◌∙◌, arith}
use Rattle.pq_syntax.specs.Parts.{list_of}
use Rattle.pq_syntax.specs.Tree.{item_nodes}
use Rattle.pq_syntax.specs.declared.tree.Statement.TheVariants.{Message}
use Rattle.pq_syntax.proofs.Bodies.{body_adds, one_deeper}
use Rattle.pq_syntax.proofs.MessageItems.{begins_message, message_fails, other, other_fault, other_taken}
use Rattle.pq_syntax.proofs.Shorter.{begins_shorter}
use Rattle.pq_syntax.proofs.Steps.{adding_begins, adding_ends, adding_fails, adding_goes, fails_added, fails_first, fails_read}
use Rattle.pq_syntax.proofs.Failing.{fails_on}
use Rattle.pq_syntax.proofs.parser.messages.+messages.Goals as goal

pub parse_item-overflow_sub-within : goal.parse_item-overflow_sub-within
parse_item-overflow_sub-within t c = let lead = rw c.in-Message.is at c.requires.lead in omega (arith, lead.0)

pub parse_item-returns-in-Message-clause-taken : goal.parse_item-returns-in-Message-clause-taken
parse_item-returns-in-Message-clause-taken t c =
    let lead = rw c.in-Message.is at c.requires.lead in
    begins_message c.args.context.text.now c.args.context.brackets c.args.tokens.now c.args.levels lead.0 lead.1 c.args.depth
    c.args.nodes.now.items c.parse_message.new.nodes.items c.parse_message.result c.parse_message.ensures.taken

pub parse_item-returns-in-Message-clause-fault : goal.parse_item-returns-in-Message-clause-fault
parse_item-returns-in-Message-clause-fault t c =
    let lead = rw c.in-Message.is at c.requires.lead in
    message_fails c.args.context.text.now c.args.context.brackets c.args.tokens.now c.args.levels lead.0 lead.1 c.parse_message.result
    c.parse_message.ensures.fault

pub parse_item-returns-in-Statement-clause-taken : goal.parse_item-returns-in-Statement-clause-taken
parse_item-returns-in-Statement-clause-taken t c =
    let lead = rw c.in-Statement.is at c.requires.lead in
    other_taken (other c.args.context.text.now c.args.context.brackets c.args.tokens.now c.args.levels lead.0) c.args.depth
    c.args.nodes.now.items c.parse_statement.new.nodes.items c.parse_statement.result c.parse_statement.ensures.taken

pub parse_item-returns-in-Statement-clause-fault : goal.parse_item-returns-in-Statement-clause-fault
parse_item-returns-in-Statement-clause-fault t c =
    let lead = rw c.in-Statement.is at c.requires.lead in
    other_fault (other c.args.context.text.now c.args.context.brackets c.args.tokens.now c.args.levels lead.0) c.parse_statement.result
    c.parse_statement.ensures.fault

pub parse_items-items-init : goal.parse_items-items-init
parse_items-items-init t c = adding_begins _ _

pub parse_items-items-preserved : goal.parse_items-items-preserved
parse_items-items-preserved t c = adding_goes c.items.invariant c.in_ok-rest-in-Some.ensures.taken

pub parse_items-items-smaller : goal.parse_items-items-smaller
parse_items-items-smaller t c = begins_shorter c.in_ok-rest-in-Some.ensures.taken

pub parse_items-returns-in_err-rest-in-Some-clause-fault : goal.parse_items-returns-in_err-rest-in-Some-clause-fault
parse_items-returns-in_err-rest-in-Some-clause-fault t c =
    fails_on _ _ _ c.from_residual.ensures.1 (adding_fails c.items.invariant c.in_err-rest-in-Some.ensures.fault)

pub parse_items-returns-in-None-clause-taken : goal.parse_items-returns-in-None-clause-taken
parse_items-returns-in-None-clause-taken t c = adding_ends c.items.invariant c.in-None.ensures.in_first

pub parse_message-returns-in_err-name-clause-fault : goal.parse_message-returns-in_err-name-clause-fault
parse_message-returns-in_err-name-clause-fault t c = fails_on _ _ _ c.from_residual.ensures.1 (fails_first c.in_err-name.ensures.fault)

pub parse_message-returns-in_err-rest-clause-fault : goal.parse_message-returns-in_err-rest-clause-fault
parse_message-returns-in_err-rest-clause-fault t c =
    fails_on _ _ _ c.from_residual-in_err-rest.ensures.1 (fails_read c.in_ok-name.ensures.taken (fails_first c.in_err-rest.ensures.fault))

pub parse_message-returns-in_err-rest-2-clause-fault : goal.parse_message-returns-in_err-rest-2-clause-fault
parse_message-returns-in_err-rest-2-clause-fault t c =
    fails_on _ _ _ c.from_residual-in_err-rest-2.ensures.1 (fails_read c.in_ok-name.ensures.taken (fails_added c.in_ok-rest.ensures.taken c.in_err-rest-2.ensures.fault))

pub parse_message-returns-clause-taken : goal.parse_message-returns-clause-taken
parse_message-returns-clause-taken t c =
    body_adds _ (item_nodes _ _) (λ name. Message name) _ _ c.in_ok-name.ensures.taken (c.len-index.ensures ∙ c.args.nodes.now.ok.0)
    c.in_ok-push_node.ensures (one_deeper (λ n. list_of (item_nodes c.args.levels n)) c.args.depth c.in_ok-rest.ensures.taken)
    c.in_ok-rest-2.ensures.taken c.across.ensures c.set_span.ensures
