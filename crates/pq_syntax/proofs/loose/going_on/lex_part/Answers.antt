use Rattle.std.proofs.Common.{◌+◌, ◌≤◌, length, arith}
use Rattle.pq_syntax.proofs.LexedOn.{part_ends}
use Rattle.pq_syntax.proofs.loose.going_on.lex_part.Goals as goal

pub push_moved-requires : goal.push_moved-requires
push_moved-requires c =
    let part = c.range_from.result.now in
    let le : c.args.from + length part ≤ length c.args.text.now = omega (arith, c.range_from.ensures.len, c.requires.0) in
    part_ends c.tokens_in_order.ensures.tokens part _ _ _ c.args.from _ le c.in_ok-lexed.ensures.lexes c.as_slice.ensures.value
