use Rattle.std.proofs.Common.{slice_range, subst}
use Rattle.pq_lex.specs.aux.Kept.{WideMore}
use Rattle.pq_lex.proofs.Columns.{plain_part}
use Rattle.pq_lex.proofs.Marked.{added}
use Rattle.pq_lex.proofs.lines.Marks.push.Goals as goal

pub add_wide-requires : goal.add_wide-requires
add_wide-requires c plain = plain_part c.args.bytes.now c.args.start c.args.end (c.requires.ascii plain)

pub returns-clause-marked : goal.returns-clause-marked
returns-clause-marked c =
    (added c.args.self.now (record { starts = c.push.new.self; ends = c.push-2.new.self; wide = c.add_wide.new.wide }) c.args.start c.args.end (slice_range c.args.bytes.now c.args.start c.args.end) c.requires.marked c.in_ok-push.ensures c.in_ok-push-2.ensures
    (subst (λ n. WideMore n (slice_range c.args.bytes.now c.args.start c.args.end) c.args.self.now.wide.items c.add_wide.new.wide.items) c.len-number.ensures c.in_ok-add_wide.ensures)).0

pub returns-clause-added : goal.returns-clause-added
returns-clause-added c =
    (added c.args.self.now (record { starts = c.push.new.self; ends = c.push-2.new.self; wide = c.add_wide.new.wide }) c.args.start c.args.end (slice_range c.args.bytes.now c.args.start c.args.end) c.requires.marked c.in_ok-push.ensures c.in_ok-push-2.ensures
    (subst (λ n. WideMore n (slice_range c.args.bytes.now c.args.start c.args.end) c.args.self.now.wide.items c.add_wide.new.wide.items) c.len-number.ensures c.in_ok-add_wide.ensures)).1
