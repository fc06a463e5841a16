use Rattle.pq_memo.proofs.Indexed.{next_mapped}
use Rattle.pq_memo.proofs.stepping.stack.map_next.Goals as goal

pub returns-then-frames-mapped-ge-NEAR-clause-mapped : goal.returns-then-frames-mapped-ge-NEAR-clause-mapped
returns-then-frames-mapped-ge-NEAR-clause-mapped g c =
    next_mapped g.R.Key.Ord.cmp c.args.places.now.entries c.note.new.places.entries c.args.mapped c.args.frames.now c.index-frames-mapped.result
    c.if-mapped-frames.true c.index-frames-mapped.is (c.in_ok-note.ensures {u = tt}).noted c.requires
