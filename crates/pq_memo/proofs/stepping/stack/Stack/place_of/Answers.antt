use Rattle.pq_rules.proofs.ListLemmas.{not_both}
use Rattle.pq_memo.proofs.Indexed.{scan_within, off_low, off_unnoted, off_beyond, off_other}
use Rattle.pq_memo.proofs.stepping.stack.Stack.place_of.Goals as goal

pub scan-requires : goal.scan-requires
scan-requires g c =
    scan_within g.R.Key.Ord.cmp c.self.inside.places.entries c.self.inside.mapped c.args.key.now c.self.inside.frames.items c.as_slice-frames.result.now c.args.self.now
    c.as_slice-frames.ensures.value c.self.view_is c.self.invariant

pub returns-then-self-eq0-clause-none : goal.returns-then-self-eq0-clause-none
returns-then-self-eq0-clause-none g c =
    off_low g.R.Key.Ord.cmp c.self.inside.places.entries c.self.inside.mapped c.args.key.now c.self.inside.frames.items c.as_slice-frames.result.now c.args.self.now
    c.as_slice-frames.ensures.value c.self.view_is c.self.invariant
    (c.in-None.ensures {u = tt}).none c.if-self-eq0.true

pub returns-else-is_same_key-clause-none : goal.returns-else-is_same_key-clause-none
returns-else-is_same_key-clause-none g c =
    off_other g.R.Key.Ord.cmp c.self.inside.places.entries c.self.inside.mapped c.args.key.now c.self.inside.frames.items c.as_slice-frames.result.now c.args.self.now
    c.as_slice-frames.ensures.value c.self.view_is c.self.invariant
    (c.in-None.ensures {u = tt}).none c.noted.result c.in-Some-noted.place c.index-frames-place.result c.noted.ensures c.in-Some-noted.is c.if-place-frames.true
    c.index-frames-place.is (λ e. not_both (c.is_same_key.ensures.1 e) c.if-is_same_key.false)

pub returns-else-place-frames-clause-none : goal.returns-else-place-frames-clause-none
returns-else-place-frames-clause-none g c =
    off_beyond g.R.Key.Ord.cmp c.self.inside.places.entries c.self.inside.mapped c.args.key.now c.self.inside.frames.items c.as_slice-frames.result.now c.args.self.now
    c.as_slice-frames.ensures.value c.self.view_is c.self.invariant
    (c.in-None.ensures {u = tt}).none c.noted.result c.in-Some-noted.place c.noted.ensures c.in-Some-noted.is c.if-place-frames.false

pub returns-in-None-noted-clause-none : goal.returns-in-None-noted-clause-none
returns-in-None-noted-clause-none g c =
    off_unnoted g.R.Key.Ord.cmp c.self.inside.places.entries c.self.inside.mapped c.args.key.now c.self.inside.frames.items c.as_slice-frames.result.now c.args.self.now
    c.as_slice-frames.ensures.value c.self.view_is c.self.invariant
    (c.in-None.ensures {u = tt}).none c.noted.result c.noted.ensures c.in-None-noted.is
