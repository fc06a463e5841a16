use Rattle.std.proofs.Common.{◌<◌, List, length, refl, sym, subst, inr, arith}
use Rattle.pq_memo.specs.Look.{HasChangedRead, WalksTo}
use Rattle.pq_memo.specs.Table.{memo_at, HasIn}
use Rattle.pq_memo.proofs.Reading.{walks_to, changed_at, read_within, get_as}
use Rattle.pq_memo.proofs.table.memos.Memos.look_at.Goals as goal

pub bounds-reads-i : goal.bounds-reads-i
bounds-reads-i g c =
    let t = (c.in-Behind.ensures {u = tt}).1 in
    subst (λ (l : List g.row.R-Key.Denot). c.in-Behind.i < length l) (sym c.reads-reads.ensures)
    (read_within (g.R.Rules.machine c.args.self.now.rules) c.args.inputs.now.history c.args.inputs.now.revision (HasIn (memo_at g.R.Key.Ord.cmp c.args.self.now.places))
    c.args.entry.now.verified c.args.entry.now.reads c.in-Behind.i t.0 t.1)

pub offset_bounds-reads-i : goal.offset_bounds-reads-i
offset_bounds-reads-i g c =
    let b : c.in-Behind.i < length c.reads-reads.result.now = bounds-reads-i g c in
    omega arith

pub bounds-reads-i-in-Outdated : goal.bounds-reads-i-in-Outdated
bounds-reads-i-in-Outdated g c =
    let t = (c.in-Outdated.ensures {u = tt}).1 in
    subst (λ (l : List g.row.R-Key.Denot). c.in-Outdated.i < length l) (sym c.reads-reads.ensures)
    (read_within (g.R.Rules.machine c.args.self.now.rules) c.args.inputs.now.history c.args.inputs.now.revision (HasIn (memo_at g.R.Key.Ord.cmp c.args.self.now.places))
    c.args.entry.now.verified c.args.entry.now.reads c.in-Outdated.i t.0 t.1)

pub offset_bounds-reads-i-in-Outdated : goal.offset_bounds-reads-i-in-Outdated
offset_bounds-reads-i-in-Outdated g c =
    let t = (c.in-Outdated.ensures {u = tt}).1 in
    let b : c.in-Outdated.i < length c.reads-reads.result.now = subst (λ (l : List g.row.R-Key.Denot). c.in-Outdated.i < length l) (sym c.reads-reads.ensures)
    (read_within (g.R.Rules.machine c.args.self.now.rules) c.args.inputs.now.history c.args.inputs.now.revision (HasIn (memo_at g.R.Key.Ord.cmp c.args.self.now.places))
    c.args.entry.now.verified c.args.entry.now.reads c.in-Outdated.i t.0 t.1) in
    omega arith

pub returns-in-Verified : goal.returns-in-Verified
returns-in-Verified g c = inr (c.args.entry.now, c.requires, c.in-Verified.ensures {u = tt})

pub returns-in-Valid : goal.returns-in-Valid
returns-in-Valid g c = (c.args.entry.now, c.in-Valid.ensures {u = tt})

pub returns-in-Cyclic : goal.returns-in-Cyclic
returns-in-Cyclic g c = let s = c.in-Cyclic.ensures {u = tt} in (c.args.entry.now, s.0, s.1, s.2)

pub returns-in-Behind : goal.returns-in-Behind
returns-in-Behind g c =
    let s = c.in-Behind.ensures {u = tt} in
    subst (λ (k : g.row.R-Key.Denot). WalksTo (g.R.Rules.machine c.args.self.now.rules) c.args.inputs.now.history c.args.inputs.now.revision (HasIn (memo_at g.R.Key.Ord.cmp c.args.self.now.places)) c.args.key.now k) (sym c.key.ensures)
    (walks_to (g.R.Rules.machine c.args.self.now.rules) c.args.inputs.now.history c.args.inputs.now.revision (HasIn (memo_at g.R.Key.Ord.cmp c.args.self.now.places))
    c.args.key.now c.args.entry.now s.0 c.args.entry.now.verified c.args.entry.now.reads refl refl c.in-Behind.i c.index-reads-i.result s.1
    (get_as c.reads-reads.result.now c.args.entry.now.reads c.in-Behind.i c.index-reads-i.result c.reads-reads.ensures c.index-reads-i.is))

pub returns-in-Outdated : goal.returns-in-Outdated
returns-in-Outdated g c =
    let s = c.in-Outdated.ensures {u = tt} in
    subst (λ (k : g.row.R-Key.Denot). HasChangedRead (g.R.Rules.machine c.args.self.now.rules) c.args.inputs.now.history c.args.inputs.now.revision (HasIn (memo_at g.R.Key.Ord.cmp c.args.self.now.places)) c.args.key.now k) (sym c.key-in-Outdated.ensures)
    (changed_at (g.R.Rules.machine c.args.self.now.rules) c.args.inputs.now.history c.args.inputs.now.revision (HasIn (memo_at g.R.Key.Ord.cmp c.args.self.now.places))
    c.args.key.now c.args.entry.now s.0 c.args.entry.now.verified c.args.entry.now.reads refl refl c.in-Outdated.i c.index-reads-i-in-Outdated.result s.1
    (get_as c.reads-reads.result.now c.args.entry.now.reads c.in-Outdated.i c.index-reads-i-in-Outdated.result c.reads-reads.ensures c.index-reads-i-in-Outdated.is))
