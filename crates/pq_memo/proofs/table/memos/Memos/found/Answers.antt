use Rattle.std.proofs.Common.{◌∙◌}
use Rattle.pq_memo.specs.Table.{memo_at, HasIn}
use Rattle.pq_memo.proofs.Reading.{behind_copy, outdated_copy}
use Rattle.pq_memo.proofs.table.memos.Memos.found.Goals as goal

pub returns-in_ok-copy_key-in-Behind : goal.returns-in_ok-copy_key-in-Behind
returns-in_ok-copy_key-in-Behind g c =
    let s = c.in-Behind.ensures {u = tt} in
    record {
      found = behind_copy (g.R.Rules.machine c.args.self.now.rules) c.args.inputs.now.history c.args.inputs.now.revision (HasIn (memo_at g.R.Key.Ord.cmp c.args.self.now.places))
          c.args.key.now c.args.entry.now c.reads-reads.result.now c.reads-reads.ensures c.in-Behind.i c.in_ok-copy_key-in-Behind.field-0 c.index-reads-i.result
          c.index-reads-i.is (c.in_ok-copy_key-in-Behind.ensures.copy ∙ c.key.ensures) s.0 s.1;
    }

pub returns-in_ok-copy_key-in-Outdated : goal.returns-in_ok-copy_key-in-Outdated
returns-in_ok-copy_key-in-Outdated g c =
    let s = c.in-Outdated.ensures {u = tt} in
    record {
      found = outdated_copy (g.R.Rules.machine c.args.self.now.rules) c.args.inputs.now.history c.args.inputs.now.revision (HasIn (memo_at g.R.Key.Ord.cmp c.args.self.now.places))
          c.args.key.now c.args.entry.now c.reads-reads.result.now c.reads-reads.ensures c.in-Outdated.i c.in_ok-copy_key-in-Outdated.field-0 c.index-reads-i-in-Outdated.result
          c.index-reads-i-in-Outdated.is (c.in_ok-copy_key-in-Outdated.ensures.copy ∙ c.key-in-Outdated.ensures) s.0 s.1;
    }
