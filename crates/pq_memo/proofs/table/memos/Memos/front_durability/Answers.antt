use Rattle.std.proofs.Common.{List, sym, subst}
use Rattle.pq_rules.specs.Relations.{Each, In}
use Rattle.pq_memo.specs.Table.{memo_at, HasIn}
use Rattle.pq_memo.specs.aux.Durabilities.{IsKnown, IsLeastRead}
use Rattle.pq_memo.proofs.PutAll.{fronts_is}
use Rattle.pq_memo.proofs.table.memos.Memos.front_durability.Goals as goal

pub least_of-requires : goal.least_of-requires
least_of-requires g c =
    subst (λ (ks : List g.row.R-Key.Denot). Each (IsKnown (g.R.Rules.machine c.args.self.now.rules) (HasIn (memo_at g.R.Key.Ord.cmp c.args.self.now.places))) ks)
    (sym (fronts_is c.args.reads.now)) c.requires

pub returns : goal.returns
returns g c =
    subst (λ (ks : List g.row.R-Key.Denot). IsLeastRead (g.R.Rules.machine c.args.self.now.rules) c.args.inputs.now.files (HasIn (memo_at g.R.Key.Ord.cmp c.args.self.now.places)) (λ q. In q ks) c.least_of.result)
    (fronts_is c.args.reads.now) c.least_of.ensures
