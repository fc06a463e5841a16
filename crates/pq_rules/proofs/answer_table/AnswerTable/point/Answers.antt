use Rattle.std.proofs.Common.{◌<◌, length, sym, subst}
use Rattle.pq_rules.specs.aux.AnswerTable.{Places}
use Rattle.pq_rules.proofs.Finding.{insert_within}
use Rattle.pq_rules.proofs.answer_table.AnswerTable.point.Goals as goal

pub invariant_of-self-2 : goal.invariant_of-self-2
invariant_of-self-2 g c =
    let here = subst (λ (x : Places g.row.K.Denot g.row.V.Denot). c.args.place < length x.answers) (sym c.self.view_is) c.requires.within in
    rw c.in_ok-insert.ensures.entries
    (insert_within g.K.Ord.cmp c.args.key c.args.place c.self.inside.answers.items here c.self.inside.places.entries c.self.invariant)
