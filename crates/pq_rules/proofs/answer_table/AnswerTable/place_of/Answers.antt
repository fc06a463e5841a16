use Rattle.std.proofs.Common.{◌<◌, length, subst}
use Rattle.std.specs.BTreeMap.{is_at}
use Rattle.pq_rules.specs.aux.AnswerTable.{Places}
use Rattle.pq_rules.proofs.Finding.{lookup_within}
use Rattle.pq_rules.proofs.answer_table.AnswerTable.place_of.Goals as goal

pub returns-in-Some-clause-within : goal.returns-in-Some-clause-within
returns-in-Some-clause-within g c =
    subst (λ (x : Places g.row.K.Denot g.row.V.Denot). c.in-Some.place.now < length x.answers) c.self.view_is
    (lookup_within (is_at (g.K.Ord.cmp c.args.key.now)) c.self.inside.places.entries c.self.inside.answers.items c.in-Some.place.now
    c.self.invariant c.in-Some.ensures.value)
