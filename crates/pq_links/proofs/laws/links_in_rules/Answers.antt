use Rattle.pq_rules.specs.Turns.{over}
use Rattle.pq_rules.proofs.Order.{strict}
use Rattle.pq_links.proofs.LinkedMeaning.{linked_is}
use Rattle.pq_links.proofs.LinkedAnswers.{is_linked}
use Rattle.pq_links.proofs.laws.links_in_rules.Goals as goal

pub returns-clause-means : goal.returns-clause-means
returns-clause-means g c = λ files graph imports imports_read level embeds f a means.
    linked_is (over g.R.Key.Ord.cmp (g.R.Rules.machine c.args._rules.now) files) graph imports imports_read level embeds
    (strict g.R.Key.Ord.cmp g.met.R.Key.Ord.total) f a means

pub returns-clause-answers : goal.returns-clause-answers
returns-clause-answers g c = λ files graph imports imports_read level embeds have f a is.
    is_linked (over g.R.Key.Ord.cmp (g.R.Rules.machine c.args._rules.now) files) graph imports imports_read level embeds have
    (strict g.R.Key.Ord.cmp g.met.R.Key.Ord.total) f a is
