use Rattle.pq_links.proofs.Leads.{exports, once, reaches, sees}
use Rattle.pq_links.proofs.laws.reach_is_walks.Goals as goal

pub returns-clause-reach : goal.returns-clause-reach
returns-clause-reach c = λ g f h l are. reaches g f h l are

pub returns-clause-exports : goal.returns-clause-exports
returns-clause-exports c = λ g f h l are. exports g f h l are

pub returns-clause-visible : goal.returns-clause-visible
returns-clause-visible c = λ g f h l are. sees g f h l are

pub returns-clause-once : goal.returns-clause-once
returns-clause-once c = λ g f l are. once g f l are
