use Rattle.std.proofs.Common.{refl, rules}
use Rattle.pq_view.specs.Held.{view_of}
use Rattle.pq_view.proofs.Owing.{are_owed}
use Rattle.pq_view.proofs.view.View.owed.Goals as goal

pub returns : goal.returns
returns c = record { owed = are_owed (view_of c.args.self.now) c.args.self.now.documents c.documents.owed.items (λ q. refl) c.keys-path-items.ensures.ordered (search rules) }
