use Rattle.std.proofs.Common.{◌≡◌, true, cond, [], ◌∷◌, ◌++◌, subst}
use Rattle.std.specs.BTreeSet.{contains}
use Rattle.std.specs.BTreeMap.{is_at}
use Rattle.pq_links.specs.aux.Adding.{Sees}
use Rattle.pq_links.proofs.Adding.{sees_push}
use Rattle.pq_links.proofs.firsts.Firsts.add.Goals as goal

pub invariant_of-self-then-branch : goal.invariant_of-self-then-branch
invariant_of-self-then-branch g c =
    let order = g.T.Ord.cmp in
    let pushed : c.self.inside.items.items ++ c.args.item ∷ [] ≡ c.push_reserved.new.self.items = cc (c.push_reserved.ensures.items, c.in_ok-reserve.ensures.items) in
    let updates = subst (λ x. (q : g.row.T.Denot) → contains order c.insert.new.self q ≡ cond (is_at (order x) q) true (contains order c.self.inside.seen q)) c.requires.copy c.in_ok-insert.ensures.updates.0 in
    subst (Sees order c.insert.new.self) pushed (sees_push order c.self.inside.seen c.insert.new.self c.self.inside.items.items c.args.item c.self.invariant updates)
