use Rattle.std.proofs.Common.{◌≡◌, List, ◌∷◌, length, sym, ap, ◌∙◌, arith}
use Rattle.std.specs.Vec.Iter.{into_iter_items}
use Rattle.serde_json.specs.View.{items_view}
use Rattle.pq_lex.specs.TextChanges.{TextChangeView}
use Rattle.pq_session.specs.Session.{change_members}
use Rattle.pq_session.proofs.ChangeLemmas.{taken_and, read_first, read_one, read_none, read_all}
use Rattle.pq_session.proofs.protocol.changes.take_each.Goals as goal

pub changes-init : goal.changes-init
changes-init c =
    let gives = c.into_iter-change-iterator.ensures.into_iter_gives in
    record {
      left = omega (arith, gives.1, c.args.changes.ok.0, ap length gives.0);
      read = rw (c.new-taken.ensures.items, gives.0) (read_first c.args.changes.items);
    }

pub changes-preserved : goal.changes-preserved
changes-preserved c =
    let so_far = c.changes.invariant in
    let steps : into_iter_items c.changes.change-iterator ≡ c.in-Some.change ∷ into_iter_items c.next.new.self = c.in-Some.ensures.steps.0 in
    record {
      left = omega (arith, so_far.left, c.in-Some.ensures.steps.1, ap length steps);
      read = ap (λ (taken : List TextChangeView). taken_and taken (change_members (items_view (into_iter_items c.next.new.self)))) ((c.in_ok-push-in-Some-take_change.ensures {u = tt}).items)
          ∙ read_one c.changes.taken.items (into_iter_items c.changes.change-iterator) c.in-Some.change (into_iter_items c.next.new.self) c.in-Some-take_change.change steps (sym c.in-Some-take_change.is ∙ c.take_change.ensures)
          ∙ so_far.read;
    }

pub returns-in-None-take_change : goal.returns-in-None-take_change
returns-in-None-take_change c =
    let so_far = c.changes.invariant in
    read_none c.changes.taken.items (into_iter_items c.changes.change-iterator) c.in-Some.change (into_iter_items c.next.new.self) c.in-Some.ensures.steps.0 (sym c.in-None-take_change.is ∙ c.take_change.ensures)
    ∙ so_far.read

pub returns : goal.returns
returns c =
    let so_far = c.changes.invariant in
    read_all c.changes.taken.items (into_iter_items c.changes.change-iterator) (sym so_far.left ∙ (c.in-None.ensures {u = tt}).steps.0)
    ∙ so_far.read
