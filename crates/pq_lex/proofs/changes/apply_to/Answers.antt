use Rattle.std.proofs.Common.{◌≡◌, ◌+◌, Some, drop, string_bytes, sym, ◌∙◌, ap}
use Rattle.pq_lex.proofs.ChangeLemmas.{after, no_change, one_change}
use Rattle.pq_lex.proofs.changes.apply_to.Goals as goal

pub returns-in-None : goal.returns-in-None
returns-in-None c =
    sym (ap (λ t. after (drop (c.changes.k + 1) c.args.changes.now) t) c.in-None.is)
    ∙ one_change (Some c.changes.so_far) c.args.changes.now c.changes.k c.index-changes-k.result c.in_ok-next.field-0 c.changes-test.true c.index-changes-k.is (c.in_ok-next.ensures {u = tt})
    ∙ c.changes.invariant

pub changes-preserved : goal.changes-preserved
changes-preserved c =
    sym (ap (λ t. after (drop (c.changes.k + 1) c.args.changes.now) t) c.in-Some.is)
    ∙ one_change (Some c.changes.so_far) c.args.changes.now c.changes.k c.index-changes-k.result c.in_ok-next.field-0 c.changes-test.true c.index-changes-k.is (c.in_ok-next.ensures {u = tt})
    ∙ c.changes.invariant

pub returns : goal.returns
returns c =
    let text : string_bytes c.in_ok-text.field-0 ≡ c.changes.so_far = c.in_ok-text.ensures in
    ap Some text ∙ no_change (Some c.changes.so_far) c.args.changes.now c.changes.k c.changes-test.false ∙ c.changes.invariant
