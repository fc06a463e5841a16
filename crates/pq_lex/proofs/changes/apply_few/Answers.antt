use Rattle.std.proofs.Common.{◌+◌, drop, string_bytes, sym, ◌∙◌, ap}
use Rattle.std.specs.Option.{option_map}
use Rattle.pq_lex.proofs.ChangeLemmas.{after, no_change, one_change}
use Rattle.pq_lex.proofs.changes.apply_few.Goals as goal

pub returns-in-None : goal.returns-in-None
returns-in-None c =
    sym (ap (λ t. after (drop (c.changes.k + 1) c.args.changes.now) (option_map string_bytes t)) c.in-None.is)
    ∙ one_change (option_map string_bytes c.changes.so_far) c.args.changes.now c.changes.k c.index-changes-k.result (option_map string_bytes c.in_ok-next.field-0) c.changes-test.true c.index-changes-k.is (c.in_ok-next.ensures {u = tt})
    ∙ c.changes.invariant

pub changes-preserved : goal.changes-preserved
changes-preserved c =
    sym (ap (λ t. after (drop (c.changes.k + 1) c.args.changes.now) (option_map string_bytes t)) c.in-Some.is)
    ∙ one_change (option_map string_bytes c.changes.so_far) c.args.changes.now c.changes.k c.index-changes-k.result (option_map string_bytes c.in_ok-next.field-0) c.changes-test.true c.index-changes-k.is (c.in_ok-next.ensures {u = tt})
    ∙ c.changes.invariant

pub returns : goal.returns
returns c = no_change (option_map string_bytes c.changes.so_far) c.args.changes.now c.changes.k c.changes-test.false ∙ c.changes.invariant
