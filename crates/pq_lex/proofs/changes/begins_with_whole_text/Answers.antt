use Rattle.std.proofs.Common.{length, sym, ◌∙◌, ap}
use Rattle.pq_lex.proofs.ChangeLemmas.{none_of, some_first, whole_first}
use Rattle.pq_lex.proofs.changes.begins_with_whole_text.Goals as goal

pub returns : goal.returns
returns c whole =
    whole_first c.args.changes.now c.index-changes-0.result
    (some_first (length c.args.changes.now) (c.if-is_empty.ensures {u = tt}))
    c.index-changes-0.is
    (sym (ap (λ v. v.range) c.first.view_is) ∙ none_of c.first.inside.range c.is_none.result c.is_none.ensures whole)
