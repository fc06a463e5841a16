use Rattle.std.proofs.Common.{◌≡◌, None, Some, string_bytes, ap, sym, subst, ◌∙◌}
use Rattle.std.specs.List.{replace_range}
use Rattle.pq_lex.specs.TextChanges.{replace_between, offset_of}
use Rattle.pq_lex.proofs.LineSearch.{cut_first, cut_last, good_order}
use Rattle.pq_lex.proofs.changes.replace_between.Goals as goal

pub replace_range-requires-clause-start_boundary : goal.replace_range-requires-clause-start_boundary
replace_range-requires-clause-start_boundary c = cut_first c.as_bytes.result.now (string_bytes c.args.text) c.args.start c.args.end c.in-Some.from c.in-Some.to c.as_bytes.ensures.value (c.in-Some.ensures {u = tt})

pub replace_range-requires-clause-end_boundary : goal.replace_range-requires-clause-end_boundary
replace_range-requires-clause-end_boundary c = cut_last c.as_bytes.result.now (string_bytes c.args.text) c.args.start c.args.end c.in-Some.from c.in-Some.to c.as_bytes.ensures.value (c.in-Some.ensures {u = tt})

pub returns-in-None : goal.returns-in-None
returns-in-None c = sym (subst (λ t. replace_between t (offset_of t c.args.start) (offset_of t c.args.end) c.args.new.now ≡ None) c.as_bytes.ensures.value (c.in-None.ensures {u = tt} c.args.new.now))

pub returns-in_ok-replace_range-in-Some : goal.returns-in_ok-replace_range-in-Some
returns-in_ok-replace_range-in-Some c =
    ap Some (c.in_ok-replace_range-in-Some.ensures {u = tt}).bytes
    ∙ sym (subst (λ t. replace_between t (offset_of t c.args.start) (offset_of t c.args.end) c.args.new.now ≡ Some (replace_range t c.in-Some.from c.in-Some.to c.args.new.now)) c.as_bytes.ensures.value (good_order c.as_bytes.result.now c.args.start c.args.end c.in-Some.from c.in-Some.to c.args.new.now (c.in-Some.ensures {u = tt})))
