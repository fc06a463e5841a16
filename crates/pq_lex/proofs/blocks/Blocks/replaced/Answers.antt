use Rattle.std.proofs.Common.{◌≡◌, Some, sym, ◌∙◌, ap, subst}
use Rattle.std.specs.List.{replace_range}
use Rattle.pq_lex.specs.TextChanges.{offset_of, replace_between}
use Rattle.pq_lex.specs.aux.Blocks.{IsReplaced, text_of}
use Rattle.pq_lex.specs.aux.LineSearch.{Bounds}
use Rattle.pq_lex.proofs.LineSearch.{cut_at, good_order}
use Rattle.pq_lex.proofs.blocks.Blocks.replaced.Goals as goal

pub with_places-requires-clause-start : goal.with_places-requires-clause-start
with_places-requires-clause-start c =
    let b = subst (λ l. Bounds (text_of l) c.args.start c.args.end c.in-Some.from.offset c.in-Some.to.offset) c.deref.ensures.value (c.in-Some.ensures {u = tt}).2 in
    cut_at (text_of c.self.inside.blocks.items) c.args.start c.in-Some.from.offset b.first

pub with_places-requires-clause-end : goal.with_places-requires-clause-end
with_places-requires-clause-end c =
    let b = subst (λ l. Bounds (text_of l) c.args.start c.args.end c.in-Some.from.offset c.in-Some.to.offset) c.deref.ensures.value (c.in-Some.ensures {u = tt}).2 in
    cut_at (text_of c.self.inside.blocks.items) c.args.end c.in-Some.to.offset b.last

pub returns-in_ok-blocks-in-Some : goal.returns-in_ok-blocks-in-Some
returns-in_ok-blocks-in-Some c =
    let b = subst (λ l. Bounds (text_of l) c.args.start c.args.end c.in-Some.from.offset c.in-Some.to.offset) c.deref.ensures.value (c.in-Some.ensures {u = tt}).2 in
    let r : IsReplaced c.self.inside.blocks.items c.in-Some.from.offset c.in-Some.to.offset c.args.new.now c.in_ok-blocks-in-Some.blocks.items = c.in_ok-blocks-in-Some.ensures in
    ap Some r.text
    ∙ sym (subst (λ t. replace_between t (offset_of t c.args.start) (offset_of t c.args.end) c.args.new.now ≡ Some (replace_range (text_of c.self.inside.blocks.items) c.in-Some.from.offset c.in-Some.to.offset c.args.new.now)) c.self.view_is (good_order (text_of c.self.inside.blocks.items) c.args.start c.args.end c.in-Some.from.offset c.in-Some.to.offset c.args.new.now b))
