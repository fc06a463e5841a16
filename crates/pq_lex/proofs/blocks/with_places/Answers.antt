use Rattle.std.proofs.Common.{refl, string_bytes, ◌∙◌, ap, subst}
use Rattle.std.proofs.lemmas.Result.{IfOk-weaker}
use Rattle.pq_lex.specs.aux.Blocks.{IsHolder, IsPut}
use Rattle.pq_lex.proofs.BlockEdits.{holders_order, replaced, same_block, split_in_holder}
use Rattle.pq_lex.proofs.BlockWalks.{at_block}
use Rattle.pq_lex.proofs.blocks.with_places.Goals as goal

pub joined-requires-clause-start : goal.joined-requires-clause-start
joined-requires-clause-start c =
    let h = subst (λ l. IsHolder l c.args.from.offset c.first_place-first.result.0 c.first_place-first.result.1) c.deref.ensures.value c.first_place-first.ensures in
    let a = at_block c.args.blocks.items c.first_place-first.result.0 c.index.result.now c.requires.blocks.followed h.within c.index.ensures in
    split_in_holder c.args.blocks.items c.first_place-first.result.0 c.index.result.now a c.args.from.offset c.first_place-first.result.1 h c.requires.start

pub joined-requires-clause-end : goal.joined-requires-clause-end
joined-requires-clause-end c =
    let g = subst (λ l. IsHolder l c.args.to.offset c.first_place-last.result.0 c.first_place-last.result.1) c.deref-2.ensures.value c.first_place-last.ensures in
    let z = at_block c.args.blocks.items c.first_place-last.result.0 c.index-2.result.now c.requires.blocks.followed g.within c.index-2.ensures in
    split_in_holder c.args.blocks.items c.first_place-last.result.0 c.index-2.result.now z c.args.to.offset c.first_place-last.result.1 g c.requires.end

pub put-requires-clause-ordered : goal.put-requires-clause-ordered
put-requires-clause-ordered c =
    let h = subst (λ l. IsHolder l c.args.from.offset c.first_place-first.result.0 c.first_place-first.result.1) c.deref.ensures.value c.first_place-first.ensures in
    let g = subst (λ l. IsHolder l c.args.to.offset c.first_place-last.result.0 c.first_place-last.result.1) c.deref-2.ensures.value c.first_place-last.ensures in
    holders_order c.args.blocks.items c.args.from.offset c.args.to.offset c.first_place-first.result.0 c.first_place-first.result.1 c.first_place-last.result.0 c.first_place-last.result.1 h g c.requires.ordered

pub returns : goal.returns
returns c =
    let h = subst (λ l. IsHolder l c.args.from.offset c.first_place-first.result.0 c.first_place-first.result.1) c.deref.ensures.value c.first_place-first.ensures in
    let g = subst (λ l. IsHolder l c.args.to.offset c.first_place-last.result.0 c.first_place-last.result.1) c.deref-2.ensures.value c.first_place-last.ensures in
    let a = at_block c.args.blocks.items c.first_place-first.result.0 c.index.result.now c.requires.blocks.followed h.within c.index.ensures in
    let z = at_block c.args.blocks.items c.first_place-last.result.0 c.index-2.result.now c.requires.blocks.followed g.within c.index-2.ensures in
    let same = same_block c.args.blocks.items c.first_place-last.result.0 c.first_place-last.result.0 c.index-3.result.now c.index-2.result.now g.within c.index-3.ensures c.index-2.ensures refl in
    IfOk-weaker c.put.result _ _ (λ v p.
    replaced c.args.blocks.items c.args.from.offset c.args.to.offset c.first_place-first.result.0 c.first_place-first.result.1 c.first_place-last.result.0 c.first_place-last.result.1 c.index.result.now c.index-2.result.now c.requires.blocks.followed a z h g c.args.new.now (string_bytes c.in_ok-text.text) v.items c.in_ok-text.ensures
    (subst (λ n. IsPut c.args.blocks.items c.first_place-first.result.0 c.first_place-last.result.0 (string_bytes c.in_ok-text.text) n v.items) (c.next-next.ensures ∙ ap (λ b. b.next) same) p)) c.put.ensures
