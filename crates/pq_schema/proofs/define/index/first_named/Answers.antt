use Rattle.std.proofs.Common.{◌≡◌, ℕ, ◌<◌, ◌≤◌, List, length, get_or, Some, sym, ap, ◌∙◌, arith}
use Rattle.std.proofs.lemmas.List.{get_or_default}
use Rattle.pq_schema.proofs.IndexLemmas.{no_entry, miss, hit, hit_within}
use Rattle.pq_schema.proofs.Alike.{seen_here}
use Rattle.pq_schema.proofs.define.index.first_named.Goals as goal

pub returns-then-first-index : goal.returns-then-first-index
returns-then-first-index c =
    let end = c.if-first-index.true in
    sym (miss c.args.index.now c.args.definitions.now c.requires.index c.args.name.now c.lower_bound-first.result.0 c.lower_bound-first.ensures.less c.lower_bound-first.ensures.others
    (λ within is. absurd (omega arith)))

pub returns-then-seen-first : goal.returns-then-seen-first
returns-then-seen-first c =
    let p = c.lower_bound-first.result.0 in
    sym (miss c.args.index.now c.args.definitions.now c.requires.index c.args.name.now p c.lower_bound-first.ensures.less c.lower_bound-first.ensures.others
    (λ within is. c.if-seen-first.true (c.lower_bound-first.ensures.met within is)))

pub prove-unreachable-requires : goal.prove-unreachable-requires
prove-unreachable-requires c =
    let es = c.args.index.now in
    let ds = c.args.definitions.now in
    let p = c.lower_bound-first.result.0 in
    let not_end = c.if-first-index.false in
    let in_bounds = c.lower_bound-first.ensures.within in
    let within : p < length es = omega arith in
    let e = c.index-index-first.result in
    let entry : get_or es p e ≡ get_or es p no_entry = get_or_default es p e no_entry within in
    let is = seen_here es c.args.name.now c.lower_bound-first.result.1 p (get_or es p no_entry) c.lower_bound-first.ensures.seen c.if-seen-first.false within (get_or_default es p no_entry (get_or es p no_entry) within) in
    let below = hit_within es ds c.requires.index c.args.name.now p c.lower_bound-first.ensures.less c.lower_bound-first.ensures.others within is in
    let place : (get_or es p e).1 ≡ (get_or es p no_entry).1 = ap (λ (x : List ℕ × ℕ). x.1) entry in
    let past : length ds ≤ (get_or es p e).1 = c.if-prove.true in
    absurd (omega arith)

pub returns : goal.returns
returns c =
    let es = c.args.index.now in
    let ds = c.args.definitions.now in
    let p = c.lower_bound-first.result.0 in
    let not_end = c.if-first-index.false in
    let in_bounds = c.lower_bound-first.ensures.within in
    let within : p < length es = omega arith in
    let e = c.index-index-first.result in
    let entry : get_or es p e ≡ get_or es p no_entry = get_or_default es p e no_entry within in
    let is = seen_here es c.args.name.now c.lower_bound-first.result.1 p (get_or es p no_entry) c.lower_bound-first.ensures.seen c.if-seen-first.false within (get_or_default es p no_entry (get_or es p no_entry) within) in
    let d = c.index-definitions-place.result in
    let found = hit es ds c.requires.index c.args.name.now p c.lower_bound-first.ensures.less c.lower_bound-first.ensures.others d within is in
    ap Some (c.index-definitions-place.is ∙ ap (λ (x : List ℕ × ℕ). get_or ds x.1 d) entry) ∙ sym found
