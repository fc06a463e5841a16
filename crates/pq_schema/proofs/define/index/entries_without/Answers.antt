use Rattle.std.proofs.Common.{◌≡◌, ℕ, false, get_or, sym, ap, ◌∙◌, add-one, subst}
use Rattle.pq_schema.specs.aux.Copies.{At, full_names}
use Rattle.pq_schema.proofs.IndexLemmas.{entries_all, entries_copy, entries_more, entries_moved, entries_none, name_there}
use Rattle.pq_schema.proofs.define.index.entries_without.Goals as goal

pub places-init : goal.places-init
places-init c = entries_none _ c.args.definitions.now c.in_ok-index.ensures.items

pub places-preserved-then-flag_at : goal.places-preserved-then-flag_at
places-preserved-then-flag_at c =
    let n = c.places.place in
    entries_copy c.args.definitions.now n c.places.index.items
    (c.requires.copies n (ap (λ (k : ℕ). get_or c.args.copies.now k false) (sym (add-one n)) ∙ sym c.flag_at.ensures.flag ∙ c.if-flag_at.true))
    c.places.invariant

pub places-preserved : goal.places-preserved
places-preserved c =
    let ds = c.args.definitions.now in
    let n = c.places.place in
    let d = c.index-definitions-place.result in
    let named : c.new.result ≡ (get_or ds n d).full_name = c.new.ensures.name ∙ c.in_ok-name.ensures.copy in
    entries_more ds n c.places.index.items c.push.new.self.items c.new.result
    (subst (At (full_names ds) n) (sym named) (name_there ds n d c.places-test.true)) c.in_ok-push.ensures.items c.places.invariant

pub returns : goal.returns
returns c =
    let ds = c.args.definitions.now in
    record {
      entries = entries_moved ds _ c.places.index.items c.sort_by_key.new.self.items c.sort_by_key.ensures.permutation
          (entries_all ds c.places.place c.places.index.items c.places-test.false c.places.invariant);
    }
