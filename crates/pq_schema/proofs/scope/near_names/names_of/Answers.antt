use Rattle.std.proofs.Common.{refl, sym, subst, List}
use Rattle.pq_schema.proofs.NearNames.{Entry, AreAll, no_names, next_file, all_names}
use Rattle.pq_schema.proofs.scope.near_names.names_of.Goals as goal

pub places-init : goal.places-init
places-init c = subst (λ (es : List Entry). AreAll es c.args.files.now c.args.places.now 0) (sym c.in_ok-names.ensures.items) (no_names c.args.files.now c.args.places.now)

pub places-preserved : goal.places-preserved
places-preserved c =
    next_file c.places.names.items c.add_file.new.names.items c.args.files.now c.args.places.now c.places.place-index _ c.places-test.true refl
    c.in_ok-add_file.ensures.added c.places.invariant

pub returns : goal.returns
returns c = record {
  names = all_names c.places.names.items c.sort_unstable.new.self.items c.args.files.now c.args.places.now c.places.place-index c.places-test.false
      c.sort_unstable.ensures.permutation c.sort_unstable.ensures.sorted c.places.invariant;
}
