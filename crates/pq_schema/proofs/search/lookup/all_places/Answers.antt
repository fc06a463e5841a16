use Rattle.pq_schema.proofs.AllPlaces.{all_near, one_more}
use Rattle.pq_schema.proofs.search.lookup.all_places.Goals as goal

pub places-preserved : goal.places-preserved
places-preserved c = one_more c.places.all.items c.push.new.self.items c.places.place c.in_ok-push.ensures.items c.places.invariant

pub returns : goal.returns
returns c = record {
  near = λ files roots many. all_near c.places.all.items c.sort_unstable.new.self.items c.args.count c.places.place c.places-test.false c.places.invariant
      c.sort_unstable.ensures.permutation c.sort_unstable.ensures.sorted files roots many;
}
