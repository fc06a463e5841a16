use Rattle.std.specs.Prelude.{length}
use Rattle.pq_links.proofs.PartSpans.{place_within}
use Rattle.pq_links.proofs.places.parts_within.Goals as goal

pub returns : goal.returns
returns c = record {
  within = λ text nodes item part at tree e. place_within (length text) nodes item part at (c.spans_within.ensures.tree text nodes tree) e;
}
