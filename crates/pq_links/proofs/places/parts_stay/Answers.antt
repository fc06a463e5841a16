use Rattle.pq_links.proofs.BareParts.{parts_stay}
use Rattle.pq_links.proofs.places.parts_stay.Goals as goal

pub returns : goal.returns
returns c = record { stay = parts_stay }
