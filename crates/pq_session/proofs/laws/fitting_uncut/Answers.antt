use Rattle.pq_session.proofs.CutLemmas.{all_fit}
use Rattle.pq_session.proofs.laws.fitting_uncut.Goals as goal

pub returns : goal.returns
returns c = all_fit
