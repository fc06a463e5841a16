use Rattle.pq_view.proofs.LeadingBack.{back_to_path, document_found}
use Rattle.pq_view.proofs.laws.names_lead_back.Goals as goal

pub returns : goal.returns
returns c = record { path = back_to_path; document = document_found }
