use Rattle.pq_editor.proofs.Splicing.{workspace_is_spliced}
use Rattle.pq_editor.proofs.laws.workspace_spliced.Goals as goal

pub returns : goal.returns
returns c = workspace_is_spliced
