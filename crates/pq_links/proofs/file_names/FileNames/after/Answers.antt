use Rattle.pq_links.proofs.OnceOnly.{once_of}
use Rattle.pq_links.proofs.file_names.FileNames.after.Goals as goal

pub new-requires : goal.new-requires
new-requires c = record { once = once_of _ _ c.in_ok-names.ensures.names }
