use Rattle.std.proofs.Common.{map}
use Rattle.std.specs.Prelude.{string_bytes}
use Rattle.pq_server.proofs.library.folder.read_library.Goals as goal

pub returns : goal.returns
returns g c = (map string_bytes c.in_ok-names.names.items, c.in_ok-inputs.ensures)
