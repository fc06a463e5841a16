-- No list of links has a float.
use Rattle.std.proofs.Common.{◌≡◌, List, [], ◌∷◌, false, refl}
use Rattle.std.specs.Prelude.{map}
use Rattle.serde_json.specs.Written.{has_float}
use Rattle.pq_editor.specs.Json.{list_data}
use Rattle.pq_editor.specs.Links.{link_data}
use Rattle.pq_editor.specs.declared.links.Link.{Link}

pub links_have_no_float : (links : List Link) → has_float (list_data (map link_data links)) ≡ false
links_have_no_float [] = refl
links_have_no_float (l ∷ ls) = links_have_no_float ls
