use Rattle.std.proofs.Common.{◌≡◌, ◌++◌, drop}
use Rattle.std.specs.Prelude.{map}
use Rattle.serde_json.specs.View.{view}
use Rattle.pq_editor.specs.Links.{link_data}
use Rattle.pq_editor.proofs.links.link_values.Given as goal

-- the values of what is left complete those so far
abbrev pub invariant-links : goal.invariant-links
invariant-links l = map view l.values.items ++ map link_data (drop l.link-index l.links) ≡ map link_data l.links
