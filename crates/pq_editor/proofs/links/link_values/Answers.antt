use Rattle.std.proofs.Common.{List, [], ◌∷◌, refl}
use Rattle.std.specs.Prelude.{map}
use Rattle.serde_json.specs.View.{view}
use Rattle.pq_editor.specs.Links.{link_data}
use Rattle.pq_editor.specs.declared.links.Link.{Link}
use Rattle.pq_editor.proofs.Gathering.{gathered_more, values_more}
use Rattle.pq_editor.proofs.links.link_values.Goals as goal

pub links-preserved : goal.links-preserved
links-preserved c =
    gathered_more (map link_data) (map link_data c.args.links.now) (map view c.links.values.items) (link_data c.link-item.result ∷ []) _ c.args.links.now c.links.link-index c.link-item.result
    c.links-test.true c.link-item.is (λ (rest : List Link). refl)
    (values_more view c.links.values.items _ c.in_ok-link_value.field-0 (link_data c.link-item.result) (c.in_ok-push.ensures {u = tt}).items c.in_ok-link_value.ensures) c.links.invariant
