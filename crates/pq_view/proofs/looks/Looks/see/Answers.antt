use Rattle.std.proofs.Common.{Bool, List, ℕ, ap, ◌∙◌, to_z-of_z}
use Rattle.std.specs.Prelude.{string_bytes}
use Rattle.std.proofs.lemmas.Map.Text.{btree_map_updates_text}
use Rattle.pq_view.specs.Looks.{is_fresh, look_at, with_look}
use Rattle.pq_view.proofs.looks.Looks.see.Goals as goal

pub returns-clause-seen : goal.returns-clause-seen
returns-clause-seen c = λ q.
    let put = λ (path : List ℕ) (fresh : Bool). with_look path (record { stamp = c.args.stamp; is_fresh = fresh }) (look_at c.args.self.now) q in
    btree_map_updates_text (string_bytes c.in_ok-key.key) c.args.self.now.files c.insert.new.self _ c.in_ok-insert.ensures.updates q
    ∙ ap (λ path. put path c.is_fresh-is_fresh.result) c.in_ok-key.ensures.ok
    ∙ ap (put c.args.path.now) (c.is_fresh-is_fresh.ensures.fresh ∙ ap (is_fresh c.args.stamp) (to_z-of_z c.ranges.now))
