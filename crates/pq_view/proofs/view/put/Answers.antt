use Rattle.std.proofs.Common.{Some, cond, ap, sym, ◌∙◌}
use Rattle.std.specs.Prelude.{bytes_eq, string_bytes}
use Rattle.std.specs.BTreeMap.{get_by_text}
use Rattle.std.proofs.lemmas.Map.Text.{btree_map_updates_text}
use Rattle.pq_view.proofs.view.put.Goals as goal

pub returns-in_ok-insert-in-Some-clause-put : goal.returns-in_ok-insert-in-Some-clause-put
returns-in_ok-insert-in-Some-clause-put c = λ q.
    btree_map_updates_text (string_bytes c.in_ok-key-in-Some.key) c.args.texts.now c.insert.new.self _ c.in_ok-insert-in-Some.ensures.updates q
    ∙ ap (λ b. cond (bytes_eq b q) (Some c.in-Some.text) (get_by_text c.args.texts.now q)) c.in_ok-key-in-Some.ensures.ok
    ∙ ap (λ t. cond (bytes_eq c.args.path.now q) t (get_by_text c.args.texts.now q)) (sym c.in-Some.is)

pub returns-in-None-clause-put : goal.returns-in-None-clause-put
returns-in-None-clause-put c = λ q.
    btree_map_updates_text c.args.path.now c.args.texts.now c.remove.new.self _ c.remove.ensures.updates q
    ∙ ap (λ t. cond (bytes_eq c.args.path.now q) t (get_by_text c.args.texts.now q)) (sym c.in-None.is)
