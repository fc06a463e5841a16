use Rattle.std.proofs.Common.{option_map, string_bytes, ap, sym, ◌∙◌}
use Rattle.pq_session.proofs.CutLemmas.{all_fit}
use Rattle.pq_session.proofs.editor.cuts.after_changes.Goals as goal

pub returns-in-Some-clause-ok : goal.returns-in-Some-clause-ok
returns-in-Some-clause-ok c =
    sym (all_fit c.args.before.now (string_bytes c.in-Some.text) c.args.changes.now (sym (c.in_ok-text.ensures {u = tt}) ∙ ap (option_map string_bytes) c.in-Some.is))
