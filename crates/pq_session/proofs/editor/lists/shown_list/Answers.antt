use Rattle.std.proofs.Common.{Bool, List, ap, ◌∙◌}
use Rattle.serde_json.specs.Written.{compact_text}
use Rattle.pq_checks.specs.declared.errors.diagnostic.Diagnostic.{Diagnostic}
use Rattle.pq_session.specs.Editor.{has_unread, shown_items, shown_list}
use Rattle.pq_session.proofs.PrintLemmas.{printed_alone}
use Rattle.pq_session.proofs.editor.lists.shown_list.Goals as goal

pub returns : goal.returns
unfolding shown_list
returns c =
    let looked = c.args.looked.now in
    let d = c.args.diagnosed.now in
    c.into_string.ensures
    ∙ printed_alone (shown_items c.has_unread-unread.result looked d) c.new-out.result c.print_list.new.out c.new-out.ensures c.in_ok-print_list.ensures
    ∙ ap (λ (unread : Bool). compact_text (shown_items unread looked d)) (c.has_unread-unread.ensures ∙ ap (λ (ds : List Diagnostic). has_unread ds) c.as_slice.ensures)
