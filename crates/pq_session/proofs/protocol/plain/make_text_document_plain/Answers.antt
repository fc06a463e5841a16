use Rattle.std.proofs.Common.{sym, ap, ◌∙◌, BTreeMap, String, Global}
use Rattle.std.specs.Prelude.{codes}
use Rattle.serde_json.specs.View.{members_view}
use Rattle.serde_json.specs.declared.value.Value.{Value}
use Rattle.pq_session.specs.Plain.{plain_document}
use Rattle.pq_session.proofs.PlainLemmas.{Entries, made_so, none_changes, set_changes}
use Rattle.pq_session.proofs.protocol.plain.make_text_document_plain.Goals as goal

pub returns-in-Some : goal.returns-in-Some
returns-in-Some c =
    let left = c.make_document_plain.new.document in
    let before = c.args.members.now.entries in
    made_so c.make_document_plain.result (λ made. ap (λ (es : Entries). members_view es) (c.get_mut.follows.holds left).0 ∙ set_changes (codes "textDocument") plain_document before c.in-Some.document.now left (sym c.in-Some.ensures.value) made) c.make_document_plain.ensures

pub returns-in-None : goal.returns-in-None
returns-in-None c =
    ap (λ (m : BTreeMap (String Global) Value). members_view m.entries) c.get_mut.follows.holds-at-none ∙ sym (none_changes (codes "textDocument") plain_document c.args.members.now.entries (sym c.in-None.ensures.value))
