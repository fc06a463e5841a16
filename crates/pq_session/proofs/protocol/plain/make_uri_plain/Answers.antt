use Rattle.std.proofs.Common.{sym, ap, ◌∙◌, BTreeMap, String, Global}
use Rattle.std.specs.Prelude.{codes}
use Rattle.serde_json.specs.View.{members_view}
use Rattle.serde_json.specs.declared.value.Value.{Value}
use Rattle.pq_session.specs.Plain.{plain_string}
use Rattle.pq_session.proofs.PlainLemmas.{Entries, made_so, none_changes, set_changes}
use Rattle.pq_session.proofs.protocol.plain.make_uri_plain.Goals as goal

pub returns-in-Some : goal.returns-in-Some
returns-in-Some c =
    let left = c.make_plain.new.value in
    let before = c.args.members.now.entries in
    made_so c.make_plain.result (λ made. ap (λ (es : Entries). members_view es) (c.get_mut.follows.holds left).0 ∙ set_changes (codes "uri") plain_string before c.in-Some.uri.now left (sym c.in-Some.ensures.value) made) c.make_plain.ensures

pub returns-in-None : goal.returns-in-None
returns-in-None c =
    ap (λ (m : BTreeMap (String Global) Value). members_view m.entries) c.get_mut.follows.holds-at-none ∙ sym (none_changes (codes "uri") plain_string c.args.members.now.entries (sym c.in-None.ensures.value))
