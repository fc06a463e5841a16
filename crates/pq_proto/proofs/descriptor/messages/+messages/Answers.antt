use Rattle.std.proofs.Common.{◌≡◌, List, [], ◌∷◌, ◌++◌, false, length, append-nil, append_assoc, drop, sym, ap, ◌∙◌}
use Rattle.std.specs.Prelude.{codes}
use Rattle.std.proofs.lemmas.Result.{on_ok_weaker}
use Rattle.json.specs.Token.{Token, begin_object, begin_array, key, string, boolean}
use Rattle.serde_json.specs.Data.{Data}
use Rattle.pq_syntax.specs.declared.tree.Statement.{Statement}
use Rattle.pq_schema.specs.Definitions.{entry_name}
use Rattle.pq_proto.specs.Bodies.{Body}
use Rattle.pq_proto.specs.Lists.{list_data}
use Rattle.pq_proto.specs.Types.{field_type, key_type}
use Rattle.pq_proto.specs.Descriptor.{entry_data, entry_of, enums_in, fields_in, message_by, messages_in}
use Rattle.pq_proto.specs.aux.Parts.{message_back, message_front}
use Rattle.pq_proto.specs.aux.Printed.{tokens_of, values_of}
use Rattle.pq_proto.specs.aux.Rests.{left}
use Rattle.pq_proto.proofs.ListSteps.{left_more, left_all, link, list_then, messages_first, messages_none}
use Rattle.pq_proto.proofs.descriptor.messages.+messages.Goals as goal

pub print_each_message-statements-preserved : goal.print_each_message-statements-preserved
print_each_message-statements-preserved t c =
    let held = c.in-Some.held in
    let refs = c.args.references.now in
    let scope = c.args.scope.now in
    left_more (λ (b : Body). messages_in refs b scope) c.args.out.now c.statements.out c.print_message_at.new.out (left c.args.body.now) (left c.statements.rest) (left c.next.new.self)
    (message_by refs scope held.number (left held.inside) (messages_in refs (left held.inside)) held.node.now.statement)
    (length c.statements.rest.nodes) (length c.next.new.self.nodes) (length c.args.body.now.nodes)
    (ap (λ (b : Body). messages_in refs b scope) c.in-Some.ensures.body ∙ messages_first refs scope (record { number = held.number; node = held.node.now }) (left held.inside) (left c.next.new.self))
    c.in_ok-print_message_at.ensures c.in-Some.ensures.shorter c.statements.invariant

pub print_each_message-returns : goal.print_each_message-returns
print_each_message-returns t c =
    let refs = c.args.references.now in
    let scope = c.args.scope.now in
    left_all (λ (b : Body). messages_in refs b scope) c.args.out.now c.statements.out (left c.args.body.now) (left c.statements.rest) (length c.statements.rest.nodes) (length c.args.body.now.nodes)
    (ap (λ (b : Body). messages_in refs b scope) c.in_default.ensures.body ∙ messages_none refs scope) c.statements.invariant

pub print_message-returns : goal.print_message-returns
print_message-returns t c =
    let o0 : List Token = c.args.out.now in
    let o1 : List Token = c.print_front.new.out in
    let o2 : List Token = c.print_each_message.new.out in
    let o3 : List Token = c.print_back.new.out in
    let x1 : List Token = message_front c.args.references.now c.args.full.now (left c.args.body.now) in
    let x2 : List Token = values_of (messages_in c.args.references.now (left c.args.body.now) c.args.full.now) in
    let x3 : List Token = message_back c.args.name.now (left c.args.body.now) in
    let r3 : List Token = x3 in
    let r2 : List Token = x2 ++ r3 in
    let r1 : List Token = x1 ++ r2 in
    let s1 : o1 ≡ o0 ++ x1 = c.in_ok-print_front.ensures in
    let s2 : o2 ≡ o1 ++ x2 = c.in_ok-print_each_message.ensures in
    let s3 : o3 ≡ o2 ++ x3 = c.in_ok-print_back.ensures in
    let e3 : o3 ≡ o2 ++ r3 = s3 in
    let e2 : o3 ≡ o1 ++ r2 = link o1 o2 o3 x2 r3 s2 e3 in
    let e1 : o3 ≡ o0 ++ r1 = link o0 o1 o3 x1 r2 s1 e2 in
    let inner : List Data = messages_in c.args.references.now (left c.args.body.now) c.args.full.now in
    let enums : List Token = tokens_of (list_data (enums_in c.args.full.now (left c.args.body.now))) in
    let fields : List Token = tokens_of (list_data (fields_in c.args.references.now c.args.full.now (left c.args.body.now))) in
    let middle : List Token = key (codes "fullName") ∷ string c.args.full.now ∷ key (codes "mapEntry") ∷ boolean false ∷ key (codes "messages") ∷ begin_array ∷ [] in
    let back : List Token = drop 1 x3 in
    let front : x1 ++ r2 ≡ begin_object ∷ key (codes "enums") ∷ (enums ++ (key (codes "fields") ∷ (fields ++ (middle ++ r2)))) =
    ap (λ (ts : List Token). begin_object ∷ key (codes "enums") ∷ ts)
    (append_assoc enums (key (codes "fields") ∷ (fields ++ middle)) r2 ∙ ap (λ (ts : List Token). enums ++ (key (codes "fields") ∷ ts)) (append_assoc fields middle r2)) in
    e1 ∙ ap (λ (ts : List Token). o0 ++ ts) front
    ∙ ap (λ (ts : List Token). o0 ++ (begin_object ∷ key (codes "enums") ∷ (enums ++ (key (codes "fields") ∷ (fields ++ (middle ++ ts)))))) (list_then inner back)

pub print_message_at-returns-in-MapField : goal.print_message_at-returns-in-MapField
print_message_at-returns-in-MapField t c =
    let refs = c.args.references.now in
    let scope = c.args.scope.now in
    let held = c.args.held.now in
    let old : List Token = c.args.out.now in
    let f = c.in-MapField in
    let one = entry_data (entry_of scope f.name.text) (entry_name f.name.text) (key_type f.key.text) (field_type refs held.number f.value.text) in
    let same : values_of (message_by refs scope held.number (left held.inside) (messages_in refs (left held.inside)) held.node.now.statement) ≡ tokens_of one =
    ap (λ (s : Statement). values_of (message_by refs scope held.number (left held.inside) (messages_in refs (left held.inside)) s)) f.is ∙ append-nil (tokens_of one) in
    on_ok_weaker c.print_map_entry.result (λ e. e ∙ ap (λ (ts : List Token). old ++ ts) (sym same)) c.print_map_entry.ensures
