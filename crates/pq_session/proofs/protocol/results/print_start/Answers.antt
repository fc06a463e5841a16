use Rattle.std.proofs.Common.{◌≡◌, List, [], ◌∷◌, ◌++◌}
use Rattle.std.specs.Prelude.{codes}
use Rattle.json.specs.Token.{Token, begin_object, key, string}
use Rattle.pq_frame.specs.Labels.{label_data}
use Rattle.pq_session.specs.Labels.{label_model}
use Rattle.pq_proto.specs.aux.Printed.{tokens_of}
use Rattle.pq_proto.proofs.ListSteps.{link}
use Rattle.pq_session.proofs.protocol.results.print_start.Goals as goal

pub returns : goal.returns
returns c =
    let o0 : List Token = c.args.out.now in
    let o1 : List Token = c.begin_object.new.self in
    let o2 : List Token = c.key.new.self in
    let o3 : List Token = c.print_label.new.out in
    let o4 : List Token = c.text_member.new.self in
    let o5 : List Token = c.key-2.new.self in
    let x1 : List Token = begin_object ∷ [] in
    let x2 : List Token = key (codes "id") ∷ [] in
    let x3 : List Token = tokens_of (label_data (label_model c.args.label.now)) in
    let x4 : List Token = key (codes "jsonrpc") ∷ string (codes "2.0") ∷ [] in
    let x5 : List Token = key (codes "result") ∷ [] in
    let e5 : o5 ≡ o4 ++ x5 = c.in_ok-key-2.ensures in
    let e4 : o5 ≡ o3 ++ (x4 ++ x5) = link o3 o4 o5 x4 x5 c.in_ok-text_member.ensures e5 in
    let e3 : o5 ≡ o2 ++ (x3 ++ (x4 ++ x5)) = link o2 o3 o5 x3 (x4 ++ x5) c.in_ok-print_label.ensures e4 in
    let e2 : o5 ≡ o1 ++ (x2 ++ (x3 ++ (x4 ++ x5))) = link o1 o2 o5 x2 (x3 ++ (x4 ++ x5)) c.in_ok-key.ensures e3 in
    link o0 o1 o5 x1 (x2 ++ (x3 ++ (x4 ++ x5))) c.in_ok-begin_object.ensures e2
