use Rattle.std.proofs.Common.{◌≡◌, ℕ, List, [], ◌∷◌, ◌++◌, ap, ◌∙◌}
use Rattle.std.specs.Prelude.{codes, decimal}
use Rattle.json.specs.Token.{Token, begin_object, end_object, key, string}
use Rattle.pq_checks.specs.declared.errors.diagnostic.Diagnosed.{Diagnosed}
use Rattle.pq_proto.specs.aux.Printed.{tokens_of}
use Rattle.pq_proto.proofs.ListSteps.{link}
use Rattle.pq_session.specs.aux.Shown.{printed_items}
use Rattle.pq_session.proofs.protocol.reports.print_report.Goals as goal

pub returns : goal.returns
returns c =
    let o0 : List Token = c.args.out.now in
    let d : Diagnosed = c.args.diagnosed.now in
    let o1 : List Token = c.begin_object.new.self in
    let o2 : List Token = c.key.new.self in
    let o3 : List Token = c.print_list.new.out in
    let o4 : List Token = c.text_member.new.self in
    let o5 : List Token = c.text_member-2.new.self in
    let o6 : List Token = c.end_object.new.self in
    let x1 : List Token = begin_object ∷ [] in
    let x2 : List Token = key (codes "items") ∷ [] in
    let x3 : List Token = tokens_of (printed_items c.args.reader c.args.looked.now d) in
    let x4 : List Token = key (codes "kind") ∷ string (codes "full") ∷ [] in
    let x5 : List Token = key (codes "resultId") ∷ string (decimal c.args.revision) ∷ [] in
    let x6 : List Token = end_object ∷ [] in
    let r6 : List Token = x6 in
    let r5 : List Token = x5 ++ r6 in
    let r4 : List Token = x4 ++ r5 in
    let r3 : List Token = x3 ++ r4 in
    let r2 : List Token = x2 ++ r3 in
    let s1 : o1 ≡ o0 ++ x1 = c.in_ok-begin_object.ensures in
    let s2 : o2 ≡ o1 ++ x2 = c.in_ok-key.ensures in
    let s3 : o3 ≡ o2 ++ x3 = c.in_ok-print_list.ensures in
    let s4 : o4 ≡ o3 ++ x4 = c.in_ok-text_member.ensures in
    let s5 : o5 ≡ o4 ++ x5 = c.in_ok-text_member-2.ensures ∙ ap (λ (t : List ℕ). o4 ++ (key (codes "resultId") ∷ string t ∷ [])) (c.as_str.ensures.value ∙ c.in_ok-number.ensures.ok) in
    let s6 : o6 ≡ o5 ++ x6 = c.in_ok-end_object.ensures in
    let e5 : o6 ≡ o4 ++ r5 = link o4 o5 o6 x5 r6 s5 s6 in
    let e4 : o6 ≡ o3 ++ r4 = link o3 o4 o6 x4 r5 s4 e5 in
    let e3 : o6 ≡ o2 ++ r3 = link o2 o3 o6 x3 r4 s3 e4 in
    let e2 : o6 ≡ o1 ++ r2 = link o1 o2 o6 x2 r3 s2 e3 in
    link o0 o1 o6 x1 r2 s1 e2
