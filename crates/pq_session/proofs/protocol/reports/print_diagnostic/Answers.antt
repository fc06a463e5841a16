use Rattle.std.proofs.Common.{◌≡◌, ℕ, List, [], ◌∷◌, ◌++◌, ap, ap₂, ◌∙◌}
use Rattle.std.specs.Prelude.{codes, decimal}
use Rattle.json.specs.Token.{Token, begin_object, end_object, key, number, string}
use Rattle.pq_lex.specs.declared.position.Position.{Position}
use Rattle.pq_links.specs.declared.files.ParsedFile.{ParsedFile}
use Rattle.pq_checks.specs.Codes.{code_text}
use Rattle.pq_checks.specs.declared.errors.diagnostic.Diagnostic.{Diagnostic}
use Rattle.pq_proto.specs.Compile.{position_in}
use Rattle.pq_proto.specs.Ranges.{range_data}
use Rattle.pq_proto.specs.aux.Printed.{tokens_of}
use Rattle.pq_proto.proofs.ListSteps.{link}
use Rattle.pq_session.specs.Editor.{shown_message}
use Rattle.pq_session.proofs.protocol.reports.print_diagnostic.Goals as goal

pub returns : goal.returns
returns c =
    let o0 : List Token = c.args.out.now in
    let file : ParsedFile = c.args.file.now in
    let f : Diagnostic = c.args.diagnostic.now in
    let o1 : List Token = c.begin_object.new.self in
    let o2 : List Token = c.text_member.new.self in
    let o3 : List Token = c.print_message.new.out in
    let o4 : List Token = c.key.new.self in
    let o5 : List Token = c.print_range.new.out in
    let o6 : List Token = c.unsigned_member.new.self in
    let o7 : List Token = c.text_member-2.new.self in
    let o8 : List Token = c.end_object.new.self in
    let x1 : List Token = begin_object ∷ [] in
    let x2 : List Token = key (codes "code") ∷ string (code_text f.code) ∷ [] in
    let x3 : List Token = key (codes "message") ∷ string (shown_message c.args.looked.now f) ∷ [] in
    let x4 : List Token = key (codes "range") ∷ [] in
    let x5 : List Token = tokens_of (range_data (position_in file f.start) (position_in file f.end)) in
    let x6 : List Token = key (codes "severity") ∷ number (decimal c.args.severity) ∷ [] in
    let x7 : List Token = key (codes "source") ∷ string (codes "proto") ∷ [] in
    let x8 : List Token = end_object ∷ [] in
    let r8 : List Token = x8 in
    let r7 : List Token = x7 ++ r8 in
    let r6 : List Token = x6 ++ r7 in
    let r5 : List Token = x5 ++ r6 in
    let r4 : List Token = x4 ++ r5 in
    let r3 : List Token = x3 ++ r4 in
    let r2 : List Token = x2 ++ r3 in
    let r1 : List Token = x1 ++ r2 in
    let s1 : o1 ≡ o0 ++ x1 = c.in_ok-begin_object.ensures in
    let s2 : o2 ≡ o1 ++ x2 = c.in_ok-text_member.ensures ∙ ap (λ (t : List ℕ). o1 ++ (key (codes "code") ∷ string t ∷ [])) c.as_str.ensures.text in
    let s3 : o3 ≡ o2 ++ x3 = c.in_ok-print_message.ensures in
    let s4 : o4 ≡ o3 ++ x4 = c.in_ok-key.ensures in
    let s5 : o5 ≡ o4 ++ x5 = c.in_ok-print_range.ensures ∙ ap₂ (λ (p q : Position). o4 ++ tokens_of (range_data p q)) c.position_in-start.ensures c.position_in-end.ensures in
    let s6 : o6 ≡ o5 ++ x6 = c.in_ok-unsigned_member.ensures in
    let s7 : o7 ≡ o6 ++ x7 = c.in_ok-text_member-2.ensures in
    let s8 : o8 ≡ o7 ++ x8 = c.in_ok-end_object.ensures in
    let e8 : o8 ≡ o7 ++ r8 = s8 in
    let e7 : o8 ≡ o6 ++ r7 = link o6 o7 o8 x7 r8 s7 e8 in
    let e6 : o8 ≡ o5 ++ r6 = link o5 o6 o8 x6 r7 s6 e7 in
    let e5 : o8 ≡ o4 ++ r5 = link o4 o5 o8 x5 r6 s5 e6 in
    let e4 : o8 ≡ o3 ++ r4 = link o3 o4 o8 x4 r5 s4 e5 in
    let e3 : o8 ≡ o2 ++ r3 = link o2 o3 o8 x3 r4 s3 e4 in
    let e2 : o8 ≡ o1 ++ r2 = link o1 o2 o8 x2 r3 s2 e3 in
    let e1 : o8 ≡ o0 ++ r1 = link o0 o1 o8 x1 r2 s1 e2 in
    e1
