use Rattle.std.proofs.Common.{◌≡◌, List, [], ◌∷◌, ◌++◌, ap, ap₂, ◌∙◌, append-nil}
use Rattle.json.specs.Token.{Token, begin_array, end_array}
use Rattle.serde_json.specs.Data.{Data}
use Rattle.pq_links.specs.declared.files.ParsedFile.{ParsedFile}
use Rattle.pq_checks.specs.declared.errors.diagnostic.Diagnostic.{Diagnostic}
use Rattle.pq_checks.specs.declared.errors.diagnostic.Diagnosed.{Diagnosed}
use Rattle.pq_proto.specs.Lists.{list_data}
use Rattle.pq_proto.specs.aux.Printed.{tokens_of, values_of}
use Rattle.pq_proto.proofs.ListSteps.{link, list_then}
use Rattle.pq_session.specs.aux.Shown.{printed_data}
use Rattle.pq_session.proofs.protocol.reports.print_list.Goals as goal

pub returns : goal.returns
returns c =
    let o0 : List Token = c.args.out.now in
    let d : Diagnosed = c.args.diagnosed.now in
    let ds : List Data = printed_data c.args.reader c.args.looked.now d.file d.diagnostics in
    let o1 : List Token = c.begin_array.new.self in
    let o2 : List Token = c.print_diagnostics.new.out in
    let o3 : List Token = c.end_array.new.self in
    let x1 : List Token = begin_array ∷ [] in
    let x2 : List Token = values_of ds in
    let x3 : List Token = end_array ∷ [] in
    let s1 : o1 ≡ o0 ++ x1 = c.in_ok-begin_array.ensures in
    let s2 : o2 ≡ o1 ++ x2 = c.in_ok-print_diagnostics.ensures ∙ ap₂ (λ (file : ParsedFile) (fs : List Diagnostic). o1 ++ values_of (printed_data c.args.reader c.args.looked.now file fs)) c.get.ensures.value c.as_slice.ensures in
    let s3 : o3 ≡ o2 ++ x3 = c.in_ok-end_array.ensures in
    let e2 : o3 ≡ o1 ++ (x2 ++ x3) = link o1 o2 o3 x2 x3 s2 s3 in
    let e1 : o3 ≡ o0 ++ (x1 ++ (x2 ++ x3)) = link o0 o1 o3 x1 (x2 ++ x3) s1 e2 in
    e1
    ∙ ap (λ (ts : List Token). o0 ++ (begin_array ∷ ts)) (list_then ds [])
    ∙ ap (λ (ts : List Token). o0 ++ ts) (append-nil (tokens_of (list_data ds)))
