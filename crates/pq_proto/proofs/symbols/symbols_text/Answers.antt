use Rattle.std.proofs.Common.{◌≡◌, List, [], ◌∷◌, ◌++◌, sym, ap, ◌∙◌}
use Rattle.std.proofs.lemmas.Result.{IfOk-weaker}
use Rattle.json.specs.Token.{Token, begin_array, end_array}
use Rattle.json.specs.Print.{print}
use Rattle.serde_json.specs.Data.{Data}
use Rattle.serde_json.specs.Written.{compact_text}
use Rattle.serde_json.proofs.Texts.{print-outline}
use Rattle.pq_syntax.specs.declared.tree.Node.{Node}
use Rattle.pq_proto.specs.Compile.{position_in}
use Rattle.pq_proto.specs.Lists.{list_data}
use Rattle.pq_proto.specs.Symbols.{symbols, symbols_in}
use Rattle.pq_proto.specs.aux.Printed.{tokens_of, values_of}
use Rattle.pq_proto.specs.aux.Rests.{Rest, left}
use Rattle.pq_proto.proofs.ListSteps.{link, list_tokens}
use Rattle.pq_proto.proofs.symbols.symbols_text.Goals as goal

pub returns : goal.returns
returns c =
    let place = position_in c.args.file.now in
    let ds : List Data = symbols_in place (left c.of.result) in
    let o0 : List Token = c.new-out.result in
    let o1 : List Token = c.begin_array.new.self in
    let o2 : List Token = c.print_each_symbol.new.out in
    let o3 : List Token = c.end_array.new.self in
    let s1 : o1 ≡ o0 ++ (begin_array ∷ []) = c.in_ok-begin_array.ensures in
    let s2 : o2 ≡ o1 ++ values_of ds = c.in_ok-print_each_symbol.ensures in
    let s3 : o3 ≡ o2 ++ (end_array ∷ []) = c.in_ok-end_array.ensures in
    let e : o3 ≡ o0 ++ (begin_array ∷ (values_of ds ++ (end_array ∷ []))) =
    link o0 o1 o3 (begin_array ∷ []) (values_of ds ++ (end_array ∷ [])) s1 (link o1 o2 o3 (values_of ds) (end_array ∷ []) s2 s3) in
    let printed : o3 ≡ tokens_of (list_data ds) =
    e ∙ ap (λ (ts : List Token). ts ++ (begin_array ∷ (values_of ds ++ (end_array ∷ [])))) c.new-out.ensures
    ∙ ap (λ (ts : List Token). begin_array ∷ ts) (sym (list_tokens ds)) in
    let is = ap (λ (r : Rest). compact_text (list_data (symbols_in place (left r)))) c.of.ensures ∙ ap (λ (ns : List Node). compact_text (symbols place ns)) c.statements-nodes.ensures.nodes in
    IfOk-weaker c.into_text.result _ _ (λ _ h. h ∙ ap print printed ∙ print-outline (list_data ds) ∙ is) c.into_text.ensures
