use Rattle.std.proofs.Common.{◌≡◌, ℕ, List, [], ◌∷◌, ◌++◌, length, append-nil, sym, ap, ◌∙◌}
use Rattle.std.specs.Prelude.{codes, decimal}
use Rattle.std.proofs.lemmas.Result.{on_ok_weaker}
use Rattle.json.specs.Token.{Token, begin_object, end_object, begin_array, end_array, key, string, number}
use Rattle.serde_json.specs.Data.{Data}
use Rattle.pq_proto.specs.Bodies.{Body}
use Rattle.pq_proto.specs.Compile.{position_in}
use Rattle.pq_proto.specs.Symbols.{span_data, symbol_data, symbols_by, symbols_in}
use Rattle.pq_proto.specs.aux.Printed.{tokens_of, values_of}
use Rattle.pq_proto.specs.aux.Rests.{left}
use Rattle.pq_proto.proofs.ListSteps.{left_more, left_all, link, list_then, symbols_first, symbols_none, symbols_named}
use Rattle.pq_proto.proofs.symbols.+symbols.Goals as goal

pub print_each_symbol-statements-preserved : goal.print_each_symbol-statements-preserved
print_each_symbol-statements-preserved t c =
    let held = c.in-Some.held in
    let place = position_in c.args.file.now in
    left_more (λ (b : Body). symbols_in place b) c.args.out.now c.statements.out c.print_symbols_at.new.out (left c.args.body.now) (left c.statements.rest) (left c.next.new.self)
    (symbols_by place held.node.now.span (symbols_in place (left held.inside)) held.node.now.statement)
    (length c.statements.rest.nodes) (length c.next.new.self.nodes) (length c.args.body.now.nodes)
    (ap (λ (b : Body). symbols_in place b) c.in-Some.ensures.body ∙ symbols_first place (record { number = held.number; node = held.node.now }) (left held.inside) (left c.next.new.self))
    c.in_ok-print_symbols_at.ensures c.in-Some.ensures.shorter c.statements.invariant

pub print_each_symbol-returns : goal.print_each_symbol-returns
print_each_symbol-returns t c =
    let place = position_in c.args.file.now in
    left_all (λ (b : Body). symbols_in place b) c.args.out.now c.statements.out (left c.args.body.now) (left c.statements.rest) (length c.statements.rest.nodes) (length c.args.body.now.nodes)
    (ap (λ (b : Body). symbols_in place b) c.in_default.ensures.body ∙ symbols_none place) c.statements.invariant

pub print_symbol-returns : goal.print_symbol-returns
print_symbol-returns t c =
    let o0 : List Token = c.args.out.now in
    let o1 : List Token = c.begin_object.new.self in
    let o2 : List Token = c.key.new.self in
    let o3 : List Token = c.begin_array.new.self in
    let o4 : List Token = c.print_each_symbol.new.out in
    let o5 : List Token = c.end_array.new.self in
    let o6 : List Token = c.unsigned_member.new.self in
    let o7 : List Token = c.text_member.new.self in
    let o8 : List Token = c.key-2.new.self in
    let o9 : List Token = c.print_span.new.out in
    let o10 : List Token = c.key-3.new.self in
    let o11 : List Token = c.print_span-2.new.out in
    let o12 : List Token = c.end_object.new.self in
    let x1 : List Token = begin_object ∷ [] in
    let x2 : List Token = key (codes "children") ∷ [] in
    let x3 : List Token = begin_array ∷ [] in
    let x4 : List Token = values_of (symbols_in (position_in c.args.file.now) (left c.args.held.now.inside)) in
    let x5 : List Token = end_array ∷ [] in
    let x6 : List Token = key (codes "kind") ∷ number (decimal c.args.kind) ∷ [] in
    let x7 : List Token = key (codes "name") ∷ string c.args.name.now.text ∷ [] in
    let x8 : List Token = key (codes "range") ∷ [] in
    let x9 : List Token = tokens_of (span_data (position_in c.args.file.now) c.args.held.now.node.now.span) in
    let x10 : List Token = key (codes "selectionRange") ∷ [] in
    let x11 : List Token = tokens_of (span_data (position_in c.args.file.now) c.args.name.now.span) in
    let x12 : List Token = end_object ∷ [] in
    let r12 : List Token = x12 in
    let r11 : List Token = x11 ++ r12 in
    let r10 : List Token = x10 ++ r11 in
    let r9 : List Token = x9 ++ r10 in
    let r8 : List Token = x8 ++ r9 in
    let r7 : List Token = x7 ++ r8 in
    let r6 : List Token = x6 ++ r7 in
    let r5 : List Token = x5 ++ r6 in
    let r4 : List Token = x4 ++ r5 in
    let r3 : List Token = x3 ++ r4 in
    let r2 : List Token = x2 ++ r3 in
    let r1 : List Token = x1 ++ r2 in
    let s1 : o1 ≡ o0 ++ x1 = c.in_ok-begin_object.ensures in
    let s2 : o2 ≡ o1 ++ x2 = c.in_ok-key.ensures in
    let s3 : o3 ≡ o2 ++ x3 = c.in_ok-begin_array.ensures in
    let s4 : o4 ≡ o3 ++ x4 = c.in_ok-print_each_symbol.ensures in
    let s5 : o5 ≡ o4 ++ x5 = c.in_ok-end_array.ensures in
    let s6 : o6 ≡ o5 ++ x6 = c.in_ok-unsigned_member.ensures in
    let s7 : o7 ≡ o6 ++ x7 = c.in_ok-text_member.ensures ∙ ap (λ (t : List ℕ). o6 ++ (key (codes "name") ∷ string t ∷ [])) c.as_str.ensures.same in
    let s8 : o8 ≡ o7 ++ x8 = c.in_ok-key-2.ensures in
    let s9 : o9 ≡ o8 ++ x9 = c.in_ok-print_span.ensures in
    let s10 : o10 ≡ o9 ++ x10 = c.in_ok-key-3.ensures in
    let s11 : o11 ≡ o10 ++ x11 = c.in_ok-print_span-2.ensures in
    let s12 : o12 ≡ o11 ++ x12 = c.in_ok-end_object.ensures in
    let e12 : o12 ≡ o11 ++ r12 = s12 in
    let e11 : o12 ≡ o10 ++ r11 = link o10 o11 o12 x11 r12 s11 e12 in
    let e10 : o12 ≡ o9 ++ r10 = link o9 o10 o12 x10 r11 s10 e11 in
    let e9 : o12 ≡ o8 ++ r9 = link o8 o9 o12 x9 r10 s9 e10 in
    let e8 : o12 ≡ o7 ++ r8 = link o7 o8 o12 x8 r9 s8 e9 in
    let e7 : o12 ≡ o6 ++ r7 = link o6 o7 o12 x7 r8 s7 e8 in
    let e6 : o12 ≡ o5 ++ r6 = link o5 o6 o12 x6 r7 s6 e7 in
    let e5 : o12 ≡ o4 ++ r5 = link o4 o5 o12 x5 r6 s5 e6 in
    let e4 : o12 ≡ o3 ++ r4 = link o3 o4 o12 x4 r5 s4 e5 in
    let e3 : o12 ≡ o2 ++ r3 = link o2 o3 o12 x3 r4 s3 e4 in
    let e2 : o12 ≡ o1 ++ r2 = link o1 o2 o12 x2 r3 s2 e3 in
    let e1 : o12 ≡ o0 ++ r1 = link o0 o1 o12 x1 r2 s1 e2 in
    e1 ∙ ap (λ (ts : List Token). o0 ++ (begin_object ∷ key (codes "children") ∷ begin_array ∷ ts)) (list_then (symbols_in (position_in c.args.file.now) (left c.args.held.now.inside)) r6)

pub print_symbols_at-returns-in-Some : goal.print_symbols_at-returns-in-Some
print_symbols_at-returns-in-Some t c =
    let place = position_in c.args.file.now in
    let old : List Token = c.args.out.now in
    let children : List Data = symbols_in place (left c.args.held.now.inside) in
    let one = symbol_data place c.in-Some.kind c.in-Some.name.now c.args.held.now.node.now.span children in
    let same = symbols_named place c.args.held.now.node.now.span children c.args.held.now.node.now.statement c.in-Some.kind c.in-Some.name.now c.in-Some.ensures in
    on_ok_weaker c.print_symbol.result (λ e. e ∙ ap (λ (ts : List Token). old ++ ts) (sym (ap values_of same ∙ append-nil (tokens_of one)))) c.print_symbol.ensures
