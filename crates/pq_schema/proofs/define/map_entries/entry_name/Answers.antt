use Rattle.std.proofs.Common.{◌≡◌, ◌≤◌, ℕ, List, ◌++◌, length, true≢false, sym, ap, subst, ◌∙◌, arith}
use Rattle.std.specs.Prelude.{codes, string_bytes}
use Rattle.std.specs.Str.{IsUtf8}
use Rattle.std.proofs.lemmas.Result.{IfOk-weaker}
use Rattle.pq_schema.specs.Definitions.{entry_name}
use Rattle.pq_schema.proofs.EntryNames.{entry_is_text, camel_end}
use Rattle.pq_schema.proofs.define.map_entries.entry_name.Goals as goal

pub unreachable-requires : goal.unreachable-requires
unreachable-requires c =
    let field = c.args.field.now in
    let len = c.as_bytes-byte-items.ensures.len in
    let past : length field ≤ c.bytes.byte-index = let f = c.bytes-test.false in omega arith in
    let name = camel_end c.bytes.camel.first c.bytes.camel.after c.bytes.camel.bytes.items field c.bytes.byte-index past c.bytes.invariant in
    let is : c.extend_from_slice.new.self.items ≡ entry_name field = c.in_ok-extend_from_slice.ensures.items ∙ ap (λ (bs : List ℕ). bs ++ codes "Entry") name in
    true≢false (sym (c.in-Err.ensures.succeeds (subst IsUtf8 (sym is) (entry_is_text field c.utf8.field))))

pub returns : goal.returns
returns c =
    let field = c.args.field.now in
    let len = c.as_bytes-byte-items.ensures.len in
    let past : length field ≤ c.bytes.byte-index = let f = c.bytes-test.false in omega arith in
    let name = camel_end c.bytes.camel.first c.bytes.camel.after c.bytes.camel.bytes.items field c.bytes.byte-index past c.bytes.invariant in
    let is : c.extend_from_slice.new.self.items ≡ entry_name field = c.in_ok-extend_from_slice.ensures.items ∙ ap (λ (bs : List ℕ). bs ++ codes "Entry") name in
    let text : string_bytes c.in-Ok.text ≡ c.extend_from_slice.new.self.items = ap (λ v. v.items) c.in-Ok.ensures.ok in
    IfOk-weaker c.from_string.result _ _ (λ _ h. h ∙ text ∙ is) c.from_string.ensures.same
