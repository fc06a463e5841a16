use Rattle.std.proofs.Common.{◌-◌, ℕ, List, Some, true≢false, sym, ap, subst, ◌∙◌, arith}
use Rattle.std.specs.Cmp.Lexicographic.{bytes_decides}
use Rattle.std.proofs.lemmas.List.{get_or_default}
use Rattle.pq_schema.specs.aux.Along.{IsLastStart}
use Rattle.pq_schema.proofs.PartSearch.{no_entry, none_there, other_last, found_last}
use Rattle.pq_schema.proofs.search.along.last_start.Goals as goal

pub returns-then-count-eq0 : goal.returns-then-count-eq0
returns-then-count-eq0 c =
    let e = c.count_to-count.ensures in
    record { last = none_there c.args.parts.now c.requires c.args.name.now c.count_to-count.result e.within e.low e.others c.if-count-eq0.true }

pub returns-then-not-is : goal.returns-then-not-is
returns-then-not-is c =
    let e = c.count_to-count.ensures in
    let parts = c.args.parts.now in
    let name = c.args.name.now in
    let n = c.count_to-count.result in
    let some = c.if-count-eq0.false in
    let within = e.within in
    let entry = c.index-parts-count.is ∙ get_or_default parts (n - 1) c.index-parts-count.result no_entry (omega arith) in
    record {
      last = other_last parts c.requires name n e.within e.low e.others (omega arith)
          (λ is. true≢false (sym ((bytes_decides c.index-parts-count.result.0 name).1 (ap (λ (x : List ℕ × ℕ). x.0) entry ∙ is)) ∙ sym c.if-not-is.ensures.is));
    }

pub returns : goal.returns
returns c =
    let e = c.count_to-count.ensures in
    let parts = c.args.parts.now in
    let name = c.args.name.now in
    let n = c.count_to-count.result in
    let some = c.if-count-eq0.false in
    let within = e.within in
    let entry = c.index-parts-count.is ∙ get_or_default parts (n - 1) c.index-parts-count.result no_entry (omega arith) in
    record {
      last = subst (λ (x : List ℕ × ℕ). IsLastStart parts name (Some x.1)) (sym entry)
          (found_last parts c.requires name n e.within e.low e.others (omega arith)
          (sym (ap (λ (x : List ℕ × ℕ). x.0) entry) ∙ (bytes_decides c.index-parts-count.result.0 name).0 (sym c.if-not-is.ensures.is)));
    }
