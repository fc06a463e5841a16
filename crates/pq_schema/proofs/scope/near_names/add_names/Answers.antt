use Rattle.std.proofs.Common.{sym, ap, ◌∙◌, [], List, ℕ}
use Rattle.std.proofs.lemmas.List.{get_or_default}
use Rattle.pq_schema.specs.aux.NameCodes.{code_of}
use Rattle.pq_schema.proofs.NearNames.{none_yet, one_more, same_code, all_added}
use Rattle.pq_schema.proofs.scope.near_names.add_names.Goals as goal

pub entries-init : goal.entries-init
entries-init c = none_yet c.args.names.now.items c.args.index.now c.args.place

pub entries-preserved-then-is_repeated : goal.entries-preserved-then-is_repeated
entries-preserved-then-is_repeated c =
    let same = c.is_repeated.ensures.same c.if-is_repeated.true in
    same_code c.args.names.now.items c.entries.names.items c.args.index.now c.args.place c.entries.at same.0 same.1 c.entries.invariant

pub entries-preserved : goal.entries-preserved
entries-preserved c =
    one_more c.args.names.now.items c.entries.names.items c.push.new.self.items c.args.index.now c.args.place c.entries.at c.code.result
    (c.code.ensures.code ∙ ap (λ (e : List ℕ × ℕ). code_of e.0) (get_or_default c.args.index.now c.entries.at c.index-index-at.result ([], 0) c.entries-test.true)) c.in_ok-push.ensures.items c.entries.invariant

pub returns : goal.returns
returns c = record {
  added = all_added c.args.names.now.items c.entries.names.items c.args.index.now c.args.place c.entries.at c.entries-test.false c.entries.invariant;
}
