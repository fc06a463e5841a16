use Rattle.std.proofs.Common.{ℕ, ◌+◌, ◌<◌, ◌≤◌, nat_lt, set, length, get_or, List, sym, ap, subst, arith}
use Rattle.std.proofs.lemmas.List.{get_or_default}
use Rattle.pq_schema.specs.aux.Index.{IsStart, AreMarked, place_at}
use Rattle.pq_schema.proofs.IndexLemmas.{no_entry}
use Rattle.pq_schema.proofs.Repeats.{placed, next_start, marked_more, marked_all}
use Rattle.pq_schema.proofs.define.index.repeated.Goals as goal

pub prove-unreachable-requires : goal.prove-unreachable-requires
prove-unreachable-requires c =
    let es = c.args.index.now in
    let i = c.entries.i in
    let len = c.entries.repeated.ok.0 in
    let count = c.entries.invariant.1.count in
    let told = c.len.ensures in
    let place = ap (λ (e : List ℕ × ℕ). e.1) (get_or_default es i c.index-index-i.result no_entry c.entries-test.true) in
    let high = placed es c.args.definitions.now c.requires i c.entries-test.true in
    let past = c.if-prove.true in
    absurd (omega arith)

pub entries-preserved : goal.entries-preserved
entries-preserved c =
    let es = c.args.index.now in
    let ds = c.args.definitions.now in
    let i = c.entries.i in
    let next = next_start es ds c.requires c.entries.first i c.entries-test.true c.entries.invariant.0 in
    let start = subst (λ (f : ℕ). (f ≤ i) × IsStart es f (i + 1)) (sym c.first_of-first.ensures.first) next in
    let first = c.first_of-first.result in
    let place_i = ap (λ (e : List ℕ × ℕ). e.1) (get_or_default es i c.index-index-i.result no_entry c.entries-test.true) in
    let low = start.0 in
    let within = c.entries-test.true in
    let high : first < length es = omega arith in
    let place_first = ap (λ (e : List ℕ × ℕ). e.1) (get_or_default es first c.index-index-first.result no_entry high) in
    let more = marked_more es ds c.requires c.entries.repeated.items first i low within start.1 c.entries.invariant.1 in (
      start.1,
      subst (λ (p : ℕ). AreMarked es ds (set c.entries.repeated.items p (nat_lt (get_or es first c.index-index-first.result).1 p)) (i + 1)) (sym place_i)
          (subst (λ (p : ℕ). AreMarked es ds (set c.entries.repeated.items (place_at es i) (nat_lt p (place_at es i))) (i + 1)) (sym place_first) more),
    )

pub returns : goal.returns
returns c = record { repeated = marked_all c.args.index.now c.args.definitions.now c.requires c.entries.repeated.items c.entries.i c.entries-test.false c.entries.invariant.1 }
