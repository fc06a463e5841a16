use Rattle.std.proofs.Common.{◌≡◌, List, [], refl, sym, ◌∙◌, subst}
use Rattle.pq_rules.specs.declared.turn.Answer.TheVariants.{Cycle}
use Rattle.pq_rules.specs.Relations.{Each}
use Rattle.pq_rules.proofs.Weight.{Exact}
use Rattle.pq_memo.specs.Table.{memo_at, HasIn}
use Rattle.pq_memo.specs.Writes.{fronts, ring_keys}
use Rattle.pq_memo.specs.aux.Durabilities.{IsKnown, IsLeastRead, IsFrontRead}
use Rattle.pq_memo.specs.aux.Written.{ArePrepared, memos_of, put_back}
use Rattle.pq_memo.proofs.PutAll.{prepared_even}
use Rattle.pq_memo.proofs.TableCalls.{kept_same, known_fronts, ring_all}
use Rattle.pq_memo.proofs.table.memos.Memos.publish_ring_hinted.Goals as goal

pub ring_durability-durability-requires : goal.ring_durability-durability-requires
ring_durability-durability-requires g c =
    subst (λ (l : List (g.row.R-Key.Denot × List g.row.R-Key.Denot)). Each (λ e. Each (IsKnown (g.R.Rules.machine c.args.self.now.rules) (HasIn (memo_at g.R.Key.Ord.cmp c.args.self.now.places))) (fronts e.1)) l)
    (sym (c.deref-2.ensures.value ∙ c.in-Ok.ensures {u = tt} ∙ c.deref.ensures.value))
    (known_fronts g.R.Key.Ord.cmp (g.R.Rules.machine c.args.self.now.rules) c.args.inputs.now c.args.self.now.places c.requires.kept c.args.members.items c.requires.up_to_date)

pub put_all-requires-clause-even : goal.put_all-requires-clause-even
put_all-requires-clause-even g c =
    prepared_even c.number-now.result (HasIn (memo_at g.R.Key.Ord.cmp c.args.self.now.places)) (Cycle (ring_keys c.deref-3.result.now)) c.in-Ok.placed.items c.in-Ok-prepare_ring.prepared.items
    (subst (λ (l : List (g.row.R-Key.Denot × List g.row.R-Key.Denot)). ArePrepared c.number-now.result (HasIn (memo_at g.R.Key.Ord.cmp c.args.self.now.places)) (Cycle (ring_keys c.deref-3.result.now)) l c.in-Ok-prepare_ring.prepared.items)
    c.deref-3.ensures.value c.in-Ok-prepare_ring.ensures.prepared)

pub returns-in-Ok-prepare_ring-clause-kept : goal.returns-in-Ok-prepare_ring-clause-kept
returns-in-Ok-prepare_ring-clause-kept g c =
    let laws = g.met.R.Rules.lawful c.args.self.now.rules [] in
    let exact : Exact g.R.Key.Ord.cmp = record { total = g.met.R.Key.Ord.total; exact = laws.exact } in
    let same : c.in-Ok.placed.items ≡ c.args.members.items = c.in-Ok.ensures {u = tt} ∙ c.deref.ensures.value in
    (ring_all g.R.Key.Ord.cmp exact (g.R.Rules.machine c.args.self.now.rules) c.args.inputs.now c.now.ensures.counted c.now.ensures.last c.args.self.now.places c.requires.kept
    c.put_all.new.self.places c.args.members.items c.ring_durability-durability.result c.number-now.result (Cycle (ring_keys c.args.members.items)) c.in-Ok-prepare_ring.prepared.items c.prepare_ring.new.self.places
    (c.number-now.ensures ∙ c.now.ensures.now) refl
    (subst (λ (l : List (g.row.R-Key.Denot × List g.row.R-Key.Denot)). ArePrepared c.number-now.result (HasIn (memo_at g.R.Key.Ord.cmp c.args.self.now.places)) (Cycle (ring_keys l)) l c.in-Ok-prepare_ring.prepared.items)
    (c.deref-3.ensures.value ∙ same) c.in-Ok-prepare_ring.ensures.prepared)
    c.prepare_ring.ensures.same
    (subst (λ (l : List (g.row.R-Key.Denot × List g.row.R-Key.Denot)). (q : g.row.R-Key.Denot) → memo_at g.R.Key.Ord.cmp c.put_all.new.self.places q ≡ put_back g.R.Key.Ord.cmp (memos_of c.number-now.result c.ring_durability-durability.result l c.in-Ok-prepare_ring.prepared.items) (memo_at g.R.Key.Ord.cmp c.prepare_ring.new.self.places) q) same c.put_all.ensures.put)
    c.requires.some c.requires.ruled c.requires.reads c.requires.up_to_date
    (subst (λ (l : List (g.row.R-Key.Denot × List g.row.R-Key.Denot)). IsLeastRead (g.R.Rules.machine c.args.self.now.rules) c.args.inputs.now.files (HasIn (memo_at g.R.Key.Ord.cmp c.args.self.now.places)) (IsFrontRead l) c.ring_durability-durability.result)
    (c.deref-2.ensures.value ∙ same) c.ring_durability-durability.ensures)).keeps

pub returns-in-Ok-prepare_ring-clause-published : goal.returns-in-Ok-prepare_ring-clause-published
returns-in-Ok-prepare_ring-clause-published g c =
    let laws = g.met.R.Rules.lawful c.args.self.now.rules [] in
    let exact : Exact g.R.Key.Ord.cmp = record { total = g.met.R.Key.Ord.total; exact = laws.exact } in
    let same : c.in-Ok.placed.items ≡ c.args.members.items = c.in-Ok.ensures {u = tt} ∙ c.deref.ensures.value in (
      c.ring_durability-durability.result,
      (ring_all g.R.Key.Ord.cmp exact (g.R.Rules.machine c.args.self.now.rules) c.args.inputs.now c.now.ensures.counted c.now.ensures.last c.args.self.now.places c.requires.kept
          c.put_all.new.self.places c.args.members.items c.ring_durability-durability.result c.number-now.result (Cycle (ring_keys c.args.members.items)) c.in-Ok-prepare_ring.prepared.items c.prepare_ring.new.self.places
          (c.number-now.ensures ∙ c.now.ensures.now) refl
          (subst (λ (l : List (g.row.R-Key.Denot × List g.row.R-Key.Denot)). ArePrepared c.number-now.result (HasIn (memo_at g.R.Key.Ord.cmp c.args.self.now.places)) (Cycle (ring_keys l)) l c.in-Ok-prepare_ring.prepared.items)
          (c.deref-3.ensures.value ∙ same) c.in-Ok-prepare_ring.ensures.prepared)
          c.prepare_ring.ensures.same
          (subst (λ (l : List (g.row.R-Key.Denot × List g.row.R-Key.Denot)). (q : g.row.R-Key.Denot) → memo_at g.R.Key.Ord.cmp c.put_all.new.self.places q ≡ put_back g.R.Key.Ord.cmp (memos_of c.number-now.result c.ring_durability-durability.result l c.in-Ok-prepare_ring.prepared.items) (memo_at g.R.Key.Ord.cmp c.prepare_ring.new.self.places) q) same c.put_all.ensures.put)
          c.requires.some c.requires.ruled c.requires.reads c.requires.up_to_date
          (subst (λ (l : List (g.row.R-Key.Denot × List g.row.R-Key.Denot)). IsLeastRead (g.R.Rules.machine c.args.self.now.rules) c.args.inputs.now.files (HasIn (memo_at g.R.Key.Ord.cmp c.args.self.now.places)) (IsFrontRead l) c.ring_durability-durability.result)
          (c.deref-2.ensures.value ∙ same) c.ring_durability-durability.ensures)).written,
    )

pub returns-in-Err-prepare_ring-clause-kept : goal.returns-in-Err-prepare_ring-clause-kept
returns-in-Err-prepare_ring-clause-kept g c =
    kept_same g.R.Key.Ord.cmp (g.R.Rules.machine c.args.self.now.rules) c.args.inputs.now c.args.self.now.places c.prepare_ring.new.self.places c.prepare_ring.ensures.same c.requires.kept
