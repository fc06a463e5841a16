use Rattle.std.proofs.Common.{[], ◌<◌, ◌∷◌, ◌++◌, List, Option, sym, ◌∙◌, ap, subst}
use Rattle.pq_rules.specs.aux.Evaluator.{Distinct}
use Rattle.pq_rules.proofs.ListLemmas.{not_both}
use Rattle.pq_rules.proofs.Weight.{Exact}
use Rattle.pq_memo.specs.declared.stepping.frame.Frame.{Frame}
use Rattle.pq_memo.specs.Sound.{Memo, sources_at}
use Rattle.pq_memo.specs.Look.{IsUpToDate}
use Rattle.pq_memo.specs.Table.{memo_at, HasIn, KeptOver}
use Rattle.pq_memo.specs.aux.Demand.{Linked, Going, Caused, Advances, walks, weight}
use Rattle.pq_memo.proofs.TableCalls.{kept_same}
use Rattle.pq_memo.proofs.Advancing.{one_table, moved_to}
use Rattle.pq_memo.proofs.Demanding.{begins, held, marked_state, marked_ready, went, ended, handed_same}
use Rattle.pq_memo.proofs.Causes.{first_causes}
use Rattle.pq_memo.proofs.table.memos.Memos.bring_up_to_date.Goals as goal

pub returns-then-is_up_to_date-clause-once : goal.returns-then-is_up_to_date-clause-once
unfolding Distinct
returns-then-is_up_to_date-clause-once g c = rw c.new-carried.ensures.items tt

pub steps-init : goal.steps-init
steps-init g c = record {
  rules = c.make_room.ensures.rules;
  going =
      let laws = g.met.R.Rules.lawful c.args.self.now.rules (sources_at c.args.inputs.now.history c.args.inputs.now.revision) in
      moved_to (λ (r : g.row.R.Denot) (t : g.row.R-Key.Denot → Option (Memo g.row.R-Key.Denot g.row.R-Value.Denot)).
      Going g.R.Key.Ord.cmp (g.R.Rules.machine r) c.args.inputs.now (g.R.Rules.reach r (sources_at c.args.inputs.now.history c.args.inputs.now.revision) c.args.key.now)
      c.args.key.now (memo_at g.R.Key.Ord.cmp c.args.self.now.places) t c.push.new.self c.new-carried.result.items)
      c.args.self.now.rules c.make_room.new.self.rules (memo_at g.R.Key.Ord.cmp c.args.self.now.places) (memo_at g.R.Key.Ord.cmp c.make_room.new.self.places)
      c.make_room.ensures.rules
      (one_table (memo_at g.R.Key.Ord.cmp c.args.self.now.places) (memo_at g.R.Key.Ord.cmp c.make_room.new.self.places) c.make_room.ensures.same)
      (begins g.R.Key.Ord.cmp (g.R.Rules.machine c.args.self.now.rules) c.args.inputs.now
      (g.R.Rules.reach c.args.self.now.rules (sources_at c.args.inputs.now.history c.args.inputs.now.revision)) c.args.key.now
      (memo_at g.R.Key.Ord.cmp c.args.self.now.places) laws c.requires
      (λ up. not_both (c.is_up_to_date.ensures.1 up) c.if-is_up_to_date.false)
      c.push.new.self c.new-carried.result.items c.in_ok-copy.copy (c.in_ok-copy.ensures {u = tt}).copy
      ((c.in_ok-push.ensures {u = tt}) ∙ ap (λ (l : List (Frame g.row.R-Key.Denot g.row.R-Part.Denot)). l ++ walks c.in_ok-copy.copy ∷ []) c.new-stack.ensures)
      c.new-carried.ensures.items);
  caused = first_causes (g.R.Rules.machine c.make_room.new.self.rules) c.args.inputs.now (memo_at g.R.Key.Ord.cmp c.make_room.new.self.places) c.push.new.self c.in_ok-copy.copy
      ((c.in_ok-push.ensures {u = tt}) ∙ ap (λ (l : List (Frame g.row.R-Key.Denot g.row.R-Part.Denot)). l ++ walks c.in_ok-copy.copy ∷ []) c.new-stack.ensures);
}

pub confirm-requires-clause-linked : goal.confirm-requires-clause-linked
confirm-requires-clause-linked g c =
    let laws = g.met.R.Rules.lawful c.steps.self.rules (sources_at c.args.inputs.now.history c.args.inputs.now.revision) in
    let exact : Exact g.R.Key.Ord.cmp = record { total = g.met.R.Key.Ord.total; exact = laws.exact } in
    (held g.R.Key.Ord.cmp exact (g.R.Rules.machine c.steps.self.rules) c.args.inputs.now
    (g.R.Rules.reach c.steps.self.rules (sources_at c.args.inputs.now.history c.args.inputs.now.revision)) c.args.key.now
    c.now-latest.ensures.counted laws (memo_at g.R.Key.Ord.cmp c.args.self.now.places) (memo_at g.R.Key.Ord.cmp c.steps.self.places)
    c.steps.stack c.pop.new.self c.in-Some.frame c.steps.carried.items c.in-Some.ensures.items c.steps.invariant.going c.steps.invariant.caused).linked

pub confirm-requires-clause-stale : goal.confirm-requires-clause-stale
confirm-requires-clause-stale g c =
    let laws = g.met.R.Rules.lawful c.steps.self.rules (sources_at c.args.inputs.now.history c.args.inputs.now.revision) in
    let exact : Exact g.R.Key.Ord.cmp = record { total = g.met.R.Key.Ord.total; exact = laws.exact } in
    (held g.R.Key.Ord.cmp exact (g.R.Rules.machine c.steps.self.rules) c.args.inputs.now
    (g.R.Rules.reach c.steps.self.rules (sources_at c.args.inputs.now.history c.args.inputs.now.revision)) c.args.key.now
    c.now-latest.ensures.counted laws (memo_at g.R.Key.Ord.cmp c.args.self.now.places) (memo_at g.R.Key.Ord.cmp c.steps.self.places)
    c.steps.stack c.pop.new.self c.in-Some.frame c.steps.carried.items c.in-Some.ensures.items c.steps.invariant.going c.steps.invariant.caused).stale

pub confirm-requires-clause-caused : goal.confirm-requires-clause-caused
confirm-requires-clause-caused g c =
    let laws = g.met.R.Rules.lawful c.steps.self.rules (sources_at c.args.inputs.now.history c.args.inputs.now.revision) in
    let exact : Exact g.R.Key.Ord.cmp = record { total = g.met.R.Key.Ord.total; exact = laws.exact } in
    (held g.R.Key.Ord.cmp exact (g.R.Rules.machine c.steps.self.rules) c.args.inputs.now
    (g.R.Rules.reach c.steps.self.rules (sources_at c.args.inputs.now.history c.args.inputs.now.revision)) c.args.key.now
    c.now-latest.ensures.counted laws (memo_at g.R.Key.Ord.cmp c.args.self.now.places) (memo_at g.R.Key.Ord.cmp c.steps.self.places)
    c.steps.stack c.pop.new.self c.in-Some.frame c.steps.carried.items c.in-Some.ensures.items c.steps.invariant.going c.steps.invariant.caused).caused

pub advance-requires-clause-linked : goal.advance-requires-clause-linked
advance-requires-clause-linked g c =
    let laws = g.met.R.Rules.lawful c.steps.self.rules (sources_at c.args.inputs.now.history c.args.inputs.now.revision) in
    let exact : Exact g.R.Key.Ord.cmp = record { total = g.met.R.Key.Ord.total; exact = laws.exact } in
    subst (λ (r : g.row.R.Denot). Linked g.R.Key.Ord.cmp (g.R.Rules.machine r) c.args.inputs.now (memo_at g.R.Key.Ord.cmp c.confirm.new.self.places) (c.pop.new.self ++ c.in-Some.frame ∷ [])) (sym c.confirm.ensures.rules)
    (marked_ready g.R.Key.Ord.cmp exact (g.R.Rules.machine c.steps.self.rules) c.args.inputs.now
    (g.R.Rules.reach c.steps.self.rules (sources_at c.args.inputs.now.history c.args.inputs.now.revision)) c.args.key.now
    c.now-latest.ensures.counted laws (memo_at g.R.Key.Ord.cmp c.args.self.now.places) (memo_at g.R.Key.Ord.cmp c.steps.self.places) (memo_at g.R.Key.Ord.cmp c.confirm.new.self.places)
    c.steps.stack c.pop.new.self c.in-Some.frame c.steps.carried.items c.in-Some.ensures.items c.steps.invariant.going c.steps.invariant.caused
    c.confirm.ensures.kept c.confirm.ensures.confirmed).linked

pub advance-requires-clause-stale : goal.advance-requires-clause-stale
advance-requires-clause-stale g c =
    let laws = g.met.R.Rules.lawful c.steps.self.rules (sources_at c.args.inputs.now.history c.args.inputs.now.revision) in
    let exact : Exact g.R.Key.Ord.cmp = record { total = g.met.R.Key.Ord.total; exact = laws.exact } in
    subst (λ (r : g.row.R.Denot). IsUpToDate (g.R.Rules.machine r) c.args.inputs.now.revision (HasIn (memo_at g.R.Key.Ord.cmp c.confirm.new.self.places)) c.in-Some.frame.key → ⊥) (sym c.confirm.ensures.rules)
    (marked_ready g.R.Key.Ord.cmp exact (g.R.Rules.machine c.steps.self.rules) c.args.inputs.now
    (g.R.Rules.reach c.steps.self.rules (sources_at c.args.inputs.now.history c.args.inputs.now.revision)) c.args.key.now
    c.now-latest.ensures.counted laws (memo_at g.R.Key.Ord.cmp c.args.self.now.places) (memo_at g.R.Key.Ord.cmp c.steps.self.places) (memo_at g.R.Key.Ord.cmp c.confirm.new.self.places)
    c.steps.stack c.pop.new.self c.in-Some.frame c.steps.carried.items c.in-Some.ensures.items c.steps.invariant.going c.steps.invariant.caused
    c.confirm.ensures.kept c.confirm.ensures.confirmed).stale

pub advance-requires-clause-kept : goal.advance-requires-clause-kept
advance-requires-clause-kept g c =
    subst (λ (r : g.row.R.Denot). KeptOver g.R.Key.Ord.cmp (g.R.Rules.machine r) c.args.inputs.now c.confirm.new.self.places) (sym c.confirm.ensures.rules) c.confirm.ensures.kept

pub steps-smaller : goal.steps-smaller
steps-smaller g c =
    let laws = g.met.R.Rules.lawful c.steps.self.rules (sources_at c.args.inputs.now.history c.args.inputs.now.revision) in
    let exact : Exact g.R.Key.Ord.cmp = record { total = g.met.R.Key.Ord.total; exact = laws.exact } in
    subst (λ (r : g.row.R.Denot).
    weight g.R.Key.Ord.cmp (g.R.Rules.machine r) c.args.inputs.now.revision (g.R.Rules.reach r (sources_at c.args.inputs.now.history c.args.inputs.now.revision) c.args.key.now)
    (memo_at g.R.Key.Ord.cmp c.advance.new.self.places) c.advance.new.stack
    < weight g.R.Key.Ord.cmp (g.R.Rules.machine c.steps.self.rules) c.args.inputs.now.revision
    (g.R.Rules.reach c.steps.self.rules (sources_at c.args.inputs.now.history c.args.inputs.now.revision) c.args.key.now)
    (memo_at g.R.Key.Ord.cmp c.steps.self.places) c.steps.stack) (sym (c.advance.ensures.rules ∙ c.confirm.ensures.rules))
    (went g.R.Key.Ord.cmp exact (g.R.Rules.machine c.steps.self.rules) c.args.inputs.now
    (g.R.Rules.reach c.steps.self.rules (sources_at c.args.inputs.now.history c.args.inputs.now.revision)) c.args.key.now
    c.now-latest.ensures.counted laws (memo_at g.R.Key.Ord.cmp c.args.self.now.places) (memo_at g.R.Key.Ord.cmp c.steps.self.places) (memo_at g.R.Key.Ord.cmp c.confirm.new.self.places)
    c.steps.stack c.pop.new.self c.in-Some.frame c.steps.carried.items c.in-Some.ensures.items c.steps.invariant.going c.steps.invariant.caused
    c.confirm.ensures.kept c.confirm.ensures.confirmed
    (memo_at g.R.Key.Ord.cmp c.advance.new.self.places) c.advance.new.stack c.advance.new.carried.items
    (subst (λ (r : g.row.R.Denot). KeptOver g.R.Key.Ord.cmp (g.R.Rules.machine r) c.args.inputs.now c.advance.new.self.places) c.confirm.ensures.rules c.advance.ensures.kept)
    (subst (λ (r : g.row.R.Denot). Advances g.R.Key.Ord.cmp (g.R.Rules.machine r) c.args.inputs.now
    (memo_at g.R.Key.Ord.cmp c.confirm.new.self.places) (memo_at g.R.Key.Ord.cmp c.advance.new.self.places)
    c.in-Some.frame c.pop.new.self c.steps.carried.items c.advance.new.stack c.advance.new.carried.items) c.confirm.ensures.rules c.in_ok-advance.ensures.advanced)).less

pub steps-preserved : goal.steps-preserved
steps-preserved g c =
    let laws = g.met.R.Rules.lawful c.steps.self.rules (sources_at c.args.inputs.now.history c.args.inputs.now.revision) in
    let exact : Exact g.R.Key.Ord.cmp = record { total = g.met.R.Key.Ord.total; exact = laws.exact } in
    let w = (went g.R.Key.Ord.cmp exact (g.R.Rules.machine c.steps.self.rules) c.args.inputs.now
    (g.R.Rules.reach c.steps.self.rules (sources_at c.args.inputs.now.history c.args.inputs.now.revision)) c.args.key.now
    c.now-latest.ensures.counted laws (memo_at g.R.Key.Ord.cmp c.args.self.now.places) (memo_at g.R.Key.Ord.cmp c.steps.self.places) (memo_at g.R.Key.Ord.cmp c.confirm.new.self.places)
    c.steps.stack c.pop.new.self c.in-Some.frame c.steps.carried.items c.in-Some.ensures.items c.steps.invariant.going c.steps.invariant.caused
    c.confirm.ensures.kept c.confirm.ensures.confirmed
    (memo_at g.R.Key.Ord.cmp c.advance.new.self.places) c.advance.new.stack c.advance.new.carried.items
    (subst (λ (r : g.row.R.Denot). KeptOver g.R.Key.Ord.cmp (g.R.Rules.machine r) c.args.inputs.now c.advance.new.self.places) c.confirm.ensures.rules c.advance.ensures.kept)
    (subst (λ (r : g.row.R.Denot). Advances g.R.Key.Ord.cmp (g.R.Rules.machine r) c.args.inputs.now
    (memo_at g.R.Key.Ord.cmp c.confirm.new.self.places) (memo_at g.R.Key.Ord.cmp c.advance.new.self.places)
    c.in-Some.frame c.pop.new.self c.steps.carried.items c.advance.new.stack c.advance.new.carried.items) c.confirm.ensures.rules c.in_ok-advance.ensures.advanced)) in
    record {
      rules = c.advance.ensures.rules ∙ c.confirm.ensures.rules ∙ c.steps.invariant.rules;
      going = subst (λ (r : g.row.R.Denot).
          Going g.R.Key.Ord.cmp (g.R.Rules.machine r) c.args.inputs.now (g.R.Rules.reach r (sources_at c.args.inputs.now.history c.args.inputs.now.revision) c.args.key.now) c.args.key.now
          (memo_at g.R.Key.Ord.cmp c.args.self.now.places) (memo_at g.R.Key.Ord.cmp c.advance.new.self.places) c.advance.new.stack c.advance.new.carried.items)
          (sym (c.advance.ensures.rules ∙ c.confirm.ensures.rules)) w.state;
      caused = subst (λ (r : g.row.R.Denot).
          Caused (g.R.Rules.machine r) c.args.inputs.now (memo_at g.R.Key.Ord.cmp c.advance.new.self.places) c.advance.new.stack)
          (sym (c.advance.ensures.rules ∙ c.confirm.ensures.rules)) w.because;
    }

pub returns-in_err-advance-clause-handed_on : goal.returns-in_err-advance-clause-handed_on
returns-in_err-advance-clause-handed_on g c k =
    let laws = g.met.R.Rules.lawful c.steps.self.rules (sources_at c.args.inputs.now.history c.args.inputs.now.revision) in
    let exact : Exact g.R.Key.Ord.cmp = record { total = g.met.R.Key.Ord.total; exact = laws.exact } in
    handed_same c.args.inputs.now.revision (memo_at g.R.Key.Ord.cmp c.args.self.now.places) (memo_at g.R.Key.Ord.cmp c.confirm.new.self.places) (memo_at g.R.Key.Ord.cmp c.advance.new.self.places)
    c.in_err-advance.ensures.refused
    (marked_state g.R.Key.Ord.cmp exact (g.R.Rules.machine c.steps.self.rules) c.args.inputs.now
    (g.R.Rules.reach c.steps.self.rules (sources_at c.args.inputs.now.history c.args.inputs.now.revision)) c.args.key.now
    c.now-latest.ensures.counted laws (memo_at g.R.Key.Ord.cmp c.args.self.now.places) (memo_at g.R.Key.Ord.cmp c.steps.self.places) (memo_at g.R.Key.Ord.cmp c.confirm.new.self.places)
    c.steps.stack c.pop.new.self c.in-Some.frame c.steps.carried.items c.in-Some.ensures.items c.steps.invariant.going c.steps.invariant.caused
    c.confirm.ensures.kept c.confirm.ensures.confirmed).tells.handed_on k

pub returns-in_err-advance-clause-kept : goal.returns-in_err-advance-clause-kept
returns-in_err-advance-clause-kept g c =
    subst (λ (r : g.row.R.Denot). KeptOver g.R.Key.Ord.cmp (g.R.Rules.machine r) c.args.inputs.now c.advance.new.self.places)
    (c.confirm.ensures.rules ∙ c.steps.invariant.rules) c.advance.ensures.kept

pub returns-clause-up_to_date : goal.returns-clause-up_to_date
returns-clause-up_to_date g c =
    let empty = rw c.in_default.is at c.pop.ensures.empty in
    let laws = g.met.R.Rules.lawful c.steps.self.rules (sources_at c.args.inputs.now.history c.args.inputs.now.revision) in
    let exact : Exact g.R.Key.Ord.cmp = record { total = g.met.R.Key.Ord.total; exact = laws.exact } in
    subst (λ (r : g.row.R.Denot).
    IsUpToDate (g.R.Rules.machine r) c.args.inputs.now.revision (HasIn (memo_at g.R.Key.Ord.cmp c.steps.self.places)) c.args.key.now) c.steps.invariant.rules
    (ended g.R.Key.Ord.cmp exact (g.R.Rules.machine c.steps.self.rules) c.args.inputs.now
    (g.R.Rules.reach c.steps.self.rules (sources_at c.args.inputs.now.history c.args.inputs.now.revision)) c.args.key.now
    c.now-latest.ensures.counted laws (memo_at g.R.Key.Ord.cmp c.args.self.now.places) (memo_at g.R.Key.Ord.cmp c.steps.self.places)
    c.steps.stack c.steps.carried.items empty c.steps.invariant.going).up_to_date

pub returns-clause-idle : goal.returns-clause-idle
returns-clause-idle g c up = absurd (not_both (c.is_up_to_date.ensures.1 up) c.if-is_up_to_date.false)

pub returns-clause-covered : goal.returns-clause-covered
returns-clause-covered g c =
    let empty = rw c.in_default.is at c.pop.ensures.empty in
    let laws = g.met.R.Rules.lawful c.steps.self.rules (sources_at c.args.inputs.now.history c.args.inputs.now.revision) in
    let exact : Exact g.R.Key.Ord.cmp = record { total = g.met.R.Key.Ord.total; exact = laws.exact } in
    (ended g.R.Key.Ord.cmp exact (g.R.Rules.machine c.steps.self.rules) c.args.inputs.now
    (g.R.Rules.reach c.steps.self.rules (sources_at c.args.inputs.now.history c.args.inputs.now.revision)) c.args.key.now
    c.now-latest.ensures.counted laws (memo_at g.R.Key.Ord.cmp c.args.self.now.places) (memo_at g.R.Key.Ord.cmp c.steps.self.places)
    c.steps.stack c.steps.carried.items empty c.steps.invariant.going).covered

pub returns-in_err-hint-clause-kept : goal.returns-in_err-hint-clause-kept
returns-in_err-hint-clause-kept g c =
    kept_same g.R.Key.Ord.cmp (g.R.Rules.machine c.args.self.now.rules) c.args.inputs.now c.args.self.now.places c.make_room.new.self.places
    c.make_room.ensures.same c.requires

pub returns-in_err-copy-clause-kept : goal.returns-in_err-copy-clause-kept
returns-in_err-copy-clause-kept g c =
    kept_same g.R.Key.Ord.cmp (g.R.Rules.machine c.args.self.now.rules) c.args.inputs.now c.args.self.now.places c.make_room.new.self.places
    c.make_room.ensures.same c.requires

pub returns-in_err-push-clause-kept : goal.returns-in_err-push-clause-kept
returns-in_err-push-clause-kept g c =
    kept_same g.R.Key.Ord.cmp (g.R.Rules.machine c.args.self.now.rules) c.args.inputs.now c.args.self.now.places c.make_room.new.self.places
    c.make_room.ensures.same c.requires
