use Rattle.std.proofs.Common.{[], ℕ, ◌∙◌, ap, sym}
use Rattle.std.proofs.lemmas.Result.{IfOk-weaker}
use Rattle.pq_rules.proofs.ListLemmas.{not_both}
use Rattle.pq_rules.proofs.Weight.{Exact}
use Rattle.pq_memo.specs.aux.Stack.{place_in}
use Rattle.pq_memo.specs.aux.Numbers.{first_in}
use Rattle.pq_memo.proofs.Coded.{other_number, claimed_by, coded_claimed, claimed_put, first_put, none_weaker, some_is}
use Rattle.pq_memo.proofs.table.numbers.Numbers.claim.Goals as goal

pub invariant_of-self : goal.invariant_of-self
invariant_of-self g c =
    let laws = g.met.R.Rules.lawful c.args.rules.now [] in
    let exact : Exact g.R.Key.Ord.cmp = record { total = g.met.R.Key.Ord.total; exact = laws.exact } in
    coded_claimed g.R.Key.Ord.cmp exact g.R.Rules.codes c.self.inside.others.entries c.claim_place.new.places.entries c.in_ok-copy-in-Some.copy c.args.number
    c.self.inside.codes.entries c.args.key.now ((c.in_ok-copy-in-Some.ensures {u = tt}).copy ∙ c.key-in-Some-3.ensures) c.self.invariant
    (some_is _ c.in-Some.first.now (c.in-Some.ensures ∙ ap (λ (h : ℕ). first_in c.self.inside.codes.entries h) (c.code-code.ensures.code ∙ ap (λ k. g.R.Rules.codes k) c.key.ensures)))
    (claimed_by g.R.Key.Ord.cmp exact g.R.Rules.codes c.self.inside.others.entries c.claim_place.new.places.entries c.in_ok-copy-in-Some.copy c.args.number c.claim_place.result c.claim_place.ensures.same c.claim_place.ensures.put c.claim_place.ensures.refused)

pub returns-in_ok-copy-in-Some-clause-had : goal.returns-in_ok-copy-in-Some-clause-had
returns-in_ok-copy-in-Some-clause-had g c =
    let laws = g.met.R.Rules.lawful c.args.rules.now [] in
    let exact : Exact g.R.Key.Ord.cmp = record { total = g.met.R.Key.Ord.total; exact = laws.exact } in
    IfOk-weaker c.claim_place.result _ _
    (λ o h. h ∙ ap (λ k. place_in g.R.Key.Ord.cmp c.self.inside.others.entries k) ((c.in_ok-copy-in-Some.ensures {u = tt}).copy ∙ c.key-in-Some-3.ensures)
    ∙ other_number g.R.Key.Ord.cmp exact g.R.Rules.codes c.self.inside.codes.entries c.self.inside.others.entries c.args.self.now c.self.view_is
    c.args.key.now c.code-code.result c.in-Some.first.now (c.code-code.ensures.code ∙ ap (λ k. g.R.Rules.codes k) c.key.ensures) c.in-Some.ensures
    (λ e. not_both (c.is_same_key.ensures.1 (c.key-in-Some.ensures ∙ e ∙ sym c.key-in-Some-2.ensures)) c.if-is_same_key.false))
    c.claim_place.ensures.had

pub returns-in_ok-copy-in-Some-clause-put : goal.returns-in_ok-copy-in-Some-clause-put
returns-in_ok-copy-in-Some-clause-put g c =
    let laws = g.met.R.Rules.lawful c.args.rules.now [] in
    let exact : Exact g.R.Key.Ord.cmp = record { total = g.met.R.Key.Ord.total; exact = laws.exact } in
    IfOk-weaker c.claim_place.result _ _
    (λ o h. none_weaker o
    (λ added. claimed_put g.R.Key.Ord.cmp exact g.R.Rules.codes c.self.inside.others.entries c.claim_place.new.places.entries c.in_ok-copy-in-Some.copy c.args.number
    c.self.inside.codes.entries c.args.key.now ((c.in_ok-copy-in-Some.ensures {u = tt}).copy ∙ c.key-in-Some-3.ensures) c.args.self.now c.self.view_is c.code-code.result c.in-Some.first.now (c.code-code.ensures.code ∙ ap (λ k. g.R.Rules.codes k) c.key.ensures) c.in-Some.ensures
    (λ e. not_both (c.is_same_key.ensures.1 (c.key-in-Some.ensures ∙ e ∙ sym c.key-in-Some-2.ensures)) c.if-is_same_key.false) added) h)
    c.claim_place.ensures.put

pub returns-in_ok-put_first-in-None-clause-put : goal.returns-in_ok-put_first-in-None-clause-put
returns-in_ok-put_first-in-None-clause-put g c =
    let laws = g.met.R.Rules.lawful c.args.rules.now [] in
    let exact : Exact g.R.Key.Ord.cmp = record { total = g.met.R.Key.Ord.total; exact = laws.exact } in
    first_put g.R.Key.Ord.cmp exact g.R.Rules.codes c.self.inside.codes.entries c.put_first.new.codes.entries c.self.inside.others.entries c.args.self.now c.self.view_is c.self.invariant
    c.args.key.now c.in_ok-copy-in-None.field-0 c.args.number c.code-code.result c.in_ok-copy-in-None.ensures (c.code-code.ensures.code ∙ ap (λ k. g.R.Rules.codes k) c.key.ensures)
    c.in-None.ensures c.in_ok-put_first-in-None.ensures.put
