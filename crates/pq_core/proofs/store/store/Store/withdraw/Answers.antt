use Rattle.std.proofs.Common.{◌≤◌, ◌+◌, ℕ, Bool, [], sym, ◌∙◌, ap, subst}
use Rattle.pq_rules.proofs.Weight.{Exact}
use Rattle.pq_core.specs.Accounts.{next_of}
use Rattle.pq_core.specs.aux.Rising.{found}
use Rattle.pq_core.proofs.WithdrawCounts.{withdrew_counted}
use Rattle.pq_core.proofs.WithdrawEach.{WithdrewBelow, next_some, withdrew_all, withdrew_first, withdrew_more, withdrew_none, withdrew_open, open_at}
use Rattle.pq_core.proofs.store.store.Store.withdraw.Goals as goal
use Rattle.pq_core.proofs.store.store.Store.withdraw.Goals.{then-withdraw_one, else-withdraw_one}

pub withdraw_one-requires : goal.withdraw_one-requires
withdraw_one-requires g c =
    let may = open_at c.args.self.now.accounts.items c.number.result c.args.client c.number.ensures (rw c.in_default.is at c.withdraw_refusal.ensures.may) in
    record { may = withdrew_open g.R.Key.Ord.cmp g.R.Rules.machine g.M.Stamp.point c.args.client c.args.label.now c.args.self.now c.requests.self may.0 c.requests.number c.requests.some may.1 c.requests.invariant }

pub requests-init : goal.requests-init
requests-init g c =
    let may = open_at c.args.self.now.accounts.items c.number.result c.args.client c.number.ensures (rw c.in_default.is at c.withdraw_refusal.ensures.may) in
    let first = (c.numbers_of-first.ensures.numbers may.0 (ap (λ (i : ℕ). found c.args.self.now.accounts.items i) c.number-2.ensures ∙ may.1)).0 in
    withdrew_first g.R.Key.Ord.cmp g.R.Rules.machine g.M.Stamp.point c.args.client c.args.label.now c.args.self.now may.0 c.numbers_of-first.result.0 may.1 first

pub requests-preserved : goal.requests-preserved
requests-preserved g c =
    let e = c.withdraw_one.ensures in
    let x = withdrew_more g.R.Key.Ord.cmp g.R.Rules.machine g.M.Stamp.point c.args.client c.args.label.now c.args.self.now c.requests.self c.withdraw_one.new.self c.requests.number c.requests.some c.requests.invariant c.withdraw_one.result
    (record { rules = e.rules; inputs = e.inputs; places = e.places; goes_on = e.goes_on; over = e.over; one = e.one }) in
    elim c.if-withdraw_one.branch [
      | then-withdraw_one w ↦
          subst (λ (s : Bool). WithdrewBelow g.R.Key.Ord.cmp g.R.Rules.machine g.M.Stamp.point c.args.client c.args.label.now (c.requests.number + 1) s c.args.self.now c.withdraw_one.new.self)
          (ap (λ (a : Bool). next_some a c.requests.some) w.if-withdraw_one.true ∙ sym w.some-is) x
      | else-withdraw_one w ↦
          subst (λ (s : Bool). WithdrewBelow g.R.Key.Ord.cmp g.R.Rules.machine g.M.Stamp.point c.args.client c.args.label.now (c.requests.number + 1) s c.args.self.now c.withdraw_one.new.self)
          (ap (λ (a : Bool). next_some a c.requests.some) w.if-withdraw_one.false ∙ sym w.some-is) x
    ]

pub returns-clause-moved : goal.returns-clause-moved
returns-clause-moved g c =
    let may = open_at c.args.self.now.accounts.items c.number.result c.args.client c.number.ensures (rw c.in_default.is at c.withdraw_refusal.ensures.may) in
    let last = (c.numbers_of-first.ensures.numbers may.0 (ap (λ (i : ℕ). found c.args.self.now.accounts.items i) c.number-2.ensures ∙ may.1)).1 in
    let past : next_of may.0 ≤ c.requests.number = rw last at c.requests-test.false in
    withdrew_all g.R.Key.Ord.cmp g.R.Rules.machine g.M.Stamp.point c.args.client c.args.label.now c.args.self.now c.requests.self may.0 c.requests.number c.requests.some may.1 past c.requests.invariant

pub returns-clause-counted : goal.returns-clause-counted
returns-clause-counted g c =
    let exact : Exact g.R.Key.Ord.cmp = record { total = g.met.R.Key.Ord.total; exact = (g.met.R.Rules.lawful c.args.self.now.rules []).exact } in
    let w = c.requests.invariant in
    λ log x. withdrew_counted g.R.Key.Ord.cmp exact (g.R.Rules.machine c.args.self.now.rules) c.args.self.now c.requests.self log c.args.client c.args.label.now c.numbers_of-first.ensures.claimed w.inputs w.places w.over x

pub returns-in-Some-clause-moved : goal.returns-in-Some-clause-moved
returns-in-Some-clause-moved g c =
    let fault = rw c.number.ensures at (c.in-Some.ensures {u = tt}).refused in
    withdrew_none g.R.Key.Ord.cmp g.R.Rules.machine g.M.Stamp.point c.args.client c.args.label.now c.args.self.now c.in-Some.fault fault

pub returns-in-Some-clause-counted : goal.returns-in-Some-clause-counted
returns-in-Some-clause-counted g c = λ log x. x
