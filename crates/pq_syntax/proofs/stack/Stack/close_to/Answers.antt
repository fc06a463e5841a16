use Rattle.std.proofs.Common.{◌≡◌, ℕ, ◌≤◌, ◌-◌, length, take, nat_lt, true, false, List, reverse, sym, ap, ◌∙◌, arith}
use Rattle.std.proofs.lemmas.Bool.Decides.{nat_tests}
use Rattle.pq_syntax.specs.Stacks.{closed}
use Rattle.pq_syntax.proofs.StackSteps.{closed_stop, closed_more, closed_none}
use Rattle.pq_syntax.proofs.stack.Stack.close_to.Goals as goal

pub returns-then-entry-depth : goal.returns-then-entry-depth
returns-then-entry-depth g c =
    let e = c.in-Some.entry.now in
    let xs = c.deref.result.now in
    let is : xs ≡ c.open.self-inside.entries.items = c.deref.ensures.value in
    let less : nat_lt e.0 c.args.depth ≡ true = grind (arith, nat_tests) in
    ap reverse (sym is)
    ∙ sym (closed_stop c.args.depth xs e c.in-Some.ensures.item.3.0 c.in-Some.ensures.item.1 less)
    ∙ ap (λ (ys : List (ℕ × g.row.T.Denot)). closed c.args.depth (reverse ys)) is
    ∙ c.open.invariant

pub open-preserved-else-entry-depth : goal.open-preserved-else-entry-depth
open-preserved-else-entry-depth g c =
    let e = c.in-Some.entry.now in
    let xs = c.deref.result.now in
    let is : xs ≡ c.open.self-inside.entries.items = c.deref.ensures.value in
    let left : c.pop.new.self.items ≡ take (length xs - 1) xs = cc (c.pop.ensures.rest, c.deref.ensures.len) in
    let not_less : nat_lt e.0 c.args.depth ≡ false = grind (arith, nat_tests) in
    ap (λ (ys : List (ℕ × g.row.T.Denot)). closed c.args.depth (reverse ys)) left
    ∙ closed_more c.args.depth xs e c.in-Some.ensures.item.3.0 c.in-Some.ensures.item.1 not_less
    ∙ ap (λ (ys : List (ℕ × g.row.T.Denot)). closed c.args.depth (reverse ys)) is
    ∙ c.open.invariant

pub returns : goal.returns
returns g c =
    let xs = c.deref.result.now in
    let is : xs ≡ c.open.self-inside.entries.items = c.deref.ensures.value in
    let none : length xs ≤ 0 = c.in_default.ensures.item.3 in
    ap reverse (sym is)
    ∙ sym (closed_none c.args.depth xs (omega arith))
    ∙ ap (λ (ys : List (ℕ × g.row.T.Denot)). closed c.args.depth (reverse ys)) is
    ∙ c.open.invariant
