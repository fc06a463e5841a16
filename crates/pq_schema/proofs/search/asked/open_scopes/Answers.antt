use Rattle.std.proofs.Common.{◌==◌, ◌+◌, ◌++◌, ◌∷◌, [], length, arith, ap, sym, ◌∙◌}
use Rattle.std.proofs.lemmas.Bool.Decides.{Decides-eqb}
use Rattle.std.proofs.lemmas.List.{length-append}
use Rattle.pq_schema.proofs.Answered.{opened_all, opened_more, opened_none, range_there}
use Rattle.pq_schema.proofs.search.asked.open_scopes.Goals as goal

pub scopes-init : goal.scopes-init
scopes-init c = (sym (c.len-level.ensures ∙ c.args.asked.now.ok.0), λ files more leads is range are. opened_none files more leads c.args.asked.now.items are)

pub scopes-preserved : goal.scopes-preserved
scopes-preserved c =
    let old = c.scopes.asked.items in
    let s = c.new.result in
    let i = c.scopes.invariant in (
      omega (arith, i.0, ap length c.in_ok-push.ensures.items, length-append old (s ∷ [])),
      λ files more leads is range are. opened_more files (more ++ leads) old c.push.new.self.items s c.in_ok-push.ensures.items
          (λ at there. c.new.ensures.asked files _ (range_there files (more ++ leads) at (c.scopes.level + 1 == c.args.count) c.args.packages c.packages_if-there.result
          c.packages_if-there.ensures.packages (λ t. omega (arith, i.0, is, there, (Decides-eqb (c.scopes.level + 1) c.args.count).0 t)) range))
          (i.1 files more leads is range are),
    )

pub returns : goal.returns
returns c =
    let i = c.scopes.invariant in
    record {
      asked = λ files more leads is range are. opened_all files (more ++ leads) c.scopes.asked.items (omega (arith, i.0, is, c.scopes-test.false, c.scopes.auto.level-end (omega (arith, is, length-append more leads, are.count, c.len-level.ensures, c.args.asked.now.ok.0)))) (i.1 files more leads is range are);
    }
