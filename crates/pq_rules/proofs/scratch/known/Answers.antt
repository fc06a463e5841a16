use Rattle.std.proofs.Common.{[], ◌<◌, ℕ, sym, subst}
use Rattle.pq_rules.specs.Turns.{over}
use Rattle.pq_rules.specs.Value.{Means}
use Rattle.pq_rules.specs.aux.AnswerTable.{Finished, entry, finished}
use Rattle.pq_rules.proofs.Rings.{each_in}
use Rattle.pq_rules.proofs.Weight.{Exact}
use Rattle.pq_rules.proofs.Finding.{found_in, not_found}
use Rattle.pq_rules.proofs.scratch.known.Goals as goal

pub returns-then-level-gt0-clause-none : goal.returns-then-level-gt0-clause-none
returns-then-level-gt0-clause-none g c =
    let laws = g.met.R.Rules.lawful c.args.rules.now [] in
    let exact : Exact g.R.Key.Ord.cmp = record { total = g.met.R.Key.Ord.total; exact = laws.exact } in
    record {
      high = subst (λ (n : ℕ). 0 < n) c.level.ensures.level c.if-level-gt0.true;
      no_answer = not_found g.R.Key.Ord.cmp exact c.args.key.now c.args.found.now.places c.args.found.now.answers (sym c.in-None.ensures.place);
    }

pub returns-in-Some-clause-means : goal.returns-in-Some-clause-means
returns-in-Some-clause-means g c a s =
    let laws = g.met.R.Rules.lawful c.args.rules.now [] in
    let exact : Exact g.R.Key.Ord.cmp = record { total = g.met.R.Key.Ord.total; exact = laws.exact } in
    let m = over g.R.Key.Ord.cmp (g.R.Rules.machine c.args.rules.now) c.args.inputs.now.files in
    each_in (λ (f : Finished g.row.R-Key.Denot g.row.R-Value.Denot). Means m f.key f.answer) (entry c.args.key.now a) (finished c.args.found.now) c.requires
    (found_in g.R.Key.Ord.cmp exact c.args.key.now c.in-Some.place a c.args.found.now.places c.args.found.now.answers (sym c.in-Some.ensures.place) s)
