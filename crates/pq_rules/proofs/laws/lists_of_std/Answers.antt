use Rattle.std.proofs.Common.{IsTrue}
use Rattle.pq_rules.proofs.ListLemmas.{each_all, all_each, in_contains, contains_in}
use Rattle.pq_rules.proofs.laws.lists_of_std.Goals as goal

pub returns : goal.returns
returns g c = record {
  each = λ test xs. (each_all (λ x. IsTrue (test x)) xs, all_each (λ x. IsTrue (test x)) xs);
  has = λ x xs. (in_contains x xs, contains_in x xs);
}
