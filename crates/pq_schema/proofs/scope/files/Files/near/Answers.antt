use Rattle.std.proofs.Common.{ℕ, List, sym, subst}
use Rattle.std.specs.List.{Contains}
use Rattle.std.specs.Option.{option_copied}
use Rattle.std.proofs.lemmas.List.Sorted.{Contains-permutation}
use Rattle.pq_rules.proofs.ListLemmas.{in_contains, contains_in}
use Rattle.pq_schema.specs.aux.InPackage.{dotted}
use Rattle.pq_schema.specs.declared.scope.scope.FileDefs.{FileDefs}
use Rattle.pq_schema.specs.aux.Grouping.{AreNear}
use Rattle.pq_schema.specs.aux.Scopes.{chain}
use Rattle.pq_schema.proofs.Grouping.{listed}
use Rattle.pq_schema.proofs.scope.files.Files.near.Goals as goal

pub returns : goal.returns
returns c =
    let near = c.in_ok-near.near.items in
    let sorted = c.sort_unstable.new.self.items in
    record {
      near = subst (λ (fs : List FileDefs). AreNear sorted fs (chain (option_copied c.args.within))) c.self.view_is
          (record {
            rising = c.sort_unstable.ensures.sorted;
            all = λ k f at among.
                let there = c.in_ok-near.ensures.places f.defs.package_name k among
                (subst (λ (es : List (List ℕ × ℕ)). Contains es (dotted f.defs.package_name, k)) (sym c.deref.ensures.value) (listed c.self.inside.files.items c.self.invariant.0 k f at)) in
                contains_in k sorted (Contains-permutation near sorted k c.sort_unstable.ensures.permutation (in_contains k near there));
          });
    }
