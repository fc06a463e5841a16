use Rattle.std.proofs.Common.{ℕ, List, sym, ap, ◌∙◌}
use Rattle.pq_schema.specs.declared.scope.scope.FileDefs.{FileDefs}
use Rattle.pq_schema.specs.Resolution.{is_package}
use Rattle.pq_schema.proofs.Inside.{too_long}
use Rattle.pq_schema.proofs.scope.files.Files.is_package.Goals as goal

pub returns-then-is_longer : goal.returns-then-is_longer
returns-then-is_longer c =
    record {
      is = sym (ap (λ (fs : List FileDefs). is_package fs c.args.name.now) (sym c.self.view_is)
          ∙ too_long c.self.inside.longest c.self.inside.files.items c.args.name.now c.self.invariant.1 (c.is_longer.ensures.longer c.if-is_longer.true));
    }

pub returns : goal.returns
returns c =
    record {
      is = c.has.ensures.is ∙ ap (λ (n : List ℕ). is_package c.args.self.now n) (c.as_str.ensures.value ∙ c.in_ok-write_to.ensures.bytes);
    }
