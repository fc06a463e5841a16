use Rattle.std.proofs.Common.{◌≡◌, ◌++◌, ◌∙◌, ℕ, List, sym, ap, subst}
use Rattle.std.specs.Prelude.{codes}
use Rattle.pq_syntax.specs.Places.{places}
use Rattle.pq_schema.specs.aux.InPackage.{AllBelow}
use Rattle.pq_schema.specs.aux.Index.{IsIndexOf}
use Rattle.pq_schema.specs.aux.Digests.{digest_from}
use Rattle.pq_schema.specs.declared.define.definitions.Definition.{Definition}
use Rattle.pq_schema.proofs.InPackage.{all_below}
use Rattle.pq_schema.proofs.define.definitions.Defs.of.Goals as goal

pub invariant_of-result : goal.invariant_of-result
invariant_of-result c =
    let root : c.in_ok-package.package ≡ c.in_ok-package_name.package_name = c.in_ok-package.ensures.name in
    let ds = c.in_ok-definitions.definitions.items in
    let below = subst (λ (r : List ℕ). AllBelow r ds) root (subst (AllBelow c.in_ok-package.package) (sym c.in_ok-definitions.ensures) (all_below c.in_ok-package.package (places c.args.nodes.now))) in
    let index = c.in_ok-index.ensures in (
      c.in_ok-root.ensures.dotted ∙ ap (λ (n : List ℕ). n ++ codes ".") c.as_str.ensures.same,
      below,
      subst (IsIndexOf c.in_ok-index.index.items) c.deref.ensures.value index,
      subst (λ (xs : List Definition). c.digest_of-digest.result ≡ digest_from 0 xs) c.deref-2.ensures.value c.digest_of-digest.ensures.digest,
    )
