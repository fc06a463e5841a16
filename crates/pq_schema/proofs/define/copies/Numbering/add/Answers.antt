use Rattle.std.proofs.Common.{ℕ, List, Option, IfSome, refl, subst, ◌∙◌}
use Rattle.pq_schema.specs.aux.Copies.{IsKnown, IsNumbering}
use Rattle.pq_schema.proofs.NumberedNames.{added_copy, added_name}
use Rattle.pq_schema.proofs.define.copies.Numbering.add.Goals as goal

pub returns-in-Some : goal.returns-in-Some
returns-in-Some c = record {
  added = λ root names outer at are.
      added_copy root names outer c.args.scope c.args.name.now at c.args.self.now _ c.in-Some.number refl c.in_ok-push.ensures.items
      (subst (λ (o : Option ℕ). IfSome o (λ n. (root : List ℕ) (names : List (List ℕ)) → IsNumbering root names c.args.self.now → IsKnown root names c.args.scope c.args.name.now n))
      c.in-Some.is c.in_ok-number.ensures.known root names are) are;
}

pub returns : goal.returns
returns c = record {
  added = λ root names outer at.
      added_name root names outer c.args.scope c.args.name.now at c.args.self.now _ c.len-number.result
      (record { scope = c.args.scope; name = c.in_ok-name.name; number = c.len-number.result }) refl c.in_ok-name.ensures.copy refl (c.len-number.ensures ∙ c.args.self.now.copies.ok.0)
      c.in_ok-push-2.ensures.items c.in_ok-push-3.ensures.items;
}
