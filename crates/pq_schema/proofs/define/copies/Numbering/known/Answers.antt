use Rattle.std.proofs.Common.{sym, subst, ◌∙◌, List}
use Rattle.std.specs.Cmp.Lexicographic.{bytes_decides}
use Rattle.pq_rules.specs.Relations.{Each}
use Rattle.pq_schema.specs.declared.define.copies.Numbered.{Numbered}
use Rattle.pq_schema.specs.aux.Copies.{IsKnown}
use Rattle.pq_schema.proofs.NumberedNames.{known_at}
use Rattle.pq_schema.proofs.define.copies.Numbering.known.Goals as goal

pub returns-then-eq : goal.returns-then-eq
returns-then-eq c =
    let k = c.in-Some-get.known.now in
    let ks = c.deref.result.now in
    record {
      known = λ root names are. known_at root names ks c.in-Some.place.now k c.args.scope c.args.name.now
          (subst (λ (xs : List Numbered). Each (λ (x : Numbered). IsKnown root names x.scope x.name x.number) xs) (sym c.deref.ensures.value) are.known)
          c.in-Some-get.ensures.lookup.3.0 (sym (c.in-Some-get.ensures.lookup.3.1 k)) c.if-known-scope.true
          ((bytes_decides k.name c.args.name.now).0 (sym c.eq.ensures ∙ c.if-eq.true));
    }
