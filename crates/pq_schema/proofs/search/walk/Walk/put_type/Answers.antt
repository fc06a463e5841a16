use Rattle.std.proofs.Common.{◌++◌, ◌∷◌, [], ℕ, List, Bool, cond, map, sym, ap, ◌∙◌, append-nil}
use Rattle.std.proofs.lemmas.Result.{IfOk-weaker}
use Rattle.pq_links.specs.declared.places.TypePart.TheVariants.{«Type»}
use Rattle.pq_schema.specs.References.{is_one_of, scalars}
use Rattle.pq_schema.specs.declared.search.references.Reference.{Reference}
use Rattle.pq_schema.specs.aux.Inside.{used, used_as}
use Rattle.pq_schema.proofs.search.walk.Walk.put_type.Goals as goal

pub returns-then-is_scalar : goal.returns-then-is_scalar
returns-then-is_scalar c =
    let old = map used c.args.self.now.uses.items in
    let r : Reference = record { item = c.args.item; part = «Type»; within = c.args.origin.scope.now.0; name = c.args.name.now.text } in
    let test = sym c.if-is_scalar.true ∙ c.is_scalar.ensures ∙ ap (λ (n : List ℕ). is_one_of scalars n) c.as_str.ensures.same in
    record {
      found = sym (append-nil old) ∙ ap (λ (b : Bool). old ++ map (used_as c.args.origin.files.now) (cond b [] (r ∷ []))) test;
      walk = c.requires.walk;
    }

pub returns : goal.returns
returns c =
    let old = map used c.args.self.now.uses.items in
    let r : Reference = record { item = c.args.item; part = «Type»; within = c.args.origin.scope.now.0; name = c.args.name.now.text } in
    let test = sym c.if-is_scalar.false ∙ c.is_scalar.ensures ∙ ap (λ (n : List ℕ). is_one_of scalars n) c.as_str.ensures.same in
    record {
      found = IfOk-weaker c.put.result _ _ (λ _ h. h ∙ ap (λ (b : Bool). old ++ map (used_as c.args.origin.files.now) (cond b [] (r ∷ []))) test) c.put.ensures.found;
      walk = c.put.ensures.walk;
    }
