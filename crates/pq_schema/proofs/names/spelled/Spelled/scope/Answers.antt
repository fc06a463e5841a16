use Rattle.std.proofs.Common.{◌≡◌, ◌++◌, ◌∷◌, ℕ, List, [], refl, sym, ap, subst, ◌∙◌, append_assoc}
use Rattle.pq_schema.specs.aux.Spots.{IsPlain}
use Rattle.pq_schema.proofs.LastDots.{last_dot, not_plain}
use Rattle.pq_schema.proofs.names.spelled.Spelled.scope.Goals as goal

pub returns-in-Some-eq46-clause-dotted : goal.returns-in-Some-eq46-clause-dotted
returns-in-Some-eq46-clause-dotted c s n plain is =
    let taken = c.bytes.invariant.0 in
    let last : c.bytes.rest ≡ c.pop.new.self ++ 46 ∷ [] = cc in
    let whole : c.args.self.now ≡ c.pop.new.self ++ 46 ∷ taken =
    c.bytes.invariant.2 ∙ ap (λ (x : List ℕ). x ++ taken) last ∙ append_assoc c.pop.new.self (46 ∷ []) taken in
    last_dot c.pop.new.self s taken n c.bytes.invariant.1 plain (sym whole ∙ is)

pub returns-in-Some-eq46-clause-plain : goal.returns-in-Some-eq46-clause-plain
returns-in-Some-eq46-clause-plain c plain =
    let taken = c.bytes.invariant.0 in
    let last : c.bytes.rest ≡ c.pop.new.self ++ 46 ∷ [] = cc in
    let whole : c.args.self.now ≡ c.pop.new.self ++ 46 ∷ taken =
    c.bytes.invariant.2 ∙ ap (λ (x : List ℕ). x ++ taken) last ∙ append_assoc c.pop.new.self (46 ∷ []) taken in
    absurd (not_plain c.pop.new.self taken c.bytes.invariant.1 (subst IsPlain whole plain))

pub returns-in-None-clause-dotted : goal.returns-in-None-clause-dotted
returns-in-None-clause-dotted c s n plain is =
    let taken = c.bytes.invariant.0 in
    let none : c.bytes.rest ≡ [] = c.in-None.ensures.end refl in
    let whole : c.args.self.now ≡ taken = c.bytes.invariant.2 ∙ ap (λ (x : List ℕ). x ++ taken) none in
    absurd (not_plain s n plain (subst IsPlain (sym whole ∙ is) c.bytes.invariant.1))
