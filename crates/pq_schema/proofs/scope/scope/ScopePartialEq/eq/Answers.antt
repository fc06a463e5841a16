use Rattle.std.proofs.Common.{◌≡◌, Bool, true, false, IsTrue, refl, sym, ◌∙◌, ap}
use Rattle.pq_schema.specs.ScopeContents.{Scope}
use Rattle.pq_schema.specs.aux.SameScopes.{same_lists, lists}
use Rattle.pq_schema.proofs.scope.scope.ScopePartialEq.eq.Goals as goal

not_true : (t : Bool) → (t ≡ true → ⊥) → false ≡ t
not_true true f = absurd (f refl)
not_true false f = refl

off : (t : Bool) → t ≡ false → IsTrue t → ⊥
off t e f = cc

-- scopes that differ in a part are not equal
differ : (a b : Scope) → (a ≡ b → ⊥) → false ≡ same_lists a b
differ a b ne = not_true (same_lists a b) (λ t. ne ((lists a b).0 t))

pub returns-then-not-may_equal : goal.returns-then-not-may_equal
returns-then-not-may_equal c =
    differ c.args.self.now c.args.other.now
    (λ e. off c.may_equal.result c.if-not-may_equal.true
    (c.may_equal.ensures.equal (c.visible.ensures.value ∙ (ap (λ (s : Scope). s.visible) e ∙ sym c.visible-2.ensures.value))))

pub returns-then-not-may_equal-2 : goal.returns-then-not-may_equal-2
returns-then-not-may_equal-2 c =
    differ c.args.self.now c.args.other.now
    (λ e. off c.may_equal-2.result c.if-not-may_equal-2.true
    (c.may_equal-2.ensures.equal (c.reach.ensures.value ∙ (ap (λ (s : Scope). s.reach) e ∙ sym c.reach-2.ensures.value))))
