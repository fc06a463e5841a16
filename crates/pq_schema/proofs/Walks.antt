-- One step of the walk through the scopes.
use Rattle.std.proofs.Common.{◌≡◌, ℕ, List, [], ◌∷◌, ◌++◌, Option, Some, None, refl, sym, ap, subst, ◌∙◌}
use Rattle.pq_schema.specs.Resolution.{Found, unless_type, prefixes}
use Rattle.pq_schema.specs.Resolution.Found.{FoundType, FoundOther, FoundNothing}
use Rattle.pq_schema.specs.aux.Scopes.{before, chain, after_first}
use Rattle.pq_schema.specs.declared.define.definitions.Definition.{Definition}

-- what is not a type in the inner scopes leaves the outer ones to decide, in whatever order they
-- are put together
pub grouped : (a b c : Found) → unless_type (unless_type a b) c ≡ unless_type a (unless_type b c)
grouped (FoundType f d) b c = refl
grouped FoundNothing b c = refl
grouped FoundOther (FoundType f d) c = refl
grouped FoundOther FoundNothing c = refl
grouped FoundOther FoundOther (FoundType f d) = refl
grouped FoundOther FoundOther FoundOther = refl
grouped FoundOther FoundOther FoundNothing = refl

pub nothing_further : (a : Found) → unless_type a FoundNothing ≡ a
nothing_further (FoundType f d) = refl
nothing_further FoundOther = refl
nothing_further FoundNothing = refl

-- a type stays
pub stays_type : (a further : Found) (file : List ℕ) (d : Definition) → a ≡ FoundType file d → unless_type a further ≡ a
stays_type a further file d is = subst (λ (x : Found). unless_type x further ≡ x) (sym is) refl

-- the scopes after the first, from the prefix of the first before its last dot
pub further : (inner next : Option (List ℕ)) (s : List ℕ) → inner ≡ Some s → prefixes s ≡ before next → after_first inner ≡ chain next
further inner next s is outer =
    ap (λ (o : Option (List ℕ)). after_first o) is ∙ ap (λ (ps : List (List ℕ)). ps ++ [] ∷ []) outer

pub no_further : (inner : Option (List ℕ)) → inner ≡ None → after_first inner ≡ []
no_further inner is = ap (λ (o : Option (List ℕ)). after_first o) is
