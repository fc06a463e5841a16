-- Auxiliary: each further question of the queries lowers what is left (used by proofs and
-- invariants only). A law of a trait's impl may cite specs/ alone.
use Rattle.std.proofs.Common.{◌≡◌, ℕ, List, [], ◌∷◌, ◌++◌, length, refl, sym, subst, inl, inr, arith}
use Rattle.pq_rules.specs.declared.turn.Turn.TheVariants.{Ask}
use Rattle.pq_rules.specs.Turns.{IsLower}
use Rattle.pq_syntax.specs.declared.tree.Node.{Node}
use Rattle.pq_links.specs.declared.links.Links.{Links}
use Rattle.pq_schema.specs.Contents.{Defs}
use Rattle.pq_schema.specs.ScopeContents.{Scope}
use Rattle.pq_schema.specs.aux.Queries.{defs_advances, collect_next, scope_advances, scope_left, resolved_advances, resolved_left}
use Rattle.pq_schema.specs.declared.queries.resolved.ResolvedPart.{ResolvedPart}
use Rattle.pq_schema.specs.declared.queries.resolved.ResolvedPart.TheVariants.{ReadScope, ReadTree}
use Rattle.pq_schema.specs.declared.scope.scope.FileDefs.{FileDefs}
use Rattle.pq_schema.specs.declared.queries.scopes.ScopePart.{ScopePart}
use Rattle.pq_schema.specs.declared.queries.scopes.ScopePart.TheVariants.{ReadLinks, Collect}

pub defs_falls : {K : Type 0} (nodes : List Node) (q : K) (r : Unit {0}) → defs_advances nodes ≡ Ask q r → IsLower (0, 0) (0, 0)
defs_falls nodes q r e = cc

next_falls : {K : Type 0} (defs : List ℕ → K) (visible left : List (List ℕ)) (files : List FileDefs) (n : ℕ × ℕ) (q : K) (r : ScopePart)
    → IsLower (0, length left) n → collect_next defs visible left files ≡ Ask q r → IsLower (scope_left r) n
next_falls defs visible [] files n q r low e = cc
next_falls defs visible (x ∷ xs) files n q r low e =
    let part : r ≡ Collect (visible, (x ∷ xs, files)) = cc in subst (λ (p : ScopePart). IsLower (scope_left p) n) (sym part) low

pub scope_falls : {K : Type 0} (defs : List ℕ → K) (links : Links) (read : Defs) (p : ScopePart) (q : K) (r : ScopePart)
    → scope_advances defs links read p ≡ Ask q r → IsLower (scope_left r) (scope_left p)
scope_falls defs links read ReadLinks q r e = next_falls defs links.visible links.reach [] (1, 0) q r (inl (omega arith)) e
scope_falls defs links read (Collect (visible, ([], files))) q r e = cc
scope_falls defs links read (Collect (visible, (x ∷ xs, files))) q r e =
    next_falls defs visible xs (files ++ record { file = x; defs = read } ∷ []) (0, length (x ∷ xs)) q r (inr (refl, omega arith)) e

pub resolved_falls : {K : Type 0} (items : List ℕ → K) (scope : Scope) (nodes : List Node) (p : ResolvedPart) (q : K) (r : ResolvedPart)
    → resolved_advances items scope nodes p ≡ Ask q r → IsLower (resolved_left r) (resolved_left p)
resolved_falls items scope nodes (ReadScope f) q r e =
    let part : r ≡ ReadTree scope = cc in subst (λ (p : ResolvedPart). IsLower (resolved_left p) (1, 0)) (sym part) (inl (omega arith))
resolved_falls items scope nodes (ReadTree read) q r e = cc
