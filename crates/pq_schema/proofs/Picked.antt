-- The files of a scope by the links of a file: where these reach each file that they show, the
-- scope has each visible file with its definitions.
use Rattle.std.proofs.Common.{◌≡◌, ℕ, Bool, true, false, cond, List, [], ◌∷◌, map, Some, refl, sym, ap, ◌∙◌, inl, inr, true≢false}
use Rattle.std.specs.Prelude.{bytes_eq, find}
use Rattle.std.specs.List.{cons_option}
use Rattle.std.proofs.lemmas.Slice.Eq.{bytes_eq-Decides}
use Rattle.pq_rules.specs.Relations.{In}
use Rattle.pq_links.proofs.Reached.{Within, Reaches}
use Rattle.pq_links.specs.declared.links.Links.{Links}
use Rattle.pq_schema.specs.Contents.{Defs}
use Rattle.pq_schema.specs.ScopeContents.{Scope}
use Rattle.pq_schema.specs.Compile.{with_defs, scope_of_links}
use Rattle.pq_schema.specs.Answers.{picked, scope_by}
use Rattle.pq_schema.specs.declared.scope.scope.FileDefs.{FileDefs}

abbrev scope_parts : List FileDefs → List FileDefs → Scope
scope_parts v r = record { visible = v; reach = r }

abbrev is_file : List ℕ → FileDefs → Bool
is_file n f = bytes_eq f.file n

found_test : (defined : List ℕ → Defs) (n r : List ℕ) (rs : List (List ℕ)) → (In n rs → find (is_file n) (map (with_defs defined) rs) ≡ Some (with_defs defined n))
    → (b : Bool) → bytes_eq r n ≡ b → In n (r ∷ rs) → cond b (Some (with_defs defined r)) (find (is_file n) (map (with_defs defined) rs)) ≡ Some (with_defs defined n)
found_test defined n r rs later true e i = ap (λ x. Some (with_defs defined x)) ((bytes_eq-Decides r n).0 e)
found_test defined n r rs later false e (inl p) = absurd (true≢false (sym ((bytes_eq-Decides r n).1 (sym p)) ∙ e))
found_test defined n r rs later false e (inr j) = later j

found_in : (defined : List ℕ → Defs) (n : List ℕ) (reach : List (List ℕ)) → In n reach → find (is_file n) (map (with_defs defined) reach) ≡ Some (with_defs defined n)
found_in defined n [] i = absurd i
found_in defined n (r ∷ rs) i = found_test defined n r rs (found_in defined n rs) (bytes_eq r n) refl i

picked_all : (defined : List ℕ → Defs) (reach names : List (List ℕ)) → Within names reach → picked (map (with_defs defined) reach) names ≡ map (with_defs defined) names
picked_all defined reach [] a = refl
picked_all defined reach (n ∷ ns) a =
    ap (λ o. cons_option o (picked (map (with_defs defined) reach) ns)) (found_in defined n reach a.0) ∙ ap (λ fs. with_defs defined n ∷ fs) (picked_all defined reach ns a.1)

pub scope_defined : (defined : List ℕ → Defs) (l : Links) → Reaches l → scope_by l.visible (map (with_defs defined) l.reach) ≡ scope_of_links defined l
scope_defined defined l r = ap (λ (fs : List FileDefs). scope_parts fs (map (with_defs defined) l.reach)) (picked_all defined l.reach l.visible r.1)
