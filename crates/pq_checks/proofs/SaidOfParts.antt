-- Loops over statements that say something of each part of a statement.
use Rattle.std.proofs.Common.{◌≡◌, ℕ, List, [], ◌∷◌, ◌++◌, refl, sym, ap, ◌∙◌}
use Rattle.std.specs.Prelude.{flat_map}
use Rattle.std.specs.List.{enumerate_from}
use Rattle.std.proofs.lemmas.Grind.{flat_map-append}
use Rattle.std.proofs.lemmas.List.Folds.{flat_map-map}
use Rattle.pq_syntax.specs.declared.parts.Setting.{Setting}
use Rattle.pq_checks.specs.Earlier.{of_each_after}
use Rattle.pq_checks.specs.Faults.{constant_faults, package_faults}
use Rattle.pq_checks.specs.Members.{assigned, all_assigned}
use Rattle.pq_checks.specs.aux.Lines.{package_line}
use Rattle.pq_checks.specs.aux.Seen.{setting_faults}

-- what is said of each part of each of a list
pub of_parts : {A B C : Type 0} (g : B → List C) (f : A → List B) (xs : List A) → flat_map (λ x. flat_map g (f x)) xs ≡ flat_map g (flat_map f xs)
of_parts g f [] = refl
of_parts g f (x ∷ xs) = ap (λ ys. flat_map g (f x) ++ ys) (of_parts g f xs) ∙ sym (flat_map-append g (f x) (flat_map f xs))

-- what is said of the options of a statement
pub of_settings : (item : ℕ) (ss : List Setting) → flat_map (setting_faults item) (enumerate_from 0 ss) ≡ flat_map constant_faults (all_assigned item ss)
of_settings item ss = sym (flat_map-map constant_faults (assigned item) (enumerate_from 0 ss))

later_packages : (q : ℕ) (qs ps : List ℕ) → of_each_after package_faults (q ∷ qs) ps ≡ flat_map package_line ps
unfolding of_each_after
later_packages q qs [] = refl
later_packages q qs (p ∷ ps) = ap (λ ys. package_line p ++ ys) (later_packages q (qs ++ p ∷ []) ps)

-- only the first package is right
pub of_packages : (p : ℕ) (ps : List ℕ) → of_each_after package_faults [] (p ∷ ps) ≡ flat_map package_line ps
unfolding of_each_after
of_packages p ps = later_packages p [] ps

pub of_no_packages : of_each_after package_faults [] [] ≡ []
unfolding of_each_after
of_no_packages = refl
