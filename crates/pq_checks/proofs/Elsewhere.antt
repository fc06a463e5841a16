-- A file that sees no other file has no definition that another file has too.
use Rattle.std.proofs.Common.{◌≡◌, ℕ, Bool, true, false, cond, List, [], ◌∷◌, ◌++◌, refl, sym, ap, ◌∙◌, append-nil, true≢false}
use Rattle.std.specs.Prelude.{◌||◌, filter, flat_map}
use Rattle.std.specs.List.{list_any}
use Rattle.pq_schema.specs.declared.define.definitions.Definition.{Definition}
use Rattle.pq_schema.specs.declared.scope.scope.FileDefs.{FileDefs}
use Rattle.pq_syntax.specs.declared.tree.Node.{Node}
use Rattle.pq_checks.specs.Faults.{is_at_top, elsewhere_faults}
use Rattle.pq_checks.specs.aux.Views.{is_other}
use Rattle.pq_checks.specs.declared.errors.fault.Fault.{Fault}

-- a choice between one list and itself
either_way : (b : Bool) (fs : List Fault) → cond b fs fs ≡ fs
either_way true fs = refl
either_way false fs = refl

first_out : {A : Type 0} (p : A → Bool) (x : A) (xs : List A) (b : Bool) → (b || list_any p xs) ≡ false
    → (list_any p xs ≡ false → filter p xs ≡ []) → cond b (x ∷ filter p xs) (filter p xs) ≡ []
first_out p x xs true h rest = absurd (true≢false h)
first_out p x xs false h rest = rest h

-- where no element passes, none is kept
none_kept : {A : Type 0} (p : A → Bool) (xs : List A) → list_any p xs ≡ false → filter p xs ≡ []
none_kept p [] h = refl
none_kept p (x ∷ xs) h = first_out p x xs (p x) h (none_kept p xs)

none_elsewhere : (nodes : List Node) (ds : List Definition) → flat_map (elsewhere_faults [] nodes) ds ≡ []
none_elsewhere nodes [] = refl
none_elsewhere nodes (d ∷ ds) = ap (λ (fs : List Fault). fs ++ flat_map (elsewhere_faults [] nodes) ds) (either_way (is_at_top nodes d) []) ∙ none_elsewhere nodes ds

pub alone : (done : List Fault) (file : List ℕ) (visible : List FileDefs) (nodes : List Node) (ds : List Definition)
    → list_any (is_other file) visible ≡ false → done ≡ done ++ flat_map (elsewhere_faults (filter (is_other file) visible) nodes) ds
alone done file visible nodes ds none =
    sym (ap (λ (os : List FileDefs). done ++ flat_map (elsewhere_faults os nodes) ds) (none_kept (is_other file) visible none)
    ∙ ap (λ (fs : List Fault). done ++ fs) (none_elsewhere nodes ds)
    ∙ append-nil done)
