-- The files that a file imports are among those that any file imports.
use Rattle.std.proofs.Common.{◌≡◌, ℕ, Bool, List, [], ◌∷◌, map, Option, Some, None, unwrap_or, refl, inl, inr}
use Rattle.std.specs.Str.{bytes_eq}
use Rattle.std.proofs.lemmas.Bool.{cases_Bool}
use Rattle.pq_inputs.specs.Sources.{Sources, file_in}
use Rattle.pq_rules.specs.Relations.{Each, In}
use Rattle.pq_rules.specs.aux.Lists.{in_append_left, in_append_right}
use Rattle.pq_links.specs.Files.{read_file, file_imports, items_of}
use Rattle.pq_links.specs.ImportGraph.{file_of}
use Rattle.pq_links.specs.aux.Mentioned.{mentioned, all_mentioned}
use Rattle.pq_links.specs.declared.links.Import.{Import}
use Rattle.pq_links.proofs.NameKinds.{IfImportsIn}

pub file_mentions : (loose : Bool) (files : Sources) (name w : List ℕ) → In w (mentioned loose (file_in files name).text) → In w (all_mentioned loose files)
unfolding file_in
file_mentions loose [] name w i = i
file_mentions loose (x ∷ xs) name w i = elim (cases_Bool (bytes_eq x.0 name)) [
  | inl h ↦ in_append_left w (mentioned loose x.1.text) (all_mentioned loose xs) (rw h at i)
  | inr h ↦ in_append_right w (mentioned loose x.1.text) (all_mentioned loose xs) (file_mentions loose xs name w (rw h at i))
]

each_sub : (N : List ℕ → Type 0) (xs : List (List ℕ)) → ((w : List ℕ) → In w xs → N w) → Each N xs
each_sub N [] sub = tt
each_sub N (x ∷ xs) sub = (sub x (inl refl), each_sub N xs (λ w i. sub w (inr i)))

imports_sub : (N : List ℕ → Type 0) (is : Option (List Import)) → ((w : List ℕ) → In w (map file_of (unwrap_or is [])) → N w) → IfImportsIn N is
imports_sub N None sub = tt
imports_sub N (Some is) sub = each_sub N (map file_of is) sub

-- where each name that any file imports is of the kind `N`, those that a file imports are
pub text_in_kind : (N : List ℕ → Type 0) (loose : Bool) (files : Sources) → ((w : List ℕ) → In w (all_mentioned loose files) → N w)
    → (name : List ℕ) → IfImportsIn N (file_imports (items_of (read_file loose (file_in files name).text)))
text_in_kind N loose files mentions name =
    imports_sub N (file_imports (items_of (read_file loose (file_in files name).text))) (λ w i. mentions w (file_mentions loose files name w i))
