-- What follows from a change of a document or of the disk.
use Rattle.std.proofs.Common.{◌≡◌, ℕ, List, [], ◌∷◌, false, refl, sym, ◌∙◌, ap, subst}
use Rattle.std.specs.Prelude.{Option, bytes_eq, filter_map, flat_map}
use Rattle.std.proofs.Math.Path.{fun_ext}
use Rattle.std.proofs.lemmas.Bool.{cond-false}
use Rattle.std.proofs.lemmas.Cmp.{nat_list_eq_equiv}
use Rattle.pq_view.specs.Views.{View, Texts, name_below, or_else}
use Rattle.pq_view.specs.Edits.{AreEdits, with_document, with_file, with_text}
use Rattle.pq_view.specs.aux.Touched.{SameBut, edited, touched, touched_by}
use Rattle.pq_view.specs.declared.edits.Edit.{Edit}
use Rattle.pq_view.proofs.Editing.{are_edits}
use Rattle.pq_view.proofs.Untouched.{kept_or_touched}

-- another file keeps its text
kept_text : (path q : List ℕ) (text : Option (List ℕ)) (texts : Texts) → bytes_eq q path ≡ false → texts q ≡ with_text path text texts q
kept_text path q text texts f = sym (cond-false (bytes_eq path q) text (texts q) (nat_list_eq_equiv.symm path q ∙ f))

-- a document changes its path alone
document_alone : (v : View) (path : List ℕ) (text : Option (List ℕ)) → SameBut path v (with_document path text v)
document_alone v path text = record {
  roots = refl;
  texts = λ q f. ap (λ t. or_else t (v.disk q)) (kept_text path q text v.documents f);
  documents = λ q f. kept_text path q text v.documents f;
}

-- a file of the disk changes its path alone
file_alone : (v : View) (path : List ℕ) (text : Option (List ℕ)) → SameBut path v (with_file path text v)
file_alone v path text = record {
  roots = refl;
  texts = λ q f. ap (λ t. or_else (v.documents q) t) (kept_text path q text v.disk f);
  documents = λ q f. refl;
}

-- the edits of the touched names are those of the change
touched_edits : (v w : View) (path : List ℕ) (names : List (List ℕ)) (es : List Edit) → SameBut path v w → names ≡ touched v path → es ≡ edited v w [] names → AreEdits v w es
touched_edits v w path names es same is e =
    are_edits v w (touched v path) es (kept_or_touched path v w same) (e ∙ ap (edited v w []) is)

-- the names that are touched below the same roots
touched_below : (v : View) (path : List ℕ) (roots : List (List ℕ)) (names : List (List ℕ)) → roots ≡ v.roots
    → names ≡ path ∷ flat_map (touched_by v.documents roots) (filter_map (name_below path) roots) → names ≡ touched v path
touched_below v path roots names same is = is ∙ ap (λ (rs : List (List ℕ)). path ∷ flat_map (touched_by v.documents rs) (filter_map (name_below path) rs)) same

-- the edits of a document
pub document_done : (v b a : View) (path : List ℕ) (text : Option (List ℕ)) (roots names : List (List ℕ)) (es : List Edit) → b ≡ v → a ≡ with_document path text v → roots ≡ v.roots
    → names ≡ path ∷ flat_map (touched_by v.documents roots) (filter_map (name_below path) roots) → es ≡ edited b a [] names → AreEdits v (with_document path text v) es
document_done v b a path text roots names es eb ea same is e =
    touched_edits v (with_document path text v) path names es (document_alone v path text) (touched_below v path roots names same is)
    (e ∙ ap (λ x. edited x a [] names) eb ∙ ap (λ x. edited v x [] names) ea)

-- the edits of a file of the disk
pub file_done : (v b a : View) (path : List ℕ) (text : Option (List ℕ)) (roots names : List (List ℕ)) (es : List Edit) → b ≡ v → a ≡ with_file path text v → roots ≡ v.roots
    → names ≡ path ∷ flat_map (touched_by v.documents roots) (filter_map (name_below path) roots) → es ≡ edited b a [] names → AreEdits v (with_file path text v) es
file_done v b a path text roots names es eb ea same is e =
    touched_edits v (with_file path text v) path names es (file_alone v path text) (touched_below v path roots names same is)
    (e ∙ ap (λ x. edited x a [] names) eb ∙ ap (λ x. edited v x [] names) ea)

-- the edits hold when the document is put
pub document_put : (v : View) (new : Texts) (p path q : List ℕ) (t text : Option (List ℕ)) (es : List Edit) → p ≡ path → q ≡ path → t ≡ text → AreEdits v (with_document p t v) es
    → ((x : List ℕ) → new x ≡ with_text q text v.documents x) → AreEdits v (record { roots = v.roots; disk = v.disk; documents = new }) es
document_put v new p path q t text es ep eq et done put =
    let P : Texts → Type 0 = λ d. AreEdits v (record { roots = v.roots; disk = v.disk; documents = d }) es in
    subst P (ap (λ x. with_text x t v.documents) (ep ∙ sym eq) ∙ ap (λ x. with_text q x v.documents) et ∙ sym (fun_ext put)) done

-- the edits hold when the file is put
pub file_put : (v : View) (new : Texts) (p path q : List ℕ) (t text : Option (List ℕ)) (es : List Edit) → p ≡ path → q ≡ path → t ≡ text → AreEdits v (with_file p t v) es
    → ((x : List ℕ) → new x ≡ with_text q text v.disk x) → AreEdits v (record { roots = v.roots; disk = new; documents = v.documents }) es
file_put v new p path q t text es ep eq et done put =
    let P : Texts → Type 0 = λ d. AreEdits v (record { roots = v.roots; disk = d; documents = v.documents }) es in
    subst P (ap (λ x. with_text x t v.disk) (ep ∙ sym eq) ∙ ap (λ x. with_text q x v.disk) et ∙ sym (fun_ext put)) done
