-- What each query asks and ends in, by the answers that it reads. The public laws state these of
-- every sum of queries, whatever its keys and answers are.
--
-- `es` is the questions of a run in order, each with its answer.
use Rattle.std.specs.Prelude.{ℕ, Bool, ◌≡◌, List, [], ◌∷◌, Option, Some, None}
use Rattle.pq_links.specs.Visibility.{links_by, no_links}
use Rattle.pq_links.specs.Files.{read_file, file_imports, items_of}
use Rattle.pq_links.specs.declared.file_items.FileItems.{FileItems}
use Rattle.pq_links.specs.declared.files.ParsedFile.{ParsedFile}
use Rattle.pq_links.specs.declared.links.Import.{Import}
use Rattle.pq_links.specs.declared.links.Links.{Links}

-- `IsParsedBy loose input text f es v` is that the one question is for the text of the file `f`, and
-- that `v` is what a file is read as with the text of the answer
abbrev pub IsParsedBy : {K A : Type 0} → Bool → (List ℕ → K) → (A → Option (List ℕ)) → List ℕ → List (K × A) → ParsedFile → Type 0
IsParsedBy {A = A} loose input text f es v = (a : A) × (es ≡ (input f, a) ∷ []) × (v ≡ read_file loose (text a))

-- `AreItemsBy parse parsed f es v` is that the one question is for what the file `f` is read as, and
-- that `v` is that without spans
abbrev pub AreItemsBy : {K A : Type 0} → (List ℕ → K) → (A → ParsedFile) → List ℕ → List (K × A) → FileItems → Type 0
AreItemsBy {A = A} parse parsed f es v = (a : A) × (es ≡ (parse f, a) ∷ []) × (v ≡ items_of (parsed a))

-- `AreImportsBy items itemed f es v` is that the one question is for what the file `f` is without
-- spans, and that `v` is the imports of that, or `None` where it is absent
abbrev pub AreImportsBy : {K A : Type 0} → (List ℕ → K) → (A → FileItems) → List ℕ → List (K × A) → Option (List Import) → Type 0
AreImportsBy {A = A} items itemed f es v = (a : A) × (es ≡ (items f, a) ∷ []) × (v ≡ file_imports (itemed a))

-- `AsksLinks linked links is es pairs` is that the questions are for the links of the files of the
-- imports `is`, in order, and that `pairs` is these imports, each with the links of its answer
abbrev pub AsksLinks : {K A : Type 0} → (List ℕ → K) → (A → Links) → List Import → List (K × A) → List (Import × Links) → Type 0
AsksLinks linked links [] [] pairs = pairs ≡ []
AsksLinks linked links [] (e ∷ es) pairs = ⊥
AsksLinks linked links (i ∷ is) [] pairs = ⊥
AsksLinks linked links (i ∷ is) (e ∷ es) pairs =
    (more : List (Import × Links)) × (e.0 ≡ linked i.file) × (pairs ≡ (i, links e.1) ∷ more) × AsksLinks linked links is es more

-- `AreLinksOf linked links f imports es l` is what `AreLinksBy` says after the first question, of
-- which `imports` is the answer: an absent file ends at once without links; a present file asks the
-- links of its imports' files, and `l` is the links by these
abbrev pub AreLinksOf : {K A : Type 0} → (List ℕ → K) → (A → Links) → List ℕ → Option (List Import) → List (K × A) → Links → Type 0
AreLinksOf linked links f None es l = (es ≡ []) × (l ≡ no_links)
AreLinksOf linked links f (Some is) es l = (pairs : List (Import × Links)) × AsksLinks linked links is es pairs × (l ≡ links_by f pairs)

-- `AreLinksBy imports linked imported links f es l` is that the first question is for the imports
-- of the file `f`, the others are for the links of these imports' files in order, and `l` is the
-- links of `f` by these
abbrev pub AreLinksBy : {K A : Type 0} → (List ℕ → K) → (List ℕ → K) → (A → Option (List Import)) → (A → Links) → List ℕ → List (K × A) → Links → Type 0
AreLinksBy imports linked imported links f [] l = ⊥
AreLinksBy imports linked imported links f (e ∷ es) l = (e.0 ≡ imports f) × AreLinksOf linked links f (imported e.1) es l
