-- What a file exports, sees and reaches (proto3 language specification, "Import Statement", and
-- Language Guide (proto 3), "Importing Definitions").
--
-- A file exports itself and what its public imports export. It sees itself and what its imports
-- export. It reaches itself and what its imports reach. Each list is in text order, depth first,
-- with each name at its first place. An absent file exports, sees and reaches nothing.
use Rattle.std.specs.Prelude.{ℕ, zero, suc, ◌≡◌, cond, bytes_eq, List, [], ◌∷◌, ◌++◌, map, Option, Some, None}
use Rattle.pq_links.specs.Once.{each_once}
use Rattle.pq_links.specs.ImportGraph.{Graph, EndsWithin}
use Rattle.pq_links.specs.declared.links.Import.{Import}
use Rattle.pq_links.specs.declared.links.Links.{Links}

-- `firsts names` is `names` with each name at its first place alone
abbrev pub firsts : List (List ℕ) → List (List ℕ)
firsts names = each_once bytes_eq names

-- `passed_on pairs` is what the public imports of `pairs` export, `pairs` being the imports of a
-- file, each with the links of its file
abbrev pub passed_on : List (Import × Links) → List (List ℕ)
passed_on [] = []
passed_on (e ∷ es) = cond e.0.is_public e.1.exports [] ++ passed_on es

-- `shown pairs` is what all imports of `pairs` export
abbrev pub shown : List (Import × Links) → List (List ℕ)
shown [] = []
shown (e ∷ es) = e.1.exports ++ shown es

-- `reached pairs` is what all imports of `pairs` reach
abbrev pub reached : List (Import × Links) → List (List ℕ)
reached [] = []
reached (e ∷ es) = e.1.reach ++ reached es

-- `links_by f pairs` is the links of the present file `f` with the imports `pairs`, each with the
-- links of its file
abbrev pub links_by : List ℕ → List (Import × Links) → Links
links_by f pairs = record {
  exports = firsts (f ∷ passed_on pairs);
  visible = firsts (f ∷ shown pairs);
  reach = firsts (f ∷ reached pairs);
}

-- `no_links` is the links of an absent file
abbrev pub no_links : Links
no_links = record { exports = []; visible = []; reach = [] }

-- `links_or_none f links imports` is the links of the file `f` with `imports`, `None` where it is
-- absent, where `links i` is the links of the file of the import `i`
abbrev pub links_or_none : List ℕ → (Import → Links) → Option (List Import) → Links
links_or_none f links None = no_links
links_or_none f links (Some is) = links_by f (map (λ i. (i, links i)) is)

-- `links_within g n f` is the links of the file `f`, if each walk from it has fewer than `n` steps
unfoldable pub links_within : Graph → ℕ → List ℕ → Links
links_within g zero f = no_links
links_within g (suc n) f = links_or_none f (λ i. links_within g n i.file) (g f)

-- `AreLinks g f links` is that the file `f` is good and that `links` are its links
abbrev pub AreLinks : Graph → List ℕ → Links → Type 0
AreLinks g f links = (n : ℕ) × EndsWithin g n f × (links ≡ links_within g n f)
