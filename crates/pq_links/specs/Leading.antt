-- The walks between files, and which files a walk leads to (proto3 language specification, "Import
-- Statement"). The law `reach_is_walks` says by them what a file exports, sees and reaches, beside
-- the lists of `Visibility`, which also have an order.
--
-- A walk goes from a file to a file that it imports, and so on. An absent file imports nothing, so a
-- walk can only end at one.
use Rattle.std.specs.Prelude.{ℕ, ◌≡◌, ◌⊎◌, true, List, [], unwrap_or}
use Rattle.pq_rules.specs.Relations.{In, Leads}
use Rattle.pq_links.specs.ImportGraph.{Graph, imported}
use Rattle.pq_links.specs.declared.links.Import.{Import}

-- `Imports g f h` is that the file `f` imports the file `h`
abbrev pub Imports : Graph → List ℕ → List ℕ → Type 0
Imports g f h = In h (imported g f)

-- `ImportsPublicly g f h` is that a public import of the file `f` is that of the file `h`
abbrev pub ImportsPublicly : Graph → List ℕ → List ℕ → Type 0
ImportsPublicly g f h = (i : Import) × In i (unwrap_or (g f) []) × (i.is_public ≡ true) × (i.file ≡ h)

-- `LeadsTo g f h` is that `h` is the file `f`, or that a walk leads from `f` to `h`
abbrev pub LeadsTo : Graph → List ℕ → List ℕ → Type 0
LeadsTo g f h = Leads (Imports g) f h

-- `LeadsPublicly g f h` is that `h` is the file `f`, or that a walk of public imports alone leads
-- from `f` to `h`
abbrev pub LeadsPublicly : Graph → List ℕ → List ℕ → Type 0
LeadsPublicly g f h = Leads (ImportsPublicly g) f h

-- `IsInView g f h` is that `h` is the file `f`, or that public imports lead to `h` from a file that
-- `f` imports, publicly or not
abbrev pub IsInView : Graph → List ℕ → List ℕ → Type 0
IsInView g f h = (f ≡ h) ⊎ ((k : List ℕ) × Imports g f k × LeadsPublicly g k h)
