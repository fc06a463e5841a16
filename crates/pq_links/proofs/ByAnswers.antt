-- What each query asks and ends in, by the answers that it reads: the proofs of the public laws.
use Rattle.std.proofs.Common.{◌≡◌, ℕ, Bool, List, [], ◌∷◌, ◌++◌, Option, Some, None, refl, sym, ap, subst, ◌∙◌, append-nil, append_assoc}
use Rattle.pq_rules.specs.declared.turn.Turn.{Turn}
use Rattle.pq_rules.specs.declared.turn.Turn.TheVariants.{Ask, Done}
use Rattle.pq_rules.specs.Embedding.{Runs}
use Rattle.pq_links.specs.Answers.{IsParsedBy, AreItemsBy, AreImportsBy, AsksLinks, AreLinksOf, AreLinksBy}
use Rattle.pq_links.specs.Files.{read_file, file_imports, items_of}
use Rattle.pq_links.specs.Visibility.{links_by, no_links}
use Rattle.pq_links.specs.aux.Queries.{parse_starts, parse_advances, items_starts, items_advances, imports_starts, imports_advances, join_next, join_imports, linked_starts, linked_advances}
use Rattle.pq_links.specs.declared.file_items.FileItems.{FileItems}
use Rattle.pq_links.specs.declared.files.ParsedFile.{ParsedFile}
use Rattle.pq_links.specs.declared.linked.Linking.{Linking}
use Rattle.pq_links.specs.declared.linked.Linking.TheVariants.{Reading, Joining}
use Rattle.pq_links.specs.declared.links.Import.{Import}
use Rattle.pq_links.specs.declared.links.Links.{Links}

-- a run of a query that asks one key and ends in what `made` makes of the answer
one_read : {K W A : Type 0} (asked : K) (made : A → W) (es : List (K × A)) (w : W)
    → Runs (λ (q : Unit {0}) (a : A). Done (made a)) (Ask asked tt) es (Done w)
    → (a : A) × (es ≡ (asked, a) ∷ []) × (w ≡ made a)
unfolding Runs
one_read asked made [] w r = cc
one_read asked made (e ∷ []) w r =
    let asks = r.1 in
    let key : e.0 ≡ asked = cc in
    let last = r.2 in
    let is : w ≡ made e.1 = cc in
    (e.1, ap (λ k. (k, e.1) ∷ []) key, is)
one_read asked made (e ∷ (d ∷ ds)) w r = let more = r.2.1 in cc

pub parse_given : {K A : Type 0} (loose : Bool) (input : List ℕ → K) (text : A → Option (List ℕ)) (f : List ℕ) (es : List (K × A)) (v : ParsedFile)
    → Runs (λ (q : Unit {0}) (a : A). parse_advances loose (text a)) (parse_starts input f) es (Done v) → IsParsedBy loose input text f es v
parse_given loose input text f es v r = one_read (input f) (λ a. read_file loose (text a)) es v r

pub items_given : {K A : Type 0} (parse : List ℕ → K) (parsed : A → ParsedFile) (f : List ℕ) (es : List (K × A)) (v : FileItems)
    → Runs (λ (q : Unit {0}) (a : A). items_advances (parsed a)) (items_starts parse f) es (Done v) → AreItemsBy parse parsed f es v
items_given parse parsed f es v r = one_read (parse f) (λ a. items_of (parsed a)) es v r

pub imports_given : {K A : Type 0} (items : List ℕ → K) (itemed : A → FileItems) (f : List ℕ) (es : List (K × A)) (v : Option (List Import))
    → Runs (λ (q : Unit {0}) (a : A). imports_advances (itemed a)) (imports_starts items f) es (Done v) → AreImportsBy items itemed f es v
imports_given items itemed f es v r = one_read (items f) (λ a. file_imports (itemed a)) es v r

module _ {K A : Type 0} (imports linked : List ℕ → K) (read : A → Option (List Import)) (links : A → Links) where
  abbrev pub advances : Linking → A → Turn K Linking Links
  advances q a = linked_advances linked (read a) (links a) q

  -- the links of the imports that are left are asked in order
  joined : (f : List ℕ) (left : List Import) (pairs : List (Import × Links)) (es : List (K × A)) (l : Links)
      → Runs advances (join_next linked f left pairs) es (Done l)
      → (more : List (Import × Links)) × AsksLinks linked links left es more × (l ≡ links_by f (pairs ++ more))
  unfolding Runs
  joined f [] pairs [] l r = let is : l ≡ links_by f pairs = cc in ([], refl, is ∙ ap (links_by f) (sym (append-nil pairs)))
  joined f [] pairs (e ∷ es) l r = let none = r.1 in cc
  joined f (i ∷ is) pairs [] l r = cc
  joined f (i ∷ is) pairs (e ∷ es) l r =
      let asks = r.1 in
      let key : e.0 ≡ linked i.file = cc in
      let part_is : r.0 ≡ Joining f (i ∷ is, pairs) = cc in
      let rest = joined f is (pairs ++ (i, links e.1) ∷ []) es l (subst (λ (q : Linking). Runs advances (advances q e.1) es (Done l)) part_is r.2) in
      ((i, links e.1) ∷ rest.0, (rest.0, key, refl, rest.1), rest.2 ∙ ap (links_by f) (append_assoc pairs ((i, links e.1) ∷ []) rest.0))

  ends_in_links : (f : List ℕ) (o : Option (List Import)) (es : List (K × A)) (l : Links) → Runs advances (join_imports linked f o) es (Done l) → AreLinksOf linked links f o es l
  unfolding Runs
  ends_in_links f None [] l r = let is : l ≡ no_links = cc in (refl, is)
  ends_in_links f None (e ∷ es) l r = let none = r.1 in cc
  ends_in_links f (Some is) es l r = joined f is [] es l r

  -- the imports are asked first
  pub links_given : (f : List ℕ) (es : List (K × A)) (l : Links) → Runs advances (linked_starts imports f) es (Done l) → AreLinksBy imports linked read links f es l
  unfolding Runs
  links_given f [] l r = cc
  links_given f (e ∷ es) l r =
      let asks = r.1 in
      let key : e.0 ≡ imports f = cc in
      let part_is : r.0 ≡ Reading f = cc in
      (key, ends_in_links f (read e.1) es l (subst (λ (q : Linking). Runs advances (advances q e.1) es (Done l)) part_is r.2))
