-- The import that a statement is, by whether its name is UTF-8, and the test by which imports are
-- the same.
use Rattle.std.proofs.Common.{◌≡◌, ℕ, Bool, true, false, cond, ◌&&◌, not, List, [], ◌∷◌, ◌++◌, Option, Some, None, refl, sym, ap, ◌∙◌}
use Rattle.std.specs.Prelude.{bytes_eq, option_to_list}
use Rattle.std.specs.Cmp.Derive.{both_true as and_true}
use Rattle.std.specs.List.{cons_option}
use Rattle.std.specs.Ordering.{eq_by_cmp}
use Rattle.std.proofs.lemmas.Slice.Eq.{bytes_eq-Decides}
use Rattle.pq_syntax.specs.declared.tree.Node.{Node}
use Rattle.pq_links.specs.Files.{same_import, import_statements, import_of, imports_of}
use Rattle.pq_links.specs.aux.Adding.{add_firsts}
use Rattle.pq_links.specs.contracts.links as links
use Rattle.pq_links.specs.contracts.links.ImportOrd.TheImpl.Laws.{matches_eq-law}
use Rattle.pq_links.specs.declared.links.Import.{Import}
use Rattle.pq_links.proofs.Adding.{added_once, once_alike}
use Rattle.pq_links.proofs.Equality.{import_statement}

abbrev pub no_import : Option Import
no_import = None

abbrev pub some_import : List ℕ → Bool → Option Import
some_import file p = Some (record { file = file; is_public = p })

-- an import by a name that is UTF-8, and by one that is not
pub import_some : (b : Bool) (name file : List ℕ) (p : Bool) → Some name ≡ cond b (Some file) None
    → some_import name p ≡ cond b (some_import file p) no_import
import_some true name file p e = let is : name ≡ file = cc in ap (λ (x : List ℕ). some_import x p) is
import_some false name file p e = cc

pub import_none : (b : Bool) (file : List ℕ) (p : Bool) → None ≡ cond b (Some file) None
    → no_import ≡ cond b (some_import file p) no_import
import_none true file p e = cc
import_none false file p e = refl

more : (o : Option Import) (is : List Import) → cons_option o is ≡ option_to_list o ++ is
more None is = refl
more (Some i) is = refl

-- the imports of one more statement
pub imports_more : (n : Node) (ns : List Node) → import_statements (n ∷ ns) ≡ option_to_list (import_of n.statement) ++ import_statements ns
imports_more n ns = more (import_of n.statement) (import_statements ns)

both_are : (a b : Bool) → cond a b (not b) ≡ true → a ≡ b
both_are true true e = refl
both_are true false e = cc
both_are false true e = cc
both_are false false e = refl

same_flag : (a : Bool) → cond a a (not a) ≡ true
same_flag true = refl
same_flag false = refl

and_left : (a b : Bool) → (a && b) ≡ true → a ≡ true
and_left true b e = refl
and_left false b e = cc

and_right : (a b : Bool) → (a && b) ≡ true → b ≡ true
and_right true b e = e
and_right false b e = cc

-- imports are the same exactly if they are equal
pub import_exact : (a b : Import) → same_import a b ≡ true → a ≡ b
import_exact a b e =
    let file : a.file ≡ b.file = (bytes_eq-Decides a.file b.file).0 (and_left (bytes_eq a.file b.file) (cond a.is_public b.is_public (not b.is_public)) e) in
    let public : a.is_public ≡ b.is_public = both_are a.is_public b.is_public (and_right (bytes_eq a.file b.file) (cond a.is_public b.is_public (not b.is_public)) e) in
    λ i. record { file = file i; is_public = public i }

pub import_equal : (a b : Import) → a ≡ b → same_import a b ≡ true
import_equal a b e =
    and_true
    ((bytes_eq-Decides a.file b.file).1 (ap (λ i. i.file) e))
    (ap (λ (i : Import). cond a.is_public i.is_public (not i.is_public)) (sym e) ∙ same_flag a.is_public)

both_true : (a b : Bool) → (a ≡ true → b ≡ true) → (b ≡ true → a ≡ true) → a ≡ b
both_true true true f g = refl
both_true true false f g = sym (f refl)
both_true false true f g = g refl
both_true false false f g = refl

-- the order of imports tells the same
pub import_alike : (a b : Import) → eq_by_cmp links.ImportOrd.TheImpl.ghosts.cmp a b ≡ same_import a b
import_alike a b =
    sym (matches_eq-law a b)
    ∙ both_true (links.ImportPartialEq.TheImpl.ghosts.eq a b) (same_import a b) (λ e. import_equal a b ((import_statement a b).0 e)) (λ e. (import_statement a b).1 (import_exact a b e))

-- the imports that are added one after another are those of the statements
pub added_imports : (nodes : List Node) → add_firsts (eq_by_cmp links.ImportOrd.TheImpl.ghosts.cmp) [] (import_statements nodes) ≡ imports_of nodes
added_imports nodes =
    added_once (eq_by_cmp links.ImportOrd.TheImpl.ghosts.cmp) (λ a b e. import_exact a b (sym (import_alike a b) ∙ e)) (import_statements nodes)
    ∙ once_alike (eq_by_cmp links.ImportOrd.TheImpl.ghosts.cmp) same_import import_alike (import_statements nodes)
