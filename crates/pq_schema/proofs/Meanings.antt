-- The meaning of a full name, file by file.
use Rattle.std.proofs.Common.{◌≡◌, ℕ, ◌==◌, Bool, true, false, cond, ◌||◌, nat_eq, true≢false, List, [], ◌∷◌, ◌++◌, length, Option, Some, None, refl, arith}
use Rattle.std.specs.Prelude.{bytes_eq, codes, find}
use Rattle.std.specs.List.{starts_with}
use Rattle.std.proofs.lemmas.Bool.Decides.{Decides-eqb}
use Rattle.pq_schema.specs.declared.scope.scope.FileDefs.{FileDefs}
use Rattle.pq_schema.specs.declared.define.definitions.Definition.{Definition}
use Rattle.pq_schema.specs.Resolution.{Meaning, defined_in, is_package}
use Rattle.pq_schema.specs.Resolution.Meaning.{Defined}

-- `or_else file found otherwise` is the definition that is found in the file `file`, or `otherwise`
abbrev pub or_else : List ℕ → Option Definition → Meaning → Meaning
or_else file None otherwise = otherwise
or_else file (Some d) otherwise = Defined file d

found_test : (file : List ℕ) (d : Definition) (b : Bool) (rest : Option Definition) (whole otherwise : Meaning)
    → whole ≡ or_else file rest otherwise
    → cond b (Defined file d) whole ≡ or_else file (cond b (Some d) rest) otherwise
found_test file d true rest whole otherwise e = refl
found_test file d false rest whole otherwise e = e

pub defined_find : (file : List ℕ) (ds : List Definition) (name : List ℕ) (otherwise : Meaning)
    → defined_in file ds name otherwise ≡ or_else file (find (λ (d : Definition). bytes_eq d.full_name name) ds) otherwise
unfolding defined_in
defined_find file [] name otherwise = refl
defined_find file (d ∷ ds) name otherwise =
    found_test file d (bytes_eq d.full_name name) (find (λ (x : Definition). bytes_eq x.full_name name) ds) _ otherwise (defined_find file ds name otherwise)

-- `covers root name` is that `name` is the package `root`, or the part of it before a dot
abbrev pub covers : List ℕ → List ℕ → Bool
covers root name = bytes_eq root name || starts_with nat_eq root (name ++ codes ".")

pub package_cons : (f : FileDefs) (fs : List FileDefs) (name : List ℕ) → (length name == 0) ≡ false
    → is_package (f ∷ fs) name ≡ (covers f.defs.package_name name || is_package fs name)
unfolding is_package
package_cons f fs [] h = absurd (true≢false h)
package_cons f fs (c ∷ cs) h = refl

pub package_empty : (files : List FileDefs) (name : List ℕ) → (length name == 0) ≡ true → is_package files name ≡ false
unfolding is_package
package_empty [] name h = refl
package_empty (f ∷ fs) [] h = refl
package_empty (f ∷ fs) (c ∷ cs) h = absurd (omega (arith, (Decides-eqb (length (c ∷ cs)) 0).0 h))
