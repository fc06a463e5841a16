-- Names right in a package, and the files near them.
use Rattle.std.proofs.Common.{◌≡◌, ◌≢◌, ℕ, suc, ◌<◌, ◌==◌, true, false, true≢false, List, [], ◌∷◌, ◌++◌, length, get_or, Some, None, refl, sym, ap, ◌∙◌, append-nil, arith}
use Rattle.std.specs.Prelude.{bytes_eq, codes}
use Rattle.std.specs.List.{concat}
use Rattle.std.proofs.lemmas.Bool.Decides.{Decides-eqb}
use Rattle.std.proofs.lemmas.Slice.Eq.{bytes_eq-Decides}
use Rattle.pq_schema.specs.Definitions.{qualified}
use Rattle.pq_schema.specs.Resolution.{scopes}
use Rattle.pq_schema.specs.declared.scope.scope.FileDefs.{FileDefs}
use Rattle.pq_schema.specs.aux.Grouping.{AreNear, around}
use Rattle.pq_schema.specs.aux.InPackage.{dotted}
use Rattle.pq_schema.specs.aux.NameParts.{leading}
use Rattle.pq_schema.specs.aux.RightIn.{IsRightIn, IsRoot}
use Rattle.pq_schema.proofs.Near.{near_name}

qualified_leading : (p simple : List ℕ) → qualified p simple ≡ leading p ++ simple
qualified_leading [] simple = refl
qualified_leading (c ∷ cs) simple = refl

pub right_in : (scope simple root name : List ℕ) → name ≡ scope ++ simple → ((i : ℕ) → i < length simple → get_or simple i 0 ≢ 46)
    → IsRoot scope root → IsRightIn name root
right_in scope simple root name is plain top p at = (simple, plain, is ∙ ap (λ (s : List ℕ). s ++ simple) (top p at) ∙ sym (qualified_leading p simple))

off : (n : ℕ) → 1 ≡ suc (suc n) → ⊥
off n h = absurd (omega arith)

long : (c : ℕ) (cs : List ℕ) → codes "." ≡ dotted (c ∷ cs) → ⊥
long c [] e = off 0 (ap length e)
long c (d ∷ ds) e = off (length (ds ++ codes ".")) (ap length e)

-- of no package, whose name with a dot is a dot alone, nothing is before a name
pub root_none : (parts : List (List ℕ)) (root : List ℕ) → bytes_eq root (codes ".") ≡ true → (length parts == 0) ≡ true → IsRoot (concat parts) root
root_none [] root dot none [] at = refl
root_none [] root dot none (c ∷ cs) at = absurd (long c cs (sym ((bytes_eq-Decides root (codes ".")).0 dot) ∙ at))
root_none (q ∷ qs) root dot none p at = absurd (omega (arith, (Decides-eqb (length (q ∷ qs)) 0).0 none))

-- of another its name with the dot is
pub root_one : (parts : List (List ℕ)) (root : List ℕ) → bytes_eq root (codes ".") ≡ false → concat parts ≡ root → IsRoot (concat parts) root
root_one parts root dot is [] at = absurd (true≢false (sym ((bytes_eq-Decides root (codes ".")).1 at) ∙ dot))
root_one parts root dot is (c ∷ cs) at = is ∙ at

pub only_part : (parts others : List (List ℕ)) (first root : List ℕ) → parts ≡ first ∷ others → (length others == 0) ≡ true
    → bytes_eq first root ≡ true → concat parts ≡ root
only_part parts (q ∷ qs) first root is one same = absurd (omega (arith, (Decides-eqb (length (q ∷ qs)) 0).0 one))
only_part parts [] first root is one same = ap concat is ∙ append-nil first ∙ (bytes_eq-Decides first root).0 same

-- the files near a package are near a name that is right in it
pub right_near : (near : List ℕ) (files : List FileDefs) (p full simple : List ℕ) → ((i : ℕ) → i < length simple → get_or simple i 0 ≢ 46)
    → full ≡ qualified p simple → AreNear near files (scopes p) → AreNear near files (around full)
right_near near files [] full simple plain is are = near_name near files None simple full plain is are
right_near near files (c ∷ cs) full simple plain is are = near_name near files (Some (c ∷ cs)) simple full plain is are
