-- The packages inside each of the scopes from a package outwards.
use Rattle.std.proofs.Common.{◌≡◌, ℕ, zero, suc, ◌+◌, ◌<◌, ◌≤◌, length, get_or, take, drop, List, [], ◌∷◌, ◌++◌, Option, Some, None, sym, ap, subst, ◌∙◌, arith, append_assoc}
use Rattle.std.specs.Prelude.{IfSome, codes}
use Rattle.std.proofs.Math.Seq.{take-suc}
use Rattle.std.proofs.lemmas.List.{take-append-drop, take-take}
use Rattle.pq_rules.proofs.Characterisation.{each_append}
use Rattle.pq_schema.specs.declared.scope.package_range.PackageRange.{PackageRange}
use Rattle.pq_schema.specs.declared.scope.scope.FileDefs.{FileDefs}
use Rattle.pq_schema.specs.aux.InPackage.{dotted}
use Rattle.pq_schema.specs.aux.PackageRange.{AreRanges, IsRange}

-- a scope with one part more, and the dot
part_more : (lead : List ℕ) (start at : ℕ) → start ≤ at → at < length lead → get_or lead at 0 ≡ 46 → take start lead ++ dotted (drop start (take at lead)) ≡ take (at + 1) lead
part_more lead start at up within dot =
    let next : suc at ≡ at + 1 = omega arith in
    ap (λ (xs : List ℕ). xs ++ dotted (drop start (take at lead))) (sym (take-take start at lead up))
    ∙ sym (append_assoc (take start (take at lead)) (drop start (take at lead)) (codes "."))
    ∙ ap (λ (xs : List ℕ). xs ++ codes ".") (take-append-drop start (take at lead))
    ∙ ap (λ (b : ℕ). take at lead ++ b ∷ []) (sym dot)
    ∙ sym (take-suc lead at 0 within)
    ∙ ap (λ (n : ℕ). take n lead) next

pub range_more : (files : List FileDefs) (lead part : List ℕ) (start at byte : ℕ) (r : PackageRange) → start ≤ at → at < length lead → get_or lead at 0 ≡ byte → byte ≡ 46
    → part ≡ drop start (take at lead) → IsRange files (take start lead ++ dotted part) r → IsRange files (take (at + 1) lead) r
range_more files lead part start at byte r up within is dot of_part range =
    subst (λ (l : List ℕ). IsRange files l r) (ap (λ (p : List ℕ). take start lead ++ dotted p) of_part ∙ part_more lead start at up within (is ∙ dot)) range

pub ranges_more : (files : List FileDefs) (lead : List ℕ) (old new : List (ℕ × PackageRange)) (n : ℕ) (r : PackageRange) → new ≡ old ++ (n, r) ∷ []
    → AreRanges files lead old → IsRange files (take n lead) r → AreRanges files lead new
ranges_more files lead old new n r is so_far range =
    subst (AreRanges files lead) (sym is) (each_append (λ (e : ℕ × PackageRange). IsRange files (take e.0 lead) e.1) old ((n, r) ∷ []) so_far (range, tt))

pub range_there : (files : List FileDefs) (lead : List ℕ) (rs : List (ℕ × PackageRange)) (k : ℕ) (d : ℕ × PackageRange) → AreRanges files lead rs → k < length rs
    → IsRange files (take (get_or rs k d).0 lead) (get_or rs k d).1
range_there files lead [] k d all within = absurd (omega arith)
range_there files lead (e ∷ es) zero d all within = all.0
range_there files lead (e ∷ es) (suc k) d all within = range_there files lead es k d all.1 (omega arith)

pub packages_some : (files : List FileDefs) (lead : List ℕ) (rs : List (ℕ × PackageRange)) (start : ℕ) (o : Option PackageRange) → AreRanges files lead rs
    → IfSome o (λ r. (fs : List FileDefs) (l : List ℕ) → AreRanges fs l rs → IsRange fs (take start l) r) → IfSome o (λ r. IsRange files (take start lead) r)
packages_some files lead rs start None are h = tt
packages_some files lead rs start (Some r) are h = h files lead are
