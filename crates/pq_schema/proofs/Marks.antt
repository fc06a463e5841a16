-- The marks of the scopes that have definitions, and the scopes that they leave.
use Rattle.std.proofs.Common.{◌≡◌, ℕ, ◌+◌, ◌<◌, ◌≤◌, Bool, true, false, cond, true≢false, List, [], ◌∷◌, ◌++◌, length, get_or, map, take, replicate, Option, Some, None, refl, sym, ap, subst, ◌∙◌, arith, append_assoc}
use Rattle.std.specs.Prelude.{bytes_eq, codes, filter}
use Rattle.std.proofs.lemmas.List.{take_more, map-append, get_or-replicate}
use Rattle.std.proofs.lemmas.List.Elements.{filter-append}
use Rattle.std.proofs.lemmas.Slice.Eq.{bytes_eq-Decides}
use Rattle.std.proofs.Math.Seq.{take-append_seam}
use Rattle.pq_rules.specs.Relations.{Each}
use Rattle.pq_rules.proofs.Characterisation.{each_append}
use Rattle.pq_schema.specs.declared.define.definitions.Definition.{Definition}
use Rattle.pq_schema.specs.declared.scope.scope.FileDefs.{FileDefs}
use Rattle.pq_schema.specs.Definitions.{qualified}
use Rattle.pq_schema.specs.Resolution.{Meaning, defined_in, meaning, prefixes, scopes}
use Rattle.pq_schema.specs.Resolution.Meaning.{Defined, Undefined}
use Rattle.pq_schema.specs.aux.Grouping.{AreNear, around}
use Rattle.pq_schema.specs.aux.NameParts.{leading}
use Rattle.pq_schema.specs.aux.Scopes.{chain, first_of, after_first, is_among}
use Rattle.pq_schema.specs.aux.Spots.{AreMarked, AreSpots, FilesMarked, IsMarked, IsPlain, LeavesNone, MarksStay, is_kept}
use Rattle.pq_schema.proofs.Cases.{either}
use Rattle.pq_schema.proofs.Near.{chain_first}
use Rattle.pq_schema.proofs.Prefixes.{no_dot, before_last}
use Rattle.pq_schema.proofs.Among.{among_append}
use Rattle.pq_schema.proofs.ScopesWithin.{or_left, or_right, scope_front, scope_within, scopes_through}

-- ---- one more definition

pub each_more : {A : Type 0} (P : A → Type 0) (xs : List A) (i : ℕ) (d : A) → i < length xs → Each P (take i xs) → P (get_or xs i d) → Each P (take (i + 1) xs)
each_more P xs i d within all here =
    subst (λ ys. Each P ys) (sym (take_more xs i d within)) (each_append P (take i xs) (get_or xs i d ∷ []) all (here, tt))

pub each_weaker : {A : Type 0} (P Q : A → Type 0) (xs : List A) → ((x : A) → P x → Q x) → Each P xs → Each Q xs
each_weaker P Q [] f all = tt
each_weaker P Q (x ∷ xs) f all = (f x all.0, each_weaker P Q xs f all.1)

pub marks_stay : (old new : List Bool) (root : List ℕ) (ds : List Definition) → MarksStay old new → AreMarked old root ds → AreMarked new root ds
marks_stay old new root ds stay are =
    record {
      each = each_weaker (λ (d : Definition). IsMarked old root d.full_name) (λ (d : Definition). IsMarked new root d.full_name) ds
          (λ d is s n among plain named. stay (length s) (is s n among plain named)) are.each;
    }

-- the scope of a full name
pub scope_named : (name scope s n : List ℕ)
    → ((s n : List ℕ) → IsPlain n → name ≡ s ++ 46 ∷ n → scope ≡ s)
    → (IsPlain name → scope ≡ [])
    → IsPlain n → name ≡ qualified s n → scope ≡ s
scope_named name scope [] n dotted alone plain is = alone (subst IsPlain (sym is) plain)
scope_named name scope (c ∷ cs) n dotted alone plain is = dotted (c ∷ cs) n plain (is ∙ append_assoc (c ∷ cs) (codes ".") n)

-- the first bytes of the package are a scope of its length
pub scope_taken : (s root : List ℕ) → is_among s (scopes root) ≡ true → take (length s) root ≡ s
scope_taken s root h =
    let at = scope_front s root h in
    ap (λ (r : List ℕ). take (length s) r) at.1 ∙ take-append_seam s at.0

-- ---- a scope without a mark has no definition

none_in : (marks : List Bool) (root file : List ℕ) (ds : List Definition) (s n : List ℕ) (otherwise : Meaning)
    → Each (λ (d : Definition). IsMarked marks root d.full_name) ds
    → is_among s (scopes root) ≡ true → IsPlain n → is_kept marks s ≡ false
    → defined_in file ds (qualified s n) otherwise ≡ otherwise
unfolding defined_in
none_in marks root file [] s n otherwise all among plain free = refl
none_in marks root file (d ∷ ds) s n otherwise all among plain free =
    either (bytes_eq d.full_name (qualified s n)) (λ b. cond b (Defined file d) (defined_in file ds (qualified s n) otherwise) ≡ otherwise)
    (λ t. absurd (true≢false (sym (all.0 s n among plain ((bytes_eq-Decides d.full_name (qualified s n)).0 t)) ∙ free)))
    (λ f. none_in marks root file ds s n otherwise all.1 among plain free)

none_of : (marks : List Bool) (root : List ℕ) (files : List FileDefs) (s n : List ℕ)
    → Each (λ (f : FileDefs). AreMarked marks root f.defs.definitions) files
    → is_among s (scopes root) ≡ true → IsPlain n → is_kept marks s ≡ false
    → meaning files (qualified s n) ≡ Undefined
unfolding meaning
none_of marks root [] s n all among plain free = refl
none_of marks root (f ∷ fs) s n all among plain free =
    none_in marks root f.file f.defs.definitions s n (meaning fs (qualified s n)) all.0.each among plain free
    ∙ none_of marks root fs s n all.1 among plain free

pub leaves_marked : (marks : List Bool) (root : List ℕ) (files : List FileDefs) → FilesMarked marks root files → LeavesNone marks root files
leaves_marked marks root files are s n among plain free = none_of marks root files s n are.each among plain free

pub leaves_full : (marks : List Bool) (root : List ℕ) (files : List FileDefs) → marks ≡ replicate (length root + 1) true → LeavesNone marks root files
leaves_full marks root files full s n among plain free =
    let within = scope_within s root among in
    let kept : is_kept marks s ≡ true =
    ap (λ (m : List Bool). get_or m (length s) false) full ∙ get_or-replicate (length root + 1) (length s) true false (omega arith) in
    absurd (true≢false (sym kept ∙ free))

-- ---- the scopes with a mark

kept_append : (keep : List ℕ → Bool) (xs ys : List (List ℕ)) → map leading (filter keep (xs ++ ys)) ≡ map leading (filter keep xs) ++ map leading (filter keep ys)
kept_append keep xs ys = ap (λ (zs : List (List ℕ)). map leading zs) (filter-append keep xs ys) ∙ map-append leading (filter keep xs) (filter keep ys)

-- once the first scope is looked at
pub kept_step : (keep : List ℕ → Bool) (inner : Option (List ℕ)) (scope : List ℕ) (old new whole : List (List ℕ))
    → scope ≡ first_of inner
    → new ≡ old ++ map leading (filter keep (scope ∷ []))
    → old ++ map leading (filter keep (chain inner)) ≡ whole
    → new ++ map leading (filter keep (after_first inner)) ≡ whole
kept_step keep inner scope old new whole at is so_far =
    let rest = map leading (filter keep (after_first inner)) in
    ap (λ (xs : List (List ℕ)). xs ++ rest) (is ∙ ap (λ (s : List ℕ). old ++ map leading (filter keep (s ∷ []))) at)
    ∙ append_assoc old (map leading (filter keep (first_of inner ∷ []))) rest
    ∙ ap (λ (xs : List (List ℕ)). old ++ xs) (sym (kept_append keep (first_of inner ∷ []) (after_first inner)))
    ∙ ap (λ (ss : List (List ℕ)). old ++ map leading (filter keep ss)) (sym (chain_first inner))
    ∙ so_far

-- ---- the files near the scopes with a mark

pub near_scope : (near : List ℕ) (files : List FileDefs) (root s n : List ℕ)
    → is_among s (scopes root) ≡ true → IsPlain n → AreNear near files (scopes root) → AreNear near files (around (leading s ++ n))
near_scope near files root [] n among plain are =
    subst (λ (ps : List (List ℕ)). AreNear near files (ps ++ [] ∷ [])) (sym (no_dot n plain))
    (record {
      rising = are.rising;
      all = λ k f at a. are.all k f at (scopes_through f.defs.package_name [] root among (or_right (bytes_eq [] f.defs.package_name) (is_among f.defs.package_name (prefixes [] ++ [] ∷ []))
          (among_append f.defs.package_name (prefixes []) ([] ∷ []) ∙ or_right (is_among f.defs.package_name (prefixes [])) (is_among f.defs.package_name ([] ∷ [])) a)));
    })
near_scope near files root (c ∷ cs) n among plain are =
    subst (λ (ps : List (List ℕ)). AreNear near files (ps ++ [] ∷ []))
    (sym (ap prefixes (append_assoc (c ∷ cs) (codes ".") n) ∙ before_last (c ∷ cs) n plain))
    (record { rising = are.rising; all = λ k f at a. are.all k f at (scopes_through f.defs.package_name (c ∷ cs) root among a) })

pub each_kept : (P : List ℕ → Type 0) (keep : List ℕ → Bool) (ss : List (List ℕ)) → ((s : List ℕ) → is_among s ss ≡ true → P (leading s)) → Each P (map leading (filter keep ss))
each_kept P keep [] h = tt
each_kept P keep (s ∷ ss) h =
    let rest = each_kept P keep ss (λ x a. h x (or_right (bytes_eq s x) (is_among x ss) a)) in
    either (keep s) (λ b. Each P (map leading (cond b (s ∷ filter keep ss) (filter keep ss))))
    (λ t. (h s (or_left (bytes_eq s s) (is_among s ss) ((bytes_eq-Decides s s).1 refl)), rest))
    (λ f. rest)

pub near_spots : (near : List ℕ) (files : List FileDefs) (root : List ℕ) (spots : List (List ℕ)) (n : List ℕ)
    → AreSpots files root spots → IsPlain n → AreNear near files (scopes root)
    → Each (λ s. AreNear near files (around (s ++ n))) spots
near_spots near files root spots n are plain close =
    subst (λ ss. Each (λ s. AreNear near files (around (s ++ n))) ss) (sym are.kept)
    (each_kept (λ s. AreNear near files (around (s ++ n))) are.keep (scopes root) (λ s among. near_scope near files root s n among plain close))

-- ---- a definition whose scope is looked at

-- the scope is longer than the package
pub no_scope : (marks : List Bool) (root name scope : List ℕ) (count : Option ℕ)
    → ((s n : List ℕ) → IsPlain n → name ≡ s ++ 46 ∷ n → scope ≡ s)
    → (IsPlain name → scope ≡ [])
    → (length scope ≤ length root → count ≡ Some (length scope))
    → count ≡ None → IsMarked marks root name
no_scope marks root name scope count dotted alone counted none s n among plain is =
    let same = scope_named name scope s n dotted alone plain is in
    let within = scope_within s root among in
    let some = counted (omega (arith, ap length same)) in
    cc

-- it is looked at
pub one_scope : (old new : List Bool) (root name scope : List ℕ) (count n : ℕ) (b : Bool)
    → ((s n : List ℕ) → IsPlain n → name ≡ s ++ 46 ∷ n → scope ≡ s)
    → (IsPlain name → scope ≡ [])
    → (length scope ≤ length root → Some n ≡ Some (length scope))
    → length old ≡ length root + 1
    → (take n root ≡ scope → get_or new n false ≡ true)
    → IsMarked new root name
one_scope old new root name scope count m b dotted alone counted long marked s n among plain is =
    let same = scope_named name scope s n dotted alone plain is in
    let within = scope_within s root among in
    let some = counted (omega (arith, ap length same)) in
    let at : m ≡ length s = cc (ap length same) in
    ap (λ (k : ℕ). get_or new k false) (sym at) ∙ marked (ap (λ (k : ℕ). take k root) at ∙ scope_taken s root among ∙ sym same)
